use Rattle.std.proofs.Common.{◌<◌, length, IfSome}
use Rattle.std.specs.Prelude.{All}
use Rattle.plan_walk.proofs.draft.Draft.list.Given as goal

abbrev pub invariant-loop : goal.invariant-loop
invariant-loop l = record {
  next : IfSome l.next (λ place. place < length l.self.links);
  below : All (λ place. place < length l.self.links) l.places.items;
}
