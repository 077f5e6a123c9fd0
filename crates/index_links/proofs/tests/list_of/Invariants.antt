use Rattle.std.proofs.Common.{◌<◌, length, IfSome}
use Rattle.index_links.proofs.tests.list_of.Given as goal

abbrev pub invariant-loop : goal.invariant-loop
invariant-loop l = IfSome l.next (λ order. order < length l.links)
