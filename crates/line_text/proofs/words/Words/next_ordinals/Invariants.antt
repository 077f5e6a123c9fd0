use Rattle.std.proofs.Common.{◌≡◌, ◌<◌, ◌++◌, length, All}
use Rattle.line_text.specs.Numbers.{ordinals}
use Rattle.line_text.proofs.words.Words.next_ordinals.Given as goal

abbrev pub invariant-loop : goal.invariant-loop
invariant-loop l = record {
  read : l.self ≡ ordinals l.things.items ++ l.ahead;
  count : length l.things.items ≡ l.counter;
  limit : All (λ thing. thing < l.most) l.things.items;
}
