use Rattle.std.proofs.Common.{◌≡◌, ◌++◌, length, All}
use Rattle.line_text.specs.Numbers.{signed_numbers, IsWithin}
use Rattle.line_text.proofs.words.Words.next_signed_numbers.Given as goal

abbrev pub invariant-loop : goal.invariant-loop
invariant-loop l = record {
  read : l.self ≡ signed_numbers l.numbers.items ++ l.ahead;
  count : length l.numbers.items ≡ l.counter;
  limit : All (IsWithin l.limit) l.numbers.items;
}
