use Rattle.std.proofs.Common.{◌≡◌, ◌+◌, ◌-◌, ◌^◌, take, drop, min}
use Rattle.std.specs.List.{prefix_len}
use Rattle.line_text.specs.Numbers.{is_digit, value}
use Rattle.line_text.proofs.digits.leading_digits.Given as goal

abbrev pub invariant-loop-count : goal.invariant-loop-count
invariant-loop-count l = record {
  so_far : l.number ≡ min (value (take l.count l.bytes)) (2 ^ 64 - 1);
  digits : prefix_len is_digit l.bytes ≡ l.count + prefix_len is_digit (drop l.count l.bytes);
}
