use Rattle.std.proofs.Common.{◌≡◌, ◌*◌, ◌+ℤ◌, drop}
use Rattle.list_laws.specs.Sets.{int_sum}
use Rattle.set_minima.specs.Cells.{IsSmall, slack_limit}
use Rattle.column_price.proofs.numbers.sum_of.Given as goal

abbrev pub invariant-loop-number : goal.invariant-loop-number
invariant-loop-number l = record {
  is : int_sum l.numbers ≡ l.sum +ℤ int_sum (drop l.number-index l.numbers);
  small : IsSmall (l.number-index * slack_limit) l.sum;
}
