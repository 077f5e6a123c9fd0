use Rattle.std.proofs.Common.{◌≡◌, ◌+◌, length}
use Rattle.refute_log.specs.Text.{BeginsLog}
use Rattle.refute_log.proofs.read.judged.Given as goal

abbrev pub invariant-loop-line : goal.invariant-loop-line
invariant-loop-line l = record {
  begins : BeginsLog l.orders l.stated l.entries.items l.fn.lines l.lines;
  count : length l.fn.lines ≡ length l.entries.items + length l.lines + 1;
}

abbrev pub decreases-loop-line : goal.decreases-loop-line
decreases-loop-line l = length l.lines
