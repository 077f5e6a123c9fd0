use Rattle.std.proofs.Common.{◌≡◌, ◌≤◌, ◌+◌, not, length}
use Rattle.std.specs.List.{position_from}
use Rattle.line_text.specs.Lines.{is_blank}
use Rattle.line_text.proofs.lines.Lines.first_filled.Given as goal

abbrev pub invariant-loop-line : goal.invariant-loop-line
invariant-loop-line l = record {
  is : position_from (λ line. not (is_blank line)) 0 l.initial.self
      ≡ position_from (λ line. not (is_blank line)) l.place l.self;
  within : l.place + length l.self ≤ length l.initial.self;
}

abbrev pub decreases-loop-line : goal.decreases-loop-line
decreases-loop-line l = length l.self
