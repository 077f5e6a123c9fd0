use Rattle.std.proofs.Common.{◌≡◌, ℕ, ◌<◌, ◌≤◌, get_or, true}
use Rattle.line_text.specs.Lines.{is_white}
use Rattle.instance_text.proofs.blank.first_not_blank.Given as goal

abbrev pub invariant-loop-at : goal.invariant-loop-at
invariant-loop-at l = (k : ℕ) → l.from ≤ k → k < l.at → is_white (get_or l.bytes k 0) ≡ true
