use Rattle.std.proofs.Common.{◌≡◌, ◌+◌, not, drop}
use Rattle.std.specs.List.{prefix_len}
use Rattle.line_text.specs.Lines.{is_white}
use Rattle.schedule_text.proofs.tokens.token_length.Given as goal

abbrev pub invariant-loop-count : goal.invariant-loop-count
invariant-loop-count l =
    prefix_len (λ byte. not (is_white byte)) l.bytes
    ≡ l.count + prefix_len (λ byte. not (is_white byte)) (drop l.count l.bytes)
