use Rattle.std.proofs.Common.{◌≡◌, ◌+◌, ◌∷◌, flat_map, drop, get_or, of_z, pos, rules, to_z, w64}
use Rattle.std.specs.Fmt.{signed_decimal}
use Rattle.mill_io.proofs.Blockwise.{put-behind, put-fails-behind}
use Rattle.line_text.proofs.Printed.{print-around, print-more}
use Rattle.line_text.proofs.print.put_signed_numbers.Goals as goal

pub returns-in_err-put_signed : goal.returns-in_err-put_signed
returns-in_err-put_signed g c =
    let number = get_or c.args.numbers.now c.loop-number.number-index (pos 0) in
    let same : to_z w64 (of_z w64 number) ≡ number = search rules in
    put-fails-behind _ _ _ _ _ _ _ _ _ _ _ _
    (flat_map (λ y. 32 ∷ signed_decimal y) (drop (c.loop-number.number-index + 1)
    c.args.numbers.now))
    _ _ _ c.from_residual.result
    (print-around (λ y. 32 ∷ signed_decimal y) c.args.numbers.now c.loop-number.number-index
    (pos 0) _ c.loop-number-test.true same)
    c.from_residual.ensures.0 c.loop-number.invariant c.in_err-put_signed.ensures

pub loop-number-preserved : goal.loop-number-preserved
loop-number-preserved g c =
    let number = get_or c.args.numbers.now c.loop-number.number-index (pos 0) in
    let same : to_z w64 (of_z w64 number) ≡ number = search rules in
    put-behind _ _ _ _ _ _ _ _ _ _ _ _ _ _
    (print-more (λ y. 32 ∷ signed_decimal y) c.args.numbers.now c.loop-number.number-index (pos 0)
    _ c.loop-number-test.true same)
    c.loop-number.invariant c.in_ok-put_signed.ensures
