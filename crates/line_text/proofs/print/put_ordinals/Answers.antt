use Rattle.std.proofs.Common.{◌+◌, ◌∷◌, flat_map, drop, refl}
use Rattle.mill_io.proofs.Blockwise.{put-behind, put-fails-behind}
use Rattle.line_text.specs.Numbers.{ordinal}
use Rattle.line_text.proofs.Printed.{print-around, print-more}
use Rattle.line_text.proofs.print.put_ordinals.Goals as goal

pub returns-in_err-put_ordinal : goal.returns-in_err-put_ordinal
returns-in_err-put_ordinal g c =
    put-fails-behind _ _ _ _ _ _ _ _ _ _ _ _
    (flat_map (λ thing. 32 ∷ ordinal thing) (drop (c.loop-thing.thing-index + 1) c.args.things.now))
    _ _ _ c.from_residual.result
    (print-around (λ thing. 32 ∷ ordinal thing) c.args.things.now c.loop-thing.thing-index 0 _
    c.loop-thing-test.true refl)
    c.from_residual.ensures.0 c.loop-thing.invariant c.in_err-put_ordinal.ensures

pub loop-thing-preserved : goal.loop-thing-preserved
loop-thing-preserved g c =
    put-behind _ _ _ _ _ _ _ _ _ _ _ _ _ _
    (print-more (λ thing. 32 ∷ ordinal thing) c.args.things.now c.loop-thing.thing-index 0 _
    c.loop-thing-test.true refl)
    c.loop-thing.invariant c.in_ok-put_ordinal.ensures
