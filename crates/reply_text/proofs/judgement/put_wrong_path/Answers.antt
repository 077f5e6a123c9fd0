use Rattle.std.proofs.Common.{◌∷◌, ◌++◌, append_assoc, flat_map, length, sym}
use Rattle.std.specs.Prelude.{decimal}
use Rattle.line_text.specs.Numbers.{ordinal}
use Rattle.mill_io.proofs.Blockwise.{put-behind, put-fails}
use Rattle.reply_text.proofs.Parts.{path-parts}
use Rattle.reply_text.proofs.judgement.put_wrong_path.Goals as goal

pub returns-in_err-put_named : goal.returns-in_err-put_named
returns-in_err-put_named g c =
    put-fails _ _ _ _ _ _ _ _ _ (flat_map (λ g. 32 ∷ ordinal g) c.numbers-numbers.result.now) _ _
    c.from_residual.result
    (path-parts c.args.name.now c.args.path.now c.numbers-numbers.result.now
    c.numbers-numbers.ensures)
    c.from_residual.ensures.0 c.in_err-put_named.ensures

pub returns : goal.returns
returns g c =
    put-behind _ _ _ _ _ _ _ _ _ _ _ _ _ c.put_ordinals.result
    (path-parts c.args.name.now c.args.path.now c.numbers-numbers.result.now
    c.numbers-numbers.ensures)
    c.in_ok-put_named.ensures c.put_ordinals.ensures
