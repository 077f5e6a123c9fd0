use Rattle.std.proofs.Common.{◌∷◌, [], append_assoc, sym}
use Rattle.std.specs.Fmt.{decimal}
use Rattle.mill_io.proofs.Blockwise.{put-behind, put-fails}
use Rattle.answer_text.proofs.print.put_named_line.Goals as goal

pub returns-in_err-put_named : goal.returns-in_err-put_named
returns-in_err-put_named g c =
    put-fails _ _ _ _ _ _ _ _ _ (10 ∷ []) _ _ c.from_residual.result
    (sym (append_assoc c.args.name.now (decimal c.args.number) (10 ∷ [])))
    c.from_residual.ensures.0 c.in_err-put_named.ensures

pub returns : goal.returns
returns g c =
    put-behind _ _ _ _ _ _ _ _ _ _ _ _ _ c.put.result
    (sym (append_assoc c.args.name.now (decimal c.args.number) (10 ∷ [])))
    c.in_ok-put_named.ensures c.put.ensures
