use Rattle.std.proofs.Common.{refl, rules}
use Rattle.std.specs.Fmt.{signed_decimal}
use Rattle.mill_io.proofs.Blockwise.{put-behind, put-fails}
use Rattle.line_text.proofs.print.put_signed.Goals as goal

pub returns-in_err-put : goal.returns-in_err-put
returns-in_err-put g c =
    put-fails _ _ _ _ _ _ _ _ _ (signed_decimal c.args.number) _ _ c.from_residual.result refl
    c.from_residual.ensures.0 c.in_err-put.ensures

pub returns : goal.returns
returns g c =
    put-behind _ _ _ _ _ _ _ _ _ _ _ _ _ c.put-2.result (search rules) c.in_ok-put.ensures
    c.put-2.ensures
