use Rattle.std.proofs.Common.{codes, refl}
use Rattle.mill_io.proofs.Blockwise.{put-behind, put-fails}
use Rattle.reply_text.proofs.refusal.put_refused_answer.Goals as goal

pub returns-in_err-put_named-in-NotRising : goal.returns-in_err-put_named-in-NotRising
returns-in_err-put_named-in-NotRising g c =
    rw c.in-NotRising.is (put-fails _ _ _ _ _ _ _ _ _ (codes " not rising") _ _
    c.from_residual.result refl c.from_residual.ensures.0
    c.in_err-put_named-in-NotRising.ensures)

pub returns-in_ok-put_named-in-NotRising : goal.returns-in_ok-put_named-in-NotRising
returns-in_ok-put_named-in-NotRising g c =
    rw c.in-NotRising.is (put-behind _ _ _ _ _ _ _ _ _ _ _ _ _ c.put.result refl
    c.in_ok-put_named-in-NotRising.ensures c.put.ensures)

pub returns-in-CountDiffers : goal.returns-in-CountDiffers
returns-in-CountDiffers g c = rw c.in-CountDiffers.is c.put_two_named.ensures
