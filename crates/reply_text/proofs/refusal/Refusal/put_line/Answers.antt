use Rattle.std.proofs.Common.{◌∷◌, [], refl}
use Rattle.mill_io.proofs.Blockwise.{put-behind, put-fails}
use Rattle.reply_text.proofs.refusal.Refusal.put_line.Goals as goal

pub returns-in_err-put_words : goal.returns-in_err-put_words
returns-in_err-put_words g c =
    put-fails _ _ _ _ _ _ _ _ _ (10 ∷ []) _ _ c.from_residual.result refl
    c.from_residual.ensures.0 c.in_err-put_words.ensures

pub returns : goal.returns
returns g c =
    put-behind _ _ _ _ _ _ _ _ _ _ _ _ _ c.put.result refl c.in_ok-put_words.ensures
    c.put.ensures
