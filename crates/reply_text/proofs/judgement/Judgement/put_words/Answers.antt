use Rattle.std.proofs.Common.{◌+◌, ◌++◌, ap, codes, sym}
use Rattle.std.specs.Prelude.{decimal}
use Rattle.mill_io.proofs.Blockwise.{put-same}
use Rattle.reply_text.proofs.judgement.Judgement.put_words.Goals as goal

pub returns-in-Heavy : goal.returns-in-Heavy
returns-in-Heavy g c = rw c.in-Heavy.is c.put_rejected.ensures

pub returns-in-Colourful : goal.returns-in-Colourful
returns-in-Colourful g c = rw c.in-Colourful.is c.put_rejected-in-Colourful.ensures

pub returns-in-LossDiffers : goal.returns-in-LossDiffers
returns-in-LossDiffers g c = rw c.in-LossDiffers.is c.put_two_named.ensures

pub returns-in-OrderDiffers : goal.returns-in-OrderDiffers
returns-in-OrderDiffers g c =
    rw c.in-OrderDiffers.is (put-same _ _ _ _ _ _ _ _ _ c.put_rejected-in-OrderDiffers.result
    (ap (λ first. codes "rejected order stated " ++ decimal (c.in-OrderDiffers.stated + 1)
    ++ codes " found " ++ decimal first) (sym c.number_of-first.ensures))
    c.put_rejected-in-OrderDiffers.ensures)

pub returns-in-Missing : goal.returns-in-Missing
returns-in-Missing g c = rw c.in-Missing.is c.put_wrong_path.ensures

pub returns-in-Unsound : goal.returns-in-Unsound
returns-in-Unsound g c = rw c.in-Unsound.is c.put_wrong_path-in-Unsound.ensures
