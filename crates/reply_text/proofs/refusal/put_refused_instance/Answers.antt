use Rattle.std.proofs.Common.{◌++◌, ◌∙◌, ap, append_assoc, codes, refl, sym}
use Rattle.std.specs.Prelude.{decimal}
use Rattle.instance_text.specs.Fields.{name_of}
use Rattle.mill_io.proofs.Blockwise.{put-behind, put-fails, put-fails-behind}
use Rattle.reply_text.proofs.Parts.{range-parts}
use Rattle.reply_text.proofs.refusal.put_refused_instance.Goals as goal

pub returns-in-BadByte : goal.returns-in-BadByte
returns-in-BadByte g c = rw c.in-BadByte.is c.put_named.ensures

pub returns-in-Short : goal.returns-in-Short
returns-in-Short g c = rw c.in-Short.is c.put_named-in-Short.ensures

pub returns-in_err-put-in-OutOfRange : goal.returns-in_err-put-in-OutOfRange
returns-in_err-put-in-OutOfRange g c =
    rw c.in-OutOfRange.is (put-fails _ _ _ _ _ _ _ _ _
    (name_of c.in-OutOfRange.what ++ (codes " token " ++ decimal c.in-OutOfRange.token)) _ _
    c.from_residual.result
    (range-parts (name_of c.in-OutOfRange.what) _ (decimal c.in-OutOfRange.token) refl)
    c.from_residual.ensures.0 c.in_err-put-in-OutOfRange.ensures)

pub returns-in_err-put-in-OutOfRange-2 : goal.returns-in_err-put-in-OutOfRange-2
returns-in_err-put-in-OutOfRange-2 g c =
    rw c.in-OutOfRange.is (put-fails-behind _ _ _ _ _ _ _ _ _ _ _ _
    (codes " token " ++ decimal c.in-OutOfRange.token) _ _ _
    c.from_residual-in_err-put-in-OutOfRange-2.result
    (range-parts (name_of c.in-OutOfRange.what) c.as_bytes.result.now
    (decimal c.in-OutOfRange.token) (c.as_bytes.ensures.value ∙ c.name.ensures))
    c.from_residual-in_err-put-in-OutOfRange-2.ensures.0 c.in_ok-put-in-OutOfRange.ensures
    c.in_err-put-in-OutOfRange-2.ensures)

pub returns-in_ok-put-in-OutOfRange-2 : goal.returns-in_ok-put-in-OutOfRange-2
returns-in_ok-put-in-OutOfRange-2 g c =
    rw c.in-OutOfRange.is (put-behind _ _ _ _ _ _ _ _ _ _ _ _ _ c.put_named-in-OutOfRange.result
    (range-parts (name_of c.in-OutOfRange.what) c.as_bytes.result.now
    (decimal c.in-OutOfRange.token) (c.as_bytes.ensures.value ∙ c.name.ensures))
    (put-behind _ _ _ _ _ _ _ _ _ _ _ _ _ _ refl c.in_ok-put-in-OutOfRange.ensures
    c.in_ok-put-in-OutOfRange-2.ensures)
    c.put_named-in-OutOfRange.ensures)
