use Rattle.std.proofs.Common.{◌∷◌, [], append_assoc, sym}
use Rattle.line_text.specs.Lines.{text_of}
use Rattle.mill_io.proofs.Blockwise.{put-behind, put-fails}
use Rattle.reply_text.specs.Summary.{first_line, lines_of_ending}
use Rattle.reply_text.proofs.summary.Summary.put_lines.Goals as goal

pub returns-in_err-put_first_line : goal.returns-in_err-put_first_line
returns-in_err-put_first_line g c =
    put-fails _ _ _ _ _ _ _ _ _ (text_of (lines_of_ending c.args.self.now.ending)) _ _
    c.from_residual.result
    (sym (append_assoc (first_line c.args.self.now) (10 ∷ [])
    (text_of (lines_of_ending c.args.self.now.ending))))
    c.from_residual.ensures.0 c.in_err-put_first_line.ensures

pub returns : goal.returns
returns g c =
    put-behind _ _ _ _ _ _ _ _ _ _ _ _ _ c.put_lines.result
    (sym (append_assoc (first_line c.args.self.now) (10 ∷ [])
    (text_of (lines_of_ending c.args.self.now.ending))))
    c.in_ok-put_first_line.ensures c.put_lines.ensures
