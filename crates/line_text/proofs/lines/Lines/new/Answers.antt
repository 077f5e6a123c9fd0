use Rattle.line_text.proofs.Cuts.{length-text_lines}
use Rattle.line_text.proofs.lines.Lines.new.Goals as goal

pub returns-clause-count : goal.returns-clause-count
returns-clause-count c = length-text_lines c.args.text.now
