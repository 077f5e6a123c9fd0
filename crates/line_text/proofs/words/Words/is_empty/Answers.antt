use Rattle.std.proofs.Common.{sym}
use Rattle.line_text.proofs.Cuts.{is_empty-words}
use Rattle.line_text.proofs.words.Words.is_empty.Goals as goal

pub returns : goal.returns
returns c = rw (sym c.self.view_is) (is_empty-words c.self.inside.ended c.self.inside.rest.now)
