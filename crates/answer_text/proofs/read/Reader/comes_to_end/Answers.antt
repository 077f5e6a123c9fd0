use Rattle.std.proofs.Common.{◌∷◌, [], ap, sym, subst, ◌∙◌}
use Rattle.line_text.specs.Words.{BeginsWith}
use Rattle.answer_text.specs.Reading.{Reading}
use Rattle.answer_text.proofs.read.Reader.comes_to_end.Goals as goal

pub returns-in-Some-clause-yes : goal.returns-in-Some-clause-yes
returns-in-Some-clause-yes c ends lacks =
    lacks c.in-Some.line.now (sym c.is_end.ensures ∙ ends)
    (subst (λ lines. BeginsWith lines (c.in-Some.line.now ∷ []))
    (ap (λ (r : Reading). r.rest) c.self.view_is) c.in-Some.ensures.some)
