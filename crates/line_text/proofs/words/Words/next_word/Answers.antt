use Rattle.std.proofs.Common.{◌≡◌, ◌∙◌, sym}
use Rattle.line_text.specs.Words.{line_words}
use Rattle.line_text.proofs.Cuts.{words-cut, words-alone, uncut}
use Rattle.line_text.proofs.words.Words.next_word.Goals as goal

pub returns-in-Some-clause-some : goal.returns-in-Some-clause-some
returns-in-Some-clause-some c =
    let view : c.args.self.now ≡ line_words c.self.inside.rest.now =
    rw c.if-self.false at (sym c.self.view_is) in
    rw c.if-self.false (view ∙ words-cut c.self.inside.rest.now c.in-Some.end c.in-Some.ensures)

pub returns-in-None-clause-some : goal.returns-in-None-clause-some
returns-in-None-clause-some c =
    let view : c.args.self.now ≡ line_words c.self.inside.rest.now =
    rw c.if-self.false at (sym c.self.view_is) in
    view ∙ words-alone c.self.inside.rest.now (uncut 32 c.self.inside.rest.now c.in-None.ensures)
