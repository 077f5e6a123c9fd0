use Rattle.std.proofs.Common.{◌<◌, ◌∙◌, sym, length, rules}
use Rattle.line_text.proofs.Cuts.{lines-cut, lines-alone, uncut}
use Rattle.line_text.proofs.lines.Lines.next_line.Goals as goal

pub returns-in-Some-clause-some : goal.returns-in-Some-clause-some
returns-in-Some-clause-some c =
    sym c.self.view_is ∙ lines-cut c.self.inside.rest.now c.in-Some.end c.in-Some.ensures

pub returns-in-None-clause-some : goal.returns-in-None-clause-some
returns-in-None-clause-some c =
    let some_byte : 0 < length c.self.inside.rest.now = search rules in
    sym c.self.view_is
    ∙ lines-alone c.self.inside.rest.now some_byte
    (uncut 10 c.self.inside.rest.now c.in-None.ensures)
