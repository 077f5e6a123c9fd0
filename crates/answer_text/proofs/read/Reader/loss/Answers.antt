use Rattle.std.proofs.Common.{refl, arith}
use Rattle.answer_text.specs.Line.{loss}
use Rattle.answer_text.proofs.Lines.{words-spell}
use Rattle.answer_text.proofs.OneLine.{reads-line, refuses-line}
use Rattle.answer_text.proofs.read.Reader.loss.Goals as goal

pub returns-clause-ok : goal.returns-clause-ok
returns-clause-ok c =
    reads-line loss c.args.self.now.orders c.args.self.now c.next_line.new.self
    c.in_ok-line.line.now c.in_ok-line.ensures.ok refl c.number_on.result c.ok_or.result
    c.bad_line.result c.ok_or.ensures.value c.number_on.ensures.some c.number_on.ensures.limit

pub returns-clause-err : goal.returns-clause-err
returns-clause-err c =
    refuses-line loss c.args.self.now.orders c.args.self.now c.next_line.new.self
    c.in_ok-line.line.now c.in_ok-line.ensures.ok refl c.number_on.result c.ok_or.result
    c.bad_line.result (λ x within. words-spell 0 (loss x) (omega arith) refl within)
    c.ok_or.ensures.value c.bad_line.ensures c.number_on.ensures.none
