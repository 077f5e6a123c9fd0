use Rattle.std.proofs.Common.{◌≡◌, ◌∙◌, ap, refl, arith}
use Rattle.answer_text.specs.Line.{order}
use Rattle.answer_text.specs.Reading.{Reading}
use Rattle.answer_text.proofs.Lines.{words-spell}
use Rattle.answer_text.proofs.OneLine.{reads-line, refuses-line}
use Rattle.answer_text.proofs.read.Reader.order.Goals as goal

pub returns-clause-ok : goal.returns-clause-ok
returns-clause-ok c =
    let orders : c.self.inside.orders ≡ c.args.self.now.orders =
    ap (λ (r : Reading). r.orders) c.self.view_is ∙ c.in_ok-line.ensures.ok.orders in
    reads-line order c.self.inside.orders c.args.self.now c.next_line.new.self
    c.in_ok-line.line.now c.in_ok-line.ensures.ok orders c.order_on.result c.ok_or.result
    c.bad_line.result c.ok_or.ensures.value c.order_on.ensures.some
    c.order_on.ensures.limit

pub returns-clause-err : goal.returns-clause-err
returns-clause-err c =
    let orders : c.self.inside.orders ≡ c.args.self.now.orders =
    ap (λ (r : Reading). r.orders) c.self.view_is ∙ c.in_ok-line.ensures.ok.orders in
    refuses-line order c.self.inside.orders c.args.self.now c.next_line.new.self
    c.in_ok-line.line.now c.in_ok-line.ensures.ok orders c.order_on.result c.ok_or.result
    c.bad_line.result
    (λ x within. words-spell c.self.inside.orders (order x) (omega arith) refl within)
    c.ok_or.ensures.value c.bad_line.ensures c.order_on.ensures.none
