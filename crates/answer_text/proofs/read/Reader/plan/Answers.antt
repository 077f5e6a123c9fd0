use Rattle.std.proofs.Common.{◌≡◌, ◌∙◌, ap, refl, arith}
use Rattle.answer_text.specs.Line.{plan}
use Rattle.answer_text.specs.Reading.{Reading}
use Rattle.answer_text.proofs.Lines.{words-spell}
use Rattle.answer_text.proofs.OneLine.{reads-line, refuses-line}
use Rattle.answer_text.proofs.read.Reader.plan.Goals as goal

pub returns-clause-ok : goal.returns-clause-ok
returns-clause-ok c =
    let orders : c.self.inside.orders ≡ c.args.self.now.orders =
    ap (λ (r : Reading). r.orders) c.self.view_is ∙ c.in_ok-line.ensures.ok.orders in
    reads-line plan c.self.inside.orders c.args.self.now c.next_line.new.self
    c.in_ok-line.line.now c.in_ok-line.ensures.ok orders c.in_ok-plan_on.field-0 c.ok_or.result
    c.bad_line.result c.ok_or.ensures.value c.in_ok-plan_on.ensures.some
    c.in_ok-plan_on.ensures.limit

pub returns-clause-err : goal.returns-clause-err
returns-clause-err c =
    let orders : c.self.inside.orders ≡ c.args.self.now.orders =
    ap (λ (r : Reading). r.orders) c.self.view_is ∙ c.in_ok-line.ensures.ok.orders in
    refuses-line plan c.self.inside.orders c.args.self.now c.next_line.new.self
    c.in_ok-line.line.now c.in_ok-line.ensures.ok orders c.in_ok-plan_on.field-0 c.ok_or.result
    c.bad_line.result
    (λ x within. words-spell c.self.inside.orders (plan x) (omega arith) refl within)
    c.ok_or.ensures.value c.bad_line.ensures c.in_ok-plan_on.ensures.none
