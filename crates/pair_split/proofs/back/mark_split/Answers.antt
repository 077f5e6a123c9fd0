-- Order by order: the orders to come reach the state, and the marks so far lead to the target.
use Rattle.std.proofs.Common.{◌≡◌, ◌+◌, ◌∙◌, get_or, set, take, subst, sym, arith}
use Rattle.std.proofs.lemmas.List.{take_more_set, length-set}
use Rattle.pair_split.specs.States.{IsWithin, with_order}
use Rattle.pair_split.specs.Tables.{Comes, mill_in}
use Rattle.pair_split.proofs.OneMore.{nobody, front-next}
use Rattle.pair_split.proofs.WayBack.{part-comes, leads-more, table-at, all-marked}
use Rattle.pair_split.proofs.back.mark_split.Goals as goal

pub step_back-first-requires-clause-at : goal.step_back-first-requires-clause-at
step_back-first-requires-clause-at c =
    let w : IsWithin (mill_in c.args.layout) c.loop-i.at =
    subst (IsWithin (mill_in c.args.layout)) c.loop-i.invariant.reached.2
    c.loop-i.invariant.reached.1.within in
    w.light

pub step_back-first-requires-clause-comes : goal.step_back-first-requires-clause-comes
step_back-first-requires-clause-comes c =
    subst (λ b. Comes (mill_in c.args.layout) c.args.layout.words
    (get_or c.args.orders.now c.loop-i.i nobody).weight b c.fill_table.new.table c.loop-i.at)
    (sym (front-next c.args.orders.now c.loop-i.i c.front_at.result c.front_at.ensures))
    (part-comes (mill_in c.args.layout) c.args.layout.words c.args.orders.now c.loop-i.i
    c.loop-i-test.true (c.requires.together c.loop-i.i) c.fill_table.new.table
    (table-at (mill_in c.args.layout) c.args.layout.words c.args.orders.now c.loop-i.i
    c.fill_table.new.table c.fill_table.ensures.table) c.loop-i.at c.loop-i.invariant.reached)

pub loop-i-preserved : goal.loop-i-preserved
loop-i-preserved c = record {
  reached = c.fill_table.ensures.table.found c.step_back-first.result.0
      c.step_back-first.ensures.within c.step_back-first.ensures.marked;
  leads = leads-more (mill_in c.args.layout) c.args.orders.now (take c.loop-i.i c.loop-i.marks)
      (take (c.loop-i.i + 1) (set c.loop-i.marks c.loop-i.i c.step_back-first.result.1))
      c.step_back-first.result.1 c.loop-i.at c.step_back-first.result.0 c.args.target c.loop-i.i
      c.loop-i-test.true (c.requires.together c.loop-i.i)
      (take_more_set c.loop-i.marks c.loop-i.i c.step_back-first.result.1
      (omega (arith, c.loop-i-test.true, c.loop-i.invariant.marks)))
      (subst (λ b. with_order c.step_back-first.result.1
      (get_or c.args.orders.now c.loop-i.i nobody).weight b c.step_back-first.result.0
      ≡ c.loop-i.at) (front-next c.args.orders.now c.loop-i.i c.front_at.result
      c.front_at.ensures) c.step_back-first.ensures.leads)
      (subst (IsWithin (mill_in c.args.layout)) c.loop-i.invariant.reached.2
      c.loop-i.invariant.reached.1.within) c.loop-i.invariant.leads;
  size = c.fill_table.auto.table ∙ c.loop-i.invariant.size;
  spare = c.fill_table.auto.spare ∙ c.loop-i.invariant.spare;
  marks = length-set _ _ _ ∙ c.loop-i.invariant.marks;
}

pub returns-clause-part : goal.returns-clause-part
returns-clause-part c = (all-marked (mill_in c.args.layout) c.args.orders.now c.loop-i.marks
    c.loop-i.i c.loop-i.at c.args.target (omega (arith, c.loop-i-test.false))
    c.loop-i.invariant.marks c.loop-i.invariant.reached c.loop-i.invariant.leads).0

pub returns-clause-is : goal.returns-clause-is
returns-clause-is c = (all-marked (mill_in c.args.layout) c.args.orders.now c.loop-i.marks
    c.loop-i.i c.loop-i.at c.args.target (omega (arith, c.loop-i-test.false))
    c.loop-i.invariant.marks c.loop-i.invariant.reached c.loop-i.invariant.leads).1
