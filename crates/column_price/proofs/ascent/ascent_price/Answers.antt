-- Group by group: the best so far is the least of the new slabs' slacks and the first groups'.
use Rattle.std.proofs.Common.{◌≡◌, suc, ◌+◌, ℤ, List, Some, get_or, pos, arith, rules}
use Rattle.std.proofs.Common.{ap, ◌∙◌, sym, subst, SFits, w64, to_z-of_z, append-nil}
use Rattle.mill_model.specs.Charges.{charge_of}
use Rattle.mill_model.specs.Bounds.{least_of, or_zero, first_slack, least_on_with, ascent_slacks}
use Rattle.mill_model.specs.Tree.{next_new}
use Rattle.order_symmetry.specs.Ranked.{orders_of}
use Rattle.split_tree.specs.Node.{group_of}
use Rattle.column_price.specs.Nodes.{Pricing, rest_of}
use Rattle.column_price.specs.Numbers.{ascent_numbers, new_slacks, lesser, less}
use Rattle.column_price.proofs.AtNode.{slabs}
use Rattle.column_price.proofs.LeastOfParts.{ascent-more}
use Rattle.column_price.proofs.ZeroEnds.{zero-ends}
use Rattle.column_price.proofs.ascent.ascent_price.Goals as goal

pub loop-g-init : goal.loop-g-init
loop-g-init c =
    let start = c.args.slacks.now in
    record {
      kept = c.on_new_with-best.ensures.kept;
      best =
          c.on_new_with-best.ensures.is
          ∙ ap least_of (sym (append-nil (new_slacks start.node (charge_of start.charges)
          start.prices c.args.i)));
    }

pub loop-g-preserved : goal.loop-g-preserved
loop-g-preserved c =
    let start = c.args.slacks.now in
    let charge = charge_of start.charges in
    let i = c.args.i in
    let g = c.loop-g.g in
    let best = c.loop-g.best in
    let first = get_or c.args.firsts.now g (pos 0) in
    let joined = c.on_group_with.result in
    let slack = first_slack start.node.ranked.mill charge (orders_of start.node.ranked)
    start.node.path g in
    let f : SFits w64 first = search rules in
    let less-is = simp to_z-of_z at c.less_by.ensures in
    let held = subst (λ (p : Pricing). joined ≡ least_on_with p.node.ranked.mill
    (charge_of p.charges) (group_of p.node g) (rest_of p.node) p.prices i) c.loop-g.invariant.kept
    c.on_group_with.ensures.is in
    let its : first ≡ slack = c.requires.firsts.each g (omega (arith, c.loop-g-test.true)) in
    let n : suc g ≡ g + 1 = omega arith in
    record {
      kept = c.on_group_with.ensures.kept ∙ c.loop-g.invariant.kept;
      best =
          c.lesser_of-best.ensures
          ∙ ap (λ v. lesser best v) (less-is ∙ ap (λ v. less v joined) its
          ∙ ap (λ v. less slack v) held)
          ∙ ascent-more start.node charge start.prices i g best c.loop-g.invariant.best
          ∙ ap (λ n. least_of (ascent_numbers start.node charge start.prices i n)) n;
    }

pub returns-then-is_zero-clause-is : goal.returns-then-is_zero-clause-is
returns-then-is_zero-clause-is c =
    let node = c.args.slacks.now.node in
    let charge = charge_of c.args.slacks.now.charges in
    let i = c.args.i in
    let g = c.loop-g.g in
    let kept = c.on_new_with-best.ensures.pricing in
    let here = sym c.loop-g.invariant.best ∙ c.is_zero.ensures c.if-is_zero.true in
    let there = subst (λ (ys : List ℤ). least_of (ascent_numbers node charge ys i g) ≡ Some (pos 0))
    c.requires.ascent here in
    subst (λ (ys : List ℤ). pos 0 ≡ or_zero (least_of (ascent_slacks node.ranked.mill charge
    (orders_of node.ranked) node.path ys i))) (sym c.requires.ascent)
    (zero-ends node charge (slabs node kept.node) i g
    (omega (arith, c.requires.here, kept.prices.one_each))
    (omega (arith, c.requires.firsts.count, c.loop-g-test.true)) there)

pub returns-clause-is : goal.returns-clause-is
returns-clause-is c =
    let start = c.args.slacks.now in
    let f : SFits w64 c.zero_or.result = search rules in
    let n : c.loop-g.g ≡ next_new start.node.path =
    omega (arith, c.requires.firsts.count, c.loop-g-test.false, c.loop-g.auto.g-end) in
    simp to_z-of_z (c.zero_or.ensures.is ∙ ap or_zero (c.loop-g.invariant.best
    ∙ ap (λ n. least_of (ascent_numbers start.node (charge_of start.charges) start.prices
    c.args.i n)) n))
