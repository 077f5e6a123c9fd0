-- Group by group: the best so far is the least of the new slabs' slacks and of the first groups'
-- costs, and the slacks of the first groups are those without the order.
use Rattle.std.proofs.Common.{◌≡◌, ◌<◌, ◌∙◌, suc, ◌+◌, ℤ, pos, List, length, get_or, set, ap}
use Rattle.std.proofs.Common.{sym, subst, arith, rules, inl, inr, SFits, w64, to_z-of_z}
use Rattle.std.proofs.lemmas.List.{get_or-set_same, get_or-set_other, set-set}
use Rattle.std.proofs.lemmas.List.Elements.{All-set}
use Rattle.list_laws.proofs.Tests.{last-or-below}
use Rattle.mill_model.specs.Bounds.{least_of, least_on_with, least_on_without, or_zero}
use Rattle.mill_model.specs.Charges.{charge_of}
use Rattle.mill_model.specs.Limits.{IsPrice}
use Rattle.mill_model.specs.Prices.{least_slack}
use Rattle.mill_model.specs.Tree.{next_new}
use Rattle.mill_laws.proofs.Slacks.{set-back}
use Rattle.order_symmetry.specs.Ranked.{orders_of}
use Rattle.set_minima.specs.Cells.{IsSmall, slack_limit}
use Rattle.split_tree.specs.Node.{group_of}
use Rattle.column_price.specs.Nodes.{Pricing, AreSlacks, rest_of, with_prices}
use Rattle.column_price.specs.Numbers.{swept_numbers, lesser, less}
use Rattle.column_price.proofs.AtNode.{slabs}
use Rattle.column_price.proofs.LeastOfParts.{swept-more}
use Rattle.column_price.proofs.SlacksKept.{becomes-without}
use Rattle.column_price.proofs.sweep.set_anew.Goals as goal

pub cost_of_joining-joined-requires-clause-zero : goal.cost_of_joining-joined-requires-clause-zero
cost_of_joining-joined-requires-clause-zero c =
    let ys = c.args.slacks.now.prices in
    let now = ap (λ (p : Pricing). p.prices) c.loop-g.invariant.kept in
    subst (λ (zs : List ℤ). zs ≡ set zs c.args.i (pos 0)) (sym now)
    (sym (set-set ys c.args.i (pos 0) (pos 0)))

pub cost_of_joining-joined-requires-clause-slack : goal.cost_of_joining-joined-requires-clause-slack
cost_of_joining-joined-requires-clause-slack c =
    let start = c.args.slacks.now in
    let ys = start.prices in
    let i = c.args.i in
    let g = c.loop-g.g in
    let z : ℤ = get_or c.loop-g.groups g (pos 0) in
    let old : ℤ = get_or c.prices.result.now i (pos 0) in
    let f1 : SFits w64 z = search rules in
    let f2 : SFits w64 old = search rules in
    let least = λ (p : Pricing) (zs : List ℤ). least_slack p.node.ranked.mill (charge_of p.charges)
    (group_of p.node g) (rest_of p.node) zs in
    let same : old ≡ get_or ys i (pos 0) =
    ap (λ (zs : List ℤ). get_or zs i (pos 0)) c.prices.ensures.is in
    let back : ys ≡ set (set ys i (pos 0)) i old =
    sym (set-set ys i (pos 0) old ∙ ap (λ u. set ys i u) same ∙ set-back i ys c.requires.here) in
    let is : z ≡ least start (set (set ys i (pos 0)) i old) =
    c.loop-g.invariant.same g (omega arith)
    ∙ c.requires.groups.each g (omega (arith, c.loop-g-test.true, c.loop-g.auto.groups))
    ∙ ap (least start) back in
    simp to_z-of_z (subst (λ (p : Pricing). z ≡ least p (set p.prices i old))
    (sym c.loop-g.invariant.kept) is)

pub loop-g-preserved : goal.loop-g-preserved
loop-g-preserved c =
    let start = c.args.slacks.now in
    let node = start.node in
    let charge = charge_of start.charges in
    let i = c.args.i in
    let g = c.loop-g.g in
    let base = set start.prices i (pos 0) in
    let groups = c.loop-g.groups in
    let best = c.loop-g.best in
    let joined = c.cost_of_joining-joined in
    let v : ℤ = joined.result.without in
    let f : SFits w64 v = search rules in
    let other = λ (p : Pricing). or_zero (least_on_without p.node.ranked.mill (charge_of p.charges)
    (group_of p.node g) (rest_of p.node) p.prices i) in
    let held = λ (p : Pricing). least_on_with p.node.ranked.mill (charge_of p.charges)
    (group_of p.node g) (rest_of p.node) p.prices i in
    let without : v ≡ other (with_prices start base) =
    subst (λ (p : Pricing). v ≡ other p) c.loop-g.invariant.kept joined.ensures.without in
    let cost : joined.result.cost ≡ less v (held (with_prices start base)) =
    subst (λ (p : Pricing). joined.result.cost ≡ less v (held p)) c.loop-g.invariant.kept
    joined.ensures.cost in
    let n : suc g ≡ g + 1 = omega arith in
    let inside : g < length groups = omega (arith, c.loop-g-test.true, c.loop-g.auto.groups) in
    simp to_z-of_z (record {
      kept = joined.ensures.kept ∙ c.loop-g.invariant.kept;
      best =
          c.lesser_of-best.ensures
          ∙ ap (λ o. lesser best o)
          (cost ∙ ap (λ z. less z (held (with_prices start base))) without)
          ∙ swept-more node charge base i g best c.loop-g.invariant.best
          ∙ ap (λ n. least_of (swept_numbers node charge base i n)) n;
      changed = λ h l. elim (last-or-below h g (omega arith)) [
        | inl e ↦ subst (λ k. get_or (set groups g v) k (pos 0) ≡ or_zero (least_on_without
            node.ranked.mill charge (group_of node k) (rest_of node) base i)) (sym e)
            (get_or-set_same groups g v (pos 0) inside ∙ without)
        | inr b ↦ get_or-set_other groups g h v (pos 0) (omega arith)
            ∙ c.loop-g.invariant.changed h b
      ];
      same = λ h l. get_or-set_other groups g h v (pos 0) (omega arith)
          ∙ c.loop-g.invariant.same h (omega arith);
      small = All-set (IsSmall slack_limit) groups g v joined.ensures.small
          c.loop-g.invariant.small;
    })

pub set_price-requires-2-clause-price : goal.set_price-requires-2-clause-price
set_price-requires-2-clause-price c =
    let start = c.args.slacks.now in
    let base = set start.prices c.args.i (pos 0) in
    let f : SFits w64 c.zero_or.result = search rules in
    let n : c.loop-g.g ≡ next_new start.node.path =
    omega (arith, c.requires.groups.count, c.loop-g-test.false, c.loop-g.auto.g-end) in
    let new = c.zero_or.ensures.is ∙ ap or_zero (c.loop-g.invariant.best
    ∙ ap (λ n. least_of (swept_numbers start.node (charge_of start.charges) base c.args.i n)) n) in
    simp to_z-of_z (subst IsPrice (sym new) c.requires.price)

pub returns-clause-is : goal.returns-clause-is
returns-clause-is c =
    let start = c.args.slacks.now in
    let i = c.args.i in
    let base = set start.prices i (pos 0) in
    let y : ℤ = c.zero_or.result in
    let f : SFits w64 y = search rules in
    let n : c.loop-g.g ≡ next_new start.node.path =
    omega (arith, c.requires.groups.count, c.loop-g-test.false, c.loop-g.auto.g-end) in
    let new = c.zero_or.ensures.is ∙ ap or_zero (c.loop-g.invariant.best
    ∙ ap (λ n. least_of (swept_numbers start.node (charge_of start.charges) base i n)) n) in
    let set-is = simp to_z-of_z at c.set_price-2.ensures in
    set-is ∙ ap (λ (p : Pricing). with_prices p (set p.prices i y)) c.loop-g.invariant.kept
    ∙ ap (with_prices start) (set-set start.prices i (pos 0) y ∙ ap (λ u. set start.prices i u) new)

pub returns-clause-groups : goal.returns-clause-groups
returns-clause-groups c =
    let start = c.args.slacks.now in
    let node = start.node in
    let charge = charge_of start.charges in
    let i = c.args.i in
    let base = set start.prices i (pos 0) in
    let y : ℤ = c.zero_or.result in
    let f : SFits w64 y = search rules in
    let n : c.loop-g.g ≡ next_new node.path =
    omega (arith, c.requires.groups.count, c.loop-g-test.false, c.loop-g.auto.g-end) in
    let new = c.zero_or.ensures.is ∙ ap or_zero (c.loop-g.invariant.best
    ∙ ap (λ n. least_of (swept_numbers node charge base i n)) n) in
    let set-is = simp to_z-of_z at c.set_price-2.ensures in
    let prices = ap (λ (p : Pricing). p.prices) (set-is
    ∙ ap (λ (p : Pricing). with_prices p (set p.prices i y)) c.loop-g.invariant.kept)
    ∙ set-set start.prices i (pos 0) y ∙ ap (λ u. set start.prices i u) new in
    subst (λ (ys : List ℤ). AreSlacks node charge ys c.loop-g.groups) (sym prices) (record {
      count = c.loop-g.auto.groups ∙ c.requires.groups.count;
      each = λ h b.
          c.loop-g.invariant.changed h
          (omega (arith, c.loop-g.auto.groups, c.requires.groups.count))
          ∙ sym (becomes-without node.ranked.mill charge (orders_of node.ranked) node.path
          (slabs node c.prices.ensures.kept.node) i start.prices c.requires.here h
          (omega (arith, c.loop-g.auto.groups, c.requires.groups.count)));
      small = c.loop-g.invariant.small;
    })
