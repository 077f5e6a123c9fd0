-- The least slack without the order is the group's where no set with the order was as low.
use Rattle.std.proofs.Common.{◌≡◌, ◌∙◌, ℤ, List, Some, pos, set, ap, sym, subst}
use Rattle.std.proofs.Common.{SFits, w64, to_z-of_z, rules}
use Rattle.mill_model.specs.Bounds.{least_on_with, least_on_without, or_zero}
use Rattle.mill_model.specs.Charges.{charge_of}
use Rattle.order_symmetry.specs.Ranked.{orders_of}
use Rattle.split_tree.specs.Node.{group_of}
use Rattle.column_price.specs.Nodes.{Pricing, rest_of}
use Rattle.column_price.proofs.AtNode.{slabs}
use Rattle.column_price.proofs.SlacksKept.{stays-without}
use Rattle.column_price.proofs.sweep.cost_of_joining.Goals as goal
use Rattle.column_price.proofs.sweep.cost_of_joining.Goals.{then-is_above, else-is_above}

pub returns-clause-without : goal.returns-clause-without
returns-clause-without c =
    let start = c.args.slacks.now in
    let node = start.node in
    let charge = charge_of start.charges in
    let i = c.args.i in
    let without = λ (ys : List ℤ). or_zero (least_on_without node.ranked.mill charge
    (group_of node c.args.g) (rest_of node) ys i) in
    elim c.if-is_above.branch [
      | then-is_above w ↦ (let f : SFits w64 c.args.slack = search rules in
          let f2 : SFits w64 c.args.old = search rules in
          let held = c.on_group_with-held.ensures in
          let is = subst (λ (ys : List ℤ). c.on_group_with-held.result ≡ least_on_with
          node.ranked.mill charge (group_of node c.args.g) (rest_of node) ys i) c.requires.zero
          held.is in
          let above = λ (x : ℤ) (e : least_on_with node.ranked.mill charge (group_of node c.args.g)
          (rest_of node) (set start.prices i (pos 0)) i ≡ Some x).
          simp to_z-of_z at (c.is_above.ensures w.if-is_above.true x (is ∙ e)) in
          let kept : c.args.slack ≡ without (set start.prices i (pos 0)) =
          stays-without node.ranked.mill charge (orders_of node.ranked) node.path
          (slabs node held.pricing.node) i start.prices c.requires.here c.args.g c.args.old
          c.args.slack c.requires.slack above in
          w.without-is ∙ simp to_z-of_z (kept ∙ ap without (sym c.requires.zero)))
      | else-is_above w ↦ (let y = w.zero_or-without.result in
          let f : SFits w64 y = search rules in
          let is : y ≡ without start.prices = subst (λ (p : Pricing). y ≡ or_zero (least_on_without
          p.node.ranked.mill (charge_of p.charges) (group_of p.node c.args.g) (rest_of p.node)
          p.prices i)) c.on_group_with-held.ensures.kept
          (w.zero_or-without.ensures.is ∙ ap or_zero w.on_group_without.ensures.is) in
          w.without-is ∙ simp to_z-of_z is)
    ]
