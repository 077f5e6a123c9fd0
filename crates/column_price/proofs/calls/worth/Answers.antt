-- Valid just where the least slack of a new slab isn't below zero.
use Rattle.std.proofs.Common.{◌≡◌, ◌∙◌, ℤ, Option, not, ap, sym, subst, SFits, w64, to_z-of_z}
use Rattle.std.proofs.Common.{rules}
use Rattle.mill_model.specs.Charges.{charge_of}
use Rattle.mill_model.specs.Bounds.{least_new}
use Rattle.column_price.specs.Nodes.{Pricing, rest_of, worth_at}
use Rattle.column_price.specs.Numbers.{is_negative}
use Rattle.column_price.proofs.ValidByLeast.{valid-is}
use Rattle.column_price.proofs.calls.worth.Goals as goal

pub returns-then-is_below_zero-clause-none : goal.returns-then-is_below_zero-clause-none
returns-then-is_below_zero-clause-none c =
    let node = c.args.node.now in
    let e = subst (λ (p : Pricing). c.on_new.result ≡ least_new p.node.ranked.mill
    (charge_of p.charges) (rest_of p.node) p.prices) c.in_ok-slacks.ensures c.on_new.ensures.is in
    valid-is node.ranked.mill (charge_of c.args.charges.now) (rest_of node) c.args.prices.now
    ∙ ap (λ (v : Option ℤ). not (is_negative v)) (sym e)
    ∙ ap not (sym c.is_below_zero.ensures ∙ c.if-is_below_zero.true)

pub returns-clause-some : goal.returns-clause-some
returns-clause-some c =
    let node = c.args.node.now in
    let f : SFits w64 c.worth_of.result = search rules in
    let e = subst (λ (p : Pricing). c.on_new.result ≡ least_new p.node.ranked.mill
    (charge_of p.charges) (rest_of p.node) p.prices) c.in_ok-slacks.ensures c.on_new.ensures.is in
    let kept = c.on_groups.ensures.kept ∙ c.on_new.ensures.kept ∙ c.in_ok-slacks.ensures in
    let is = subst (λ (p : Pricing). c.worth_of.result ≡ worth_at p.node (charge_of p.charges)
    p.prices) kept c.worth_of.ensures in (
      valid-is node.ranked.mill (charge_of c.args.charges.now) (rest_of node) c.args.prices.now
          ∙ ap (λ (v : Option ℤ). not (is_negative v)) (sym e)
          ∙ ap not (sym c.is_below_zero.ensures ∙ c.if-is_below_zero.false),
      simp to_z-of_z is,
    )
