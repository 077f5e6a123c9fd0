-- The least slacks hold for any price of the order, so also for the one that it has.
use Rattle.std.proofs.Common.{List, ℤ, get_or, pos, set, sym, ap, ◌∙◌, arith, SFits, w64, to_z-of_z}
use Rattle.std.proofs.Common.{rules}
use Rattle.std.proofs.Common.{◌≡◌, Some, None, subst}
use Rattle.mill_model.specs.Bounds.{least_on_with, least_on_without}
use Rattle.mill_model.specs.Charges.{charge_of}
use Rattle.mill_model.specs.Prices.{least_slack}
use Rattle.mill_laws.proofs.Slacks.{set-back}
use Rattle.column_price.proofs.WithoutAny.{without-any, none-holds, none-past}
use Rattle.column_price.proofs.two_colours.least_on_without_at.Goals as goal

pub returns-in-Some-clause-is : goal.returns-in-Some-clause-is
returns-in-Some-clause-is c group carries fits =
    let t = c.args.tables.now in
    let i = c.args.i in
    let y = get_or c.args.prices.now i (pos 0) in
    let f : SFits w64 c.in-Some.slack = search rules in
    let back = ap (λ (ys : List ℤ). set ys i y) (sym c.requires.same)
    ∙ set-back i c.args.prices.now (omega arith) in
    simp to_z-of_z (sym (subst (λ (ys : List ℤ).
    least_on_without t.mill (charge_of t.charges) group t.orders ys i ≡ Some c.in-Some.slack) back
    (c.in-Some.ensures.some y group carries)))

pub returns-in-None-clause-is : goal.returns-in-None-clause-is
returns-in-None-clause-is c group carries fits =
    let t = c.args.tables.now in
    let i = c.args.i in
    let prices = c.args.prices.now in
    let y = get_or prices i (pos 0) in
    let f : SFits w64 c.least_on-in-None.result = search rules in
    let back = ap (λ (ys : List ℤ). set ys i y) (sym c.requires.same)
    ∙ set-back i prices (omega (arith, c.if-prices-i.false)) in
    let is : c.least_on-in-None.result
    ≡ least_slack t.mill (charge_of t.charges) group t.orders prices =
    rw (c.requires.same) (rw c.least_on_without.ensures.kept at c.least_on-in-None.ensures.is group
    carries) in
    let missing = subst (λ (ys : List ℤ).
    least_on_with t.mill (charge_of t.charges) group t.orders ys i ≡ None) back
    (c.in-None.ensures.none y group carries) in
    simp to_z-of_z (ap Some is ∙ sym (without-any t.mill (charge_of t.charges) group t.orders fits
    prices i (none-holds t.mill (charge_of t.charges) group t.orders prices i missing)))

pub returns-then-prices-i-clause-is : goal.returns-then-prices-i-clause-is
returns-then-prices-i-clause-is c group carries fits =
    let t = c.args.tables.now in
    let prices = c.args.prices.now in
    let f : SFits w64 c.least_on.result = search rules in
    let is : c.least_on.result ≡ least_slack t.mill (charge_of t.charges) group t.orders prices =
    rw (c.requires.same) (c.least_on.ensures.is group carries) in
    simp to_z-of_z (ap Some is ∙ sym (without-any t.mill (charge_of t.charges) group t.orders fits
    prices c.args.i (none-past t.mill group t.orders c.args.i
    (omega (arith, c.if-prices-i.true, c.requires.one_each)))))
