use Rattle.std.proofs.Common.{List, ℤ, get_or, pos, set, sym, ap, ◌∙◌, arith, SFits, w64, to_z-of_z}
use Rattle.std.proofs.Common.{rules}
use Rattle.mill_model.specs.Bounds.{least_new_with}
use Rattle.mill_model.specs.Charges.{charge_of}
use Rattle.mill_laws.proofs.Slacks.{set-back}
use Rattle.column_price.proofs.two_colours.least_new_at.Goals as goal

pub returns-clause-is : goal.returns-clause-is
returns-clause-is c =
    let t = c.args.tables.now in
    let i = c.args.i in
    let y = get_or c.args.prices.now i (pos 0) in
    let f : SFits w64 y = search rules in
    let e = simp to_z-of_z at c.less_price.ensures.is in
    e ∙ sym (c.least_new_with.ensures.is y)
    ∙ ap (λ (ys : List ℤ). least_new_with t.mill (charge_of t.charges) t.orders ys i)
    (ap (λ (ys : List ℤ). set ys i y) (sym c.requires.same)
    ∙ set-back i c.args.prices.now (omega (arith, c.requires.one_each, c.requires.here)))
