use Rattle.std.proofs.Common.{◌≡◌, ◌+◌, ◌∙◌, ◌+ℤ◌, ap, arith, subst, sym, SFits, w64, to_z-of_z}
use Rattle.std.proofs.Common.{rules}
use Rattle.std.proofs.lemmas.Int.{ints}
use Rattle.std.specs.Int.{int_max}
use Rattle.set_minima.specs.Packs.{better}
use Rattle.set_minima.specs.Cells.{found, IsNear}
use Rattle.set_minima.proofs.CellNumbers.{found-max, found-plus, near-max, near-plus, near-fits}
use Rattle.set_minima.proofs.CellNumbers.{near-wider, fits-64}
use Rattle.colour_tables.proofs.table.best_of.Goals as goal
use Rattle.mill_model.specs.declared.prices.TheConstants.{MAX_PRICE}

-- the sum has 64 bits, so the greater is the greater of the numbers
value : (c : goal.After-max) → c.max.result ≡ int_max c.args.here (c.args.below +ℤ c.args.price)
value c =
    let a = near-fits c.args.below
    (near-wider 576460752303423488 1152921504606846976 c.args.below (omega arith)
    c.requires.below) in
    let s : SFits w64 (c.args.below +ℤ c.args.price) =
    fits-64 (c.args.below +ℤ c.args.price)
    (omega (arith, ints, a.0, a.1, c.requires.price.0, c.requires.price.1))
    (omega (arith, ints, a.0, a.1, c.requires.price.0, c.requires.price.1)) in
    let fh : SFits w64 c.args.here = search rules in
    let fb : SFits w64 c.args.below = search rules in
    let fp : SFits w64 c.args.price = search rules in
    simp to_z-of_z at c.max.ensures.value

pub returns-clause-is : goal.returns-clause-is
returns-clause-is c =
    let f : SFits w64 c.max.result = search rules in
    simp to_z-of_z (ap found (value c) ∙ found-max c.args.here (c.args.below +ℤ c.args.price)
    ∙ ap (better (found c.args.here))
    (found-plus 576460752303423488 MAX_PRICE c.args.below c.args.price (omega arith)
    c.requires.below c.requires.price))

pub returns-clause-near : goal.returns-clause-near
returns-clause-near c n h k =
    let f : SFits w64 c.max.result = search rules in
    simp to_z-of_z (subst (λ x. IsNear (n + MAX_PRICE) x) (sym (value c))
    (near-max (n + MAX_PRICE) c.args.here (c.args.below +ℤ c.args.price)
    (near-wider n (n + MAX_PRICE) c.args.here (omega arith) h)
    (near-plus n MAX_PRICE c.args.below c.args.price k c.requires.price)))
