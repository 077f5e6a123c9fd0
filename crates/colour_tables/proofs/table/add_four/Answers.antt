-- All four are read before any is written, so each is bettered by what a lower load had before.
use Rattle.set_minima.proofs.CellNumbers.{near-wider}
use Rattle.std.proofs.Common.{ℕ, ℤ, refl, ◌≡◌, ◌+◌, ◌-◌, get_or, pos, subst, SFits, w64, to_z-of_z}
use Rattle.std.proofs.Common.{rules, arith}
use Rattle.set_minima.specs.Packs.{better, with_price}
use Rattle.set_minima.specs.Cells.{cell, found, IsNear}
use Rattle.colour_tables.proofs.FourWritten.{four-each, four-other}
use Rattle.colour_tables.proofs.table.add_four.Goals as goal
use Rattle.mill_model.specs.declared.prices.TheConstants.{MAX_PRICE}

pub returns-clause-others : goal.returns-clause-others
returns-clause-others c l o =
    let f0 : SFits w64 c.best_of-x0.result = search rules in
    let f1 : SFits w64 c.best_of-x1.result = search rules in
    let f2 : SFits w64 c.best_of-x2.result = search rules in
    let f3 : SFits w64 c.best_of-x3.result = search rules in
    simp to_z-of_z (four-other c.args.table.now c.args.at c.best_of-x0.result c.best_of-x1.result
    c.best_of-x2.result c.best_of-x3.result c.requires.inside l o)

pub returns-clause-cells : goal.returns-clause-cells
returns-clause-cells c l a b =
    let fp : SFits w64 c.args.price = search rules in
    let f0 : SFits w64 c.best_of-x0.result = search rules in
    let f1 : SFits w64 c.best_of-x1.result = search rules in
    let f2 : SFits w64 c.best_of-x2.result = search rules in
    let f3 : SFits w64 c.best_of-x3.result = search rules in
    let g0 : SFits w64 (get_or c.args.table.now c.args.at (pos 0)) = search rules in
    let h0 : SFits w64 (get_or c.args.table.now (c.args.at - c.args.weight) (pos 0)) = search rules
    in
    let g1 : SFits w64 (get_or c.args.table.now (c.args.at + 1) (pos 0)) = search rules in
    let h1 : SFits w64 (get_or c.args.table.now (c.args.at - c.args.weight + 1) (pos 0)) = search
    rules in
    let g2 : SFits w64 (get_or c.args.table.now (c.args.at + 2) (pos 0)) = search rules in
    let h2 : SFits w64 (get_or c.args.table.now (c.args.at - c.args.weight + 2) (pos 0)) = search
    rules in
    let g3 : SFits w64 (get_or c.args.table.now (c.args.at + 3) (pos 0)) = search rules in
    let h3 : SFits w64 (get_or c.args.table.now (c.args.at - c.args.weight + 3) (pos 0)) = search
    rules in
    let e0 = simp to_z-of_z at c.best_of-x0.ensures.is in
    let e1 = simp to_z-of_z at c.best_of-x1.ensures.is in
    let e2 = simp to_z-of_z at c.best_of-x2.ensures.is in
    let e3 = simp to_z-of_z at c.best_of-x3.ensures.is in
    let l1 : c.args.at - c.args.weight + 1 ≡ c.args.at + 1 - c.args.weight = omega arith in
    let l2 : c.args.at - c.args.weight + 2 ≡ c.args.at + 2 - c.args.weight = omega arith in
    let l3 : c.args.at - c.args.weight + 3 ≡ c.args.at + 3 - c.args.weight = omega arith in
    simp to_z-of_z (four-each c.args.table.now c.args.at c.best_of-x0.result c.best_of-x1.result
    c.best_of-x2.result c.best_of-x3.result c.requires.inside
    (λ i x. found x ≡ better (cell c.args.table.now i)
    (with_price c.args.price (cell c.args.table.now (i - c.args.weight))))
    e0 (subst (λ i. found c.best_of-x1.result ≡ better (found (get_or c.args.table.now (c.args.at +
    1) (pos 0)))
    (with_price c.args.price (found (get_or c.args.table.now i (pos 0))))) l1 e1)
    (subst (λ i. found c.best_of-x2.result ≡ better (found (get_or c.args.table.now (c.args.at + 2)
    (pos 0)))
    (with_price c.args.price (found (get_or c.args.table.now i (pos 0))))) l2 e2)
    (subst (λ i. found c.best_of-x3.result ≡ better (found (get_or c.args.table.now (c.args.at + 3)
    (pos 0)))
    (with_price c.args.price (found (get_or c.args.table.now i (pos 0))))) l3 e3) l a b)

pub returns-clause-near : goal.returns-clause-near
returns-clause-near c n h l a b =
    let fp : SFits w64 c.args.price = search rules in
    let f0 : SFits w64 c.best_of-x0.result = search rules in
    let f1 : SFits w64 c.best_of-x1.result = search rules in
    let f2 : SFits w64 c.best_of-x2.result = search rules in
    let f3 : SFits w64 c.best_of-x3.result = search rules in
    let g0 : SFits w64 (get_or c.args.table.now c.args.at (pos 0)) = search rules in
    let h0 : SFits w64 (get_or c.args.table.now (c.args.at - c.args.weight) (pos 0)) = search rules
    in
    let g1 : SFits w64 (get_or c.args.table.now (c.args.at + 1) (pos 0)) = search rules in
    let h1 : SFits w64 (get_or c.args.table.now (c.args.at - c.args.weight + 1) (pos 0)) = search
    rules in
    let g2 : SFits w64 (get_or c.args.table.now (c.args.at + 2) (pos 0)) = search rules in
    let h2 : SFits w64 (get_or c.args.table.now (c.args.at - c.args.weight + 2) (pos 0)) = search
    rules in
    let g3 : SFits w64 (get_or c.args.table.now (c.args.at + 3) (pos 0)) = search rules in
    let h3 : SFits w64 (get_or c.args.table.now (c.args.at - c.args.weight + 3) (pos 0)) = search
    rules in
    let e0 = simp to_z-of_z at c.best_of-x0.ensures.near in
    let e1 = simp to_z-of_z at c.best_of-x1.ensures.near in
    let e2 = simp to_z-of_z at c.best_of-x2.ensures.near in
    let e3 = simp to_z-of_z at c.best_of-x3.ensures.near in
    simp to_z-of_z (four-each c.args.table.now c.args.at c.best_of-x0.result c.best_of-x1.result
    c.best_of-x2.result c.best_of-x3.result c.requires.inside (λ i x. IsNear (n + MAX_PRICE) x)
    (e0 n (h c.args.at (omega arith)) (h (c.args.at - c.args.weight) (omega arith)))
    (e1 n (h (c.args.at + 1) (omega arith)) (h (c.args.at - c.args.weight + 1) (omega arith)))
    (e2 n (h (c.args.at + 2) (omega arith)) (h (c.args.at - c.args.weight + 2) (omega arith)))
    (e3 n (h (c.args.at + 3) (omega arith)) (h (c.args.at - c.args.weight + 3) (omega arith))) l a
    b)

near-here : (n : ℕ) (x : ℤ) → n ≡ 576460752303423488 → IsNear n x → IsNear 1152921504606846976 x
near-here n x e h = near-wider n 1152921504606846976 x (omega arith) h

pub best_of-x1-requires-clause-here : goal.best_of-x1-requires-clause-here
best_of-x1-requires-clause-here c =
    let g : SFits w64 (get_or c.args.table.now (c.args.at + 1) (pos 0)) = search rules in
    simp to_z-of_z (near-here 576460752303423488 (get_or c.args.table.now (c.args.at + 1) (pos 0))
    refl
    (c.requires.near (c.args.at + 1) (omega arith)))

pub best_of-x2-requires-clause-here : goal.best_of-x2-requires-clause-here
best_of-x2-requires-clause-here c =
    let g : SFits w64 (get_or c.args.table.now (c.args.at + 2) (pos 0)) = search rules in
    simp to_z-of_z (near-here 576460752303423488 (get_or c.args.table.now (c.args.at + 2) (pos 0))
    refl
    (c.requires.near (c.args.at + 2) (omega arith)))

pub best_of-x2-requires-clause-below : goal.best_of-x2-requires-clause-below
best_of-x2-requires-clause-below c =
    let g : SFits w64 (get_or c.args.table.now (c.args.at - c.args.weight + 2) (pos 0)) = search
    rules in
    simp to_z-of_z (c.requires.near (c.args.at - c.args.weight + 2) (omega arith))

pub best_of-x3-requires-clause-here : goal.best_of-x3-requires-clause-here
best_of-x3-requires-clause-here c =
    let g : SFits w64 (get_or c.args.table.now (c.args.at + 3) (pos 0)) = search rules in
    simp to_z-of_z (near-here 576460752303423488 (get_or c.args.table.now (c.args.at + 3) (pos 0))
    refl
    (c.requires.near (c.args.at + 3) (omega arith)))

pub best_of-x3-requires-clause-below : goal.best_of-x3-requires-clause-below
best_of-x3-requires-clause-below c =
    let g : SFits w64 (get_or c.args.table.now (c.args.at - c.args.weight + 3) (pos 0)) = search
    rules in
    simp to_z-of_z (c.requires.near (c.args.at - c.args.weight + 3) (omega arith))
