-- Load by load: the cells below `l` are bettered, and the others are as they were.
use Rattle.std.proofs.Common.{◌≡◌, ◌+◌, ◌-◌, ◌<◌, ◌≤◌, ap, refl, inl, inr, get_or, pos}
use Rattle.std.proofs.Common.{SFits, w64, to_z-of_z, rules, arith, leb, leb-true}
use Rattle.std.proofs.Common.{leb-false, length, eqb, eqb-true}
use Rattle.std.proofs.lemmas.List.{get_or-set_same, get_or-set_other}
use Rattle.std.proofs.lemmas.Bool.{cases_lt}
use Rattle.list_laws.proofs.Tests.{either}
use Rattle.set_minima.specs.Cells.{found}
use Rattle.set_minima.proofs.CellNumbers.{near-wider}
use Rattle.set_minima.proofs.OneCell.{differ, raised-done, raised-other}
use Rattle.mill_model.specs.declared.prices.TheConstants.{MAX_PRICE}
use Rattle.least_slacks.proofs.best_prices.raise_cells.Goals as goal

pub best_of-requires-clause-here : goal.best_of-requires-clause-here
best_of-requires-clause-here c =
    let at = c.args.at + c.loop-l.l in
    let f : SFits w64 (get_or c.loop-l.tables at (pos 0)) = search rules in
    simp to_z-of_z (near-wider (576460752303423488 + MAX_PRICE) 1152921504606846976
    (get_or c.loop-l.tables at (pos 0)) (omega arith)
    (c.loop-l.invariant.near 576460752303423488 c.requires.near at))

pub best_of-requires-clause-below : goal.best_of-requires-clause-below
best_of-requires-clause-below c =
    let low = c.args.from + (c.loop-l.l - c.args.weight) in
    let f : SFits w64 (get_or c.loop-l.tables low (pos 0)) = search rules in
    let o : get_or c.loop-l.tables low (pos 0) ≡ get_or c.args.tables.now low (pos 0) =
    c.loop-l.invariant.other low
    (inl (omega (arith, c.requires.apart, c.loop-l.auto.l, c.loop-l-test.true))) in
    simp to_z-of_z (rw o (c.requires.near low))

pub loop-l-init : goal.loop-l-init
loop-l-init c = record {
  done = λ k a b. absurd (omega arith);
  other = λ i h. refl;
  ends = inr (omega arith);
  near = λ n h l.
      near-wider n (n + MAX_PRICE) (get_or c.args.tables.now l (pos 0)) (omega arith) (h l);
}

pub loop-l-preserved : goal.loop-l-preserved
loop-l-preserved c =
    let l = c.loop-l.l in
    let at = c.args.at + l in
    let low = c.args.from + (l - c.args.weight) in
    let light : c.args.weight ≤ l = c.loop-l.auto.l in
    let inside : l < c.args.width = c.loop-l-test.true in
    let long : length c.loop-l.tables ≡ length c.args.tables.now = c.loop-l.auto.tables in
    let here : at < length c.loop-l.tables = omega (arith, c.requires.inside) in
    let fp : SFits w64 c.args.price = search rules in
    let fv : SFits w64 c.best_of.result = search rules in
    let fh : SFits w64 (get_or c.loop-l.tables at (pos 0)) = search rules in
    let fl : SFits w64 (get_or c.loop-l.tables low (pos 0)) = search rules in
    let e = simp to_z-of_z at c.best_of.ensures.is in
    let d = simp to_z-of_z at c.loop-l.invariant.done in
    let near = simp to_z-of_z at c.best_of.ensures.near in
    let old = c.loop-l.invariant.other in
    simp to_z-of_z (record {
      done =
          raised-done c.args.weight c.args.price c.args.tables.now c.loop-l.tables c.args.from
          c.args.at c.args.width l c.best_of.result c.requires.apart light inside here old e d;
      other =
          raised-other c.args.weight c.args.price c.args.tables.now c.loop-l.tables c.args.from
          c.args.at c.args.width l c.best_of.result c.requires.apart light inside here old;
      ends = inl (omega arith);
      near = λ n h i. elim (either (eqb i at)) [
        | inl q ↦ (let s : i ≡ at = eqb-true i at q in
            rw (s, get_or-set_same c.loop-l.tables at c.best_of.result (pos 0) here)
            (near n (rw (old at (inr (omega arith))) (h at))
            (rw (old low (inl (omega (arith, c.requires.apart)))) (h low))))
        | inr q ↦ rw (get_or-set_other c.loop-l.tables at i c.best_of.result (pos 0)
            (differ i at q)) (c.loop-l.invariant.near n h i)
      ];
    })

pub returns-clause-cells : goal.returns-clause-cells
returns-clause-cells c l h = elim (either (leb c.args.weight l)) [
  | inl t ↦ (let f : SFits w64 c.args.price = search rules in
      let d = simp to_z-of_z at c.loop-l.invariant.done in
      rw t (d l (leb-true c.args.weight l t) (omega (arith, c.loop-l-test.false))))
  | inr t ↦ rw t (ap found (c.loop-l.invariant.other (c.args.at + l)
      (inl (let n : l < c.args.weight = leb-false c.args.weight l t in omega arith))))
]

pub returns-clause-other : goal.returns-clause-other
returns-clause-other c i (inl h) = c.loop-l.invariant.other i (inl (omega arith))
returns-clause-other c i (inr h) = elim c.loop-l.invariant.ends [
  | inl e ↦ c.loop-l.invariant.other i (inr (omega arith))
  | inr e ↦ elim (cases_lt i (c.args.at + c.args.weight)) [
    | inl b ↦ c.loop-l.invariant.other i (inl b)
    | inr b ↦ c.loop-l.invariant.other i (inr (omega arith))
  ]
]
