-- Load by load, from the top: the order is let in from here on, and the loads below are as before.
use Rattle.std.proofs.Common.{◌≡◌, ℕ, ◌+◌, ◌-◌, ◌≤◌, ◌∙◌, ap, refl, inl, inr, get_or, pos, SFits}
use Rattle.std.proofs.Common.{w64, to_z-of_z, rules, arith}
use Rattle.std.proofs.lemmas.Bool.{cases_lt}
use Rattle.set_minima.specs.Cells.{found}
use Rattle.set_minima.proofs.CellNumbers.{near-wider}
use Rattle.set_minima.proofs.OneCell.{entry-done, entry-old, entry-near, light-stays}
use Rattle.colour_tables.proofs.table.add_tail.Goals as goal
use Rattle.mill_model.specs.declared.prices.TheConstants.{MAX_PRICE}

pub best_of-requires-clause-here : goal.best_of-requires-clause-here
best_of-requires-clause-here c =
    let f : SFits w64 (get_or c.loop-l.table (c.loop-l.l - 1) (pos 0)) = search rules in
    simp to_z-of_z (near-wider (576460752303423488 + MAX_PRICE) 1152921504606846976
    (get_or c.loop-l.table (c.loop-l.l - 1) (pos 0)) (omega arith)
    (c.loop-l.invariant.near 576460752303423488 c.requires.near (c.loop-l.l - 1)))

pub best_of-requires-clause-below : goal.best_of-requires-clause-below
best_of-requires-clause-below c =
    let at = c.loop-l.l - 1 - c.args.weight in
    let f : SFits w64 (get_or c.loop-l.table at (pos 0)) = search rules in
    let o : get_or c.loop-l.table at (pos 0) ≡ get_or c.args.table.now at (pos 0) =
    c.loop-l.invariant.old at (omega arith) in
    simp to_z-of_z (rw o (c.requires.near at))

pub loop-l-init : goal.loop-l-init
loop-l-init c = record {
  done = λ k a b. absurd (omega arith);
  old = λ k b. refl;
  near = λ n h l.
      near-wider n (n + MAX_PRICE) (get_or c.args.table.now l (pos 0)) (omega arith) (h l);
}

pub returns-clause-cells : goal.returns-clause-cells
returns-clause-cells c l h = elim (cases_lt l c.loop-l.l) [
  | inl b ↦ ap found (c.loop-l.invariant.old l b)
      ∙ light-stays c.args.weight c.args.price c.args.table.now l (omega arith)
  | inr b ↦ (let f : SFits w64 c.args.price = search rules in
      let e = c.loop-l.invariant.done l (omega arith) (omega arith) in
      simp to_z-of_z at e)
]

pub loop-l-preserved : goal.loop-l-preserved
loop-l-preserved c =
    let at = c.loop-l.l - 1 in
    let low = at - c.args.weight in
    let fp : SFits w64 c.args.price = search rules in
    let fv : SFits w64 c.best_of.result = search rules in
    let fh : SFits w64 (get_or c.loop-l.table at (pos 0)) = search rules in
    let fl : SFits w64 (get_or c.loop-l.table low (pos 0)) = search rules in
    let e = simp to_z-of_z at c.best_of.ensures.is in
    let d = simp to_z-of_z at c.loop-l.invariant.done in
    let near = simp to_z-of_z at c.best_of.ensures.near in
    let old = λ (k : ℕ) (b : k ≤ at). c.loop-l.invariant.old k (omega arith) in
    simp to_z-of_z (record {
      done =
          entry-done c.args.weight c.args.price c.args.table.now c.loop-l.table at c.best_of.result
          (omega arith) old (omega arith) e (λ k a b. d k (omega arith) b);
      old =
          entry-old c.args.weight c.args.price c.args.table.now c.loop-l.table at c.best_of.result
          (omega arith) old;
      near = λ n h.
          entry-near c.args.weight c.args.price c.args.table.now c.loop-l.table at
          c.best_of.result (omega arith) old (n + MAX_PRICE) (c.loop-l.invariant.near n h)
          (near n (rw (old at (omega arith)) (h at)) (rw (old low (omega arith)) (h low)));
    })
