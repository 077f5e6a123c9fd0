-- Up to the reach the layer is raised; above it there is no set, now as before.
use Rattle.std.proofs.Common.{◌≡◌, ℕ, ℤ, List, suc, ◌+◌, ◌*◌, ◌<◌, [], length, take}
use Rattle.std.proofs.Common.{arith, sym, subst, inl, inr}
use Rattle.std.proofs.lemmas.Bool.{cases_lt}
use Rattle.std.proofs.lemmas.List.{length-take}
use Rattle.set_minima.specs.Packs.{IsBest}
use Rattle.set_minima.specs.Cells.{cell, found}
use Rattle.set_minima.proofs.ReachMore.{best-beyond}
use Rattle.least_slacks.specs.Later.{let_to}
use Rattle.least_slacks.proofs.colour_layers.raise_layer.Goals as goal

front : (reach : ℕ) (table : List ℤ) → reach < length table →
    length (take (reach + 1) table) ≡ reach + 1
front reach table h = let e = length-take (reach + 1) table in omega (arith, e)

pub returns-clause-best : goal.returns-clause-best
returns-clause-best c letting colour k run reached below here l b =
    let later = c.args.later.now in
    let width = length c.args.table.now in
    let at = c.args.t * width in
    let long = front c.args.reach c.args.table.now c.requires.reach in
    let best = rw long at c.raise_loads.ensures.raised.best in
    let other = rw long at c.raise_loads.ensures.raised.other in
    elim (cases_lt l (c.args.reach + 1)) [
      | inl q ↦ best letting colour k run (λ i h. below i (omega (arith, c.requires.reach)))
          (λ i h. here i (omega (arith, c.requires.reach))) l q
      | inr q ↦ subst (λ x. IsBest (let_to later letting c.args.run.1) [] (suc k) later.rest.now
          later.prices.now l (found x)) (sym (other (at + l) (inr (omega arith))))
          (best-beyond later.rest.now later.prices.now (let_to later letting c.args.run.0)
          (let_to later letting c.args.run.1) [] (suc k) width c.args.reach l
          (cell c.args.tables.now (at + l)) run.next.kept reached b (omega arith) (here l b))
    ]

pub returns-clause-other : goal.returns-clause-other
returns-clause-other c i (inl h) =
    let long = front c.args.reach c.args.table.now c.requires.reach in
    let other = rw long at c.raise_loads.ensures.raised.other in
    other i (inl h)
returns-clause-other c i (inr h) =
    let long = front c.args.reach c.args.table.now c.requires.reach in
    let other = rw long at c.raise_loads.ensures.raised.other in
    other i (inr (omega (arith, c.requires.reach)))
