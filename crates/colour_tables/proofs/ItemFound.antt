-- The item of an order among those of its colour.
use Rattle.std.proofs.Common.{ℕ, ◌+◌, ◌-◌, ◌<◌, ◌≤◌, ◌≡◌, ◌≢◌, true, List, length}
use Rattle.std.proofs.Common.{get_or, eq-eqb, ℤ, sym, ap, ◌∙◌, arith}
use Rattle.list_laws.specs.Sets.{holds}
use Rattle.mill_model.specs.declared.order.Order.{Order}
use Rattle.set_minima.specs.Packs.{colour_at}
use Rattle.colour_tables.specs.Items.{IsRun, item_at, places}
use Rattle.colour_tables.specs.Owned.{run_of, IsRunSafe, IsFound}
use Rattle.colour_tables.specs.declared.items.Item.{Item}
use Rattle.colour_tables.specs.declared.slabs.Runs.{Runs}
use Rattle.colour_tables.proofs.OneItemPriced.{part-at}
use Rattle.colour_tables.proofs.RunsFromStretches.{part-length, place-found}

module _ (runs : Runs) (c place : ℕ) (safe : IsRunSafe runs c) where
  abbrev at : ℕ
  at = (get_or runs.ends.items c (0, 0)).0

  abbrev end : ℕ
  end = (get_or runs.ends.items c (0, 0)).1

  long : length (run_of runs c) ≡ end - at
  long = part-length at end runs.items.items safe.order safe.ends

  pub found-at : (t : ℕ) → at ≤ t → t < end → (item_at runs.items.items t).place ≡ place →
      IsFound runs c place t
  found-at t a b e =
      let n : length (run_of runs c) ≡ end - at = long in
      let m : end ≤ length runs.items.items = safe.ends in
      record {
        in_run = (a, omega arith);
        inside = omega arith;
        is = e;
      }

  pub none-found : (rest : List Order) (prices : List ℤ) (x : ℕ) →
      IsRun rest prices x (run_of runs c) → place < length rest → colour_at rest place ≡ x →
      ((t : ℕ) → at ≤ t → t < end → (item_at runs.items.items t).place ≢ place) → ⊥
  none-found rest prices x run here colour none =
      let h : holds place (places (run_of runs c)) ≡ true =
      run.whole place here ∙ eq-eqb (colour_at rest place) x colour in
      let r = place-found (run_of runs c) place h in
      let n : length (run_of runs c) ≡ end - at = long in
      let b : r.0 < length (run_of runs c) = r.1 in
      none (at + r.0) (omega arith) (omega arith)
      (sym (ap (λ (i : Item). i.place)
      (part-at at (end - at) r.0 runs.items.items (omega arith))) ∙ r.2)
