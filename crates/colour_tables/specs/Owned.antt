-- The colours of a slab, by those of them that are to come; and the runs of the colours.
use Rattle.std.specs.Prelude.{ℕ, ◌+◌, ◌-◌, ◌<◌, ◌≤◌, ◌≡◌, ◌⊎◌, true, false, eqb, List, [], ◌∷◌}
use Rattle.std.specs.Prelude.{length, take, drop, ℤ, slice_index_or}
use Rattle.list_laws.specs.Sets.{holds, different}
use Rattle.mill_model.specs.declared.order.Order.{Order}
use Rattle.set_minima.specs.Packs.{colour_at, IsTable}
use Rattle.set_minima.specs.Joins.{all_but}
use Rattle.set_minima.specs.Cells.{cell}
use Rattle.colour_tables.specs.Colours.{but_order}
use Rattle.colour_tables.specs.Threes.{but}
use Rattle.colour_tables.specs.Items.{IsRun, AreSmall, item_at}
use Rattle.colour_tables.specs.declared.items.Item.{Item}
use Rattle.colour_tables.specs.declared.slab.Own.{Own}
use Rattle.colour_tables.specs.declared.slab.Own.TheVariants.{Bare, Free, One, Two, Full}
use Rattle.colour_tables.specs.declared.slabs.Runs.{Runs}

-- the items of a colour
abbrev pub run_of : Runs → ℕ → List Item
run_of runs c =
    let ends = slice_index_or runs.ends.items c (0, 0) in
    take (ends.1 - ends.0) (drop ends.0 runs.items.items)

pub record IsRunSafe (runs : Runs) (c : ℕ) : Type 0 where
  pub here : c < length runs.ends.items
  pub order : (slice_index_or runs.ends.items c (0, 0)).0
      ≤ (slice_index_or runs.ends.items c (0, 0)).1
  pub ends : (slice_index_or runs.ends.items c (0, 0)).1 ≤ length runs.items.items
  pub small : AreSmall (run_of runs c)

abbrev pub AreRunsSafe : List ℕ → Runs → Type 0
AreRunsSafe present runs = (c : ℕ) → holds c present ≡ true → IsRunSafe runs c

abbrev pub AreRuns : List Order → List ℤ → (ℕ → ℕ) → List ℕ → Runs → Type 0
AreRuns rest prices name present runs =
    (c : ℕ) → holds c present ≡ true → IsRun rest prices (name c) (run_of runs c)

-- the colours that are named have rows
abbrev pub IsHeld : List ℕ → Own → Type 0
IsHeld present Bare = Unit {0}
IsHeld present (Free d) = holds d present ≡ true
IsHeld present (One d) = holds d present ≡ true
IsHeld present (Two d e) = (holds d present ≡ true) × (holds e (but d present) ≡ true)
IsHeld present Full = Unit {0}

-- a slab has these colours: one that no order to come has, one that some has, or two of which one,
-- both or none are to come
abbrev pub IsOwn : List Order → (ℕ → ℕ) → List ℕ → Own → Type 0
IsOwn rest name own Bare =
    (x : ℕ) × (own ≡ x ∷ [])
    × ((i : ℕ) → i < length rest → eqb (colour_at rest i) x ≡ false)
IsOwn rest name own (Free d) = own ≡ name d ∷ []
IsOwn rest name own (One d) =
    (different own ≡ 2) × (holds (name d) own ≡ true)
    × ((i : ℕ) → i < length rest → holds (colour_at rest i) own ≡ true →
    eqb (colour_at rest i) (name d) ≡ true)
IsOwn rest name own (Two d e) =
    (different own ≡ 2) × (holds (name d) own ≡ true) × (holds (name e) own ≡ true)
IsOwn rest name own Full =
    (different own ≡ 2)
    × ((i : ℕ) → i < length rest → holds (colour_at rest i) own ≡ false)

-- an order of a colour may join as far as the colours go
abbrev pub MayTake : ℕ → Own → Type 0
MayTake c Bare = Unit {0}
MayTake c (Free d) = Unit {0}
MayTake c (One d) = d ≡ c
MayTake c (Two d e) = (d ≡ c) ⊎ (e ≡ c)
MayTake c Full = ⊥

-- an order in its turn: the table of its colour without it, and that of its colour and at most one
-- other
pub record IsTurn (rest : List Order) (prices : List ℤ) (name : ℕ → ℕ) (width c j : ℕ)
    (without beside : List ℤ) : Type 0 where
  pub here : j < length rest
  pub colour : colour_at rest j ≡ name c
  pub alone : IsTable (but_order rest (name c) j) (name c ∷ []) 1 rest prices width (cell without)
  pub mates : IsTable (all_but j) (name c ∷ []) 2 rest prices width (cell beside)

-- a place of the items lies in the run of a colour
abbrev pub IsInRun : Runs → ℕ → ℕ → Type 0
IsInRun runs c at =
    ((slice_index_or runs.ends.items c (0, 0)).0 ≤ at)
    × (at < (slice_index_or runs.ends.items c (0, 0)).0 + length (run_of runs c))

-- the item of an order stands at a place of the run of its colour
pub record IsFound (runs : Runs) (c place at : ℕ) : Type 0 where
  pub in_run : IsInRun runs c at
  pub inside : at < length runs.items.items
  pub is : (item_at runs.items.items at).place ≡ place
