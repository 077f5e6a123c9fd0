-- The least slack of the sets of allowed orders that may join a slab with some load and colours.
use Rattle.std.specs.Prelude.{ℕ, suc, pos, ◌+◌, ◌*◌, ◌<◌, ◌-◌, ◌≤◌, ◌≡◌, Bool, true, List, [], ◌∷◌}
use Rattle.std.specs.Prelude.{ℤ, neg_ℤ}
use Rattle.mill_model.specs.Limits.{all_prices}
use Rattle.mill_model.specs.Slab.{Mill}
use Rattle.mill_model.specs.declared.charges.TheConstants.{MAX_CHARGE}
use Rattle.mill_model.specs.declared.order.Order.{Order}
use Rattle.set_minima.specs.Packs.{IsTop}
use Rattle.list_laws.specs.Sets.{holds}
use Rattle.set_minima.specs.Joins.{Joins, gain, all_places}
use Rattle.set_minima.specs.Cells.{found}
use Rattle.colour_tables.specs.Entries.{entry}

-- its number with the other sign is the greatest gain
abbrev pub IsLeast : List Order → List ℤ → (ℕ → ℕ) → ℕ → ℕ → (ℕ → Bool) → List ℕ → ℤ → Type 0
IsLeast rest prices charge largest base allowed own least =
    IsTop (Joins allowed 0 largest base own 2 rest) (gain charge base rest prices)
    (found (neg_ℤ least))

-- what a slack comes to at most, above 0 or below: the prices of all orders and one charge
abbrev pub table_slack_limit : ℕ
table_slack_limit = all_prices + 60 * MAX_CHARGE

-- a table reaches to the room of a slab
pub record IsRoom (largest base n : ℕ) : Type 0 where
  pub fits : base ≤ largest
  pub wide : n ≡ suc (largest - base)

-- a mill whose slabs carry at most two colours
abbrev pub two_colours : ℕ → Mill
two_colours largest = record { largest = largest; most_colours = 2 }

-- a set of some load that may join a slab of one of some colours
abbrev pub MakesSome : List Order → (ℕ → ℕ) → ℕ → List ℕ → List Bool → Type 0
MakesSome rest name largest cs marks =
    (c : ℕ) × (holds c cs ≡ true) × Joins all_places 1 largest 0 (name c ∷ []) 2 rest marks

-- 60 times the charges of the loads from a base on
abbrev pub AreCharged : (ℕ → ℕ) → ℕ → ℕ → List ℤ → Type 0
AreCharged charge base n charges =
    (l : ℕ) → l < n → entry charges l ≡ pos (60 * charge (base + l))
