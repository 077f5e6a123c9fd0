-- What the knapsack works on: later orders, tables of them, and layers of tables.
use Rattle.std.specs.Prelude.{ℕ, suc, ◌+◌, ◌<◌, ◌≤◌, ◌≡◌, ◌⊎◌, Bool, ℤ, pos, List, [], Option}
use Rattle.std.specs.Prelude.{length, map, slice_index_or}
use Rattle.list_laws.specs.Sets.{holds, different}
use Rattle.mill_model.specs.Slab.{load}
use Rattle.set_minima.specs.Packs.{IsTable, colour_at}
use Rattle.set_minima.specs.Joins.{AreOrders}
use Rattle.set_minima.specs.Cells.{cell, ArePrices, AreLayers}
use Rattle.set_minima.specs.Reaches.{AreReaches}
use Rattle.least_slacks.specs.Items.{AreItems, IsRun, Letting, let_in, joined_in, others}
use Rattle.least_slacks.specs.declared.later_orders.LaterOrders.{LaterOrders}
use Rattle.mill_model.specs.declared.order.TheConstants.{MAX_ORDERS}

pub record IsLater (later : LaterOrders) : Type 0 where
  pub few : length later.rest.now ≤ MAX_ORDERS
  pub same : length later.prices.now ≡ length later.rest.now
  pub orders : AreOrders later.rest.now
  pub priced : ArePrices later.prices.now
  pub sorted : AreItems later.rest.now later.items.now
  pub weighs : later.weight ≡ load later.rest.now
  pub coloured : different (map (λ order. order.colour) later.rest.now) ≤ later.kinds

-- the orders that have none of the colours that are left out; those that are let in with the first
-- t items; and the former with all of the first t items
abbrev pub others_of : LaterOrders → List ℕ → ℕ → Bool
others_of later out = others later.rest.now out

abbrev pub let_to : LaterOrders → Letting → ℕ → ℕ → Bool
let_to later letting t = let_in later.rest.now later.items.now letting t

abbrev pub joined_to : LaterOrders → List ℕ → ℕ → ℕ → Bool
joined_to later out t = joined_in later.rest.now later.items.now out t

-- two lists have the same of the later orders' colours
abbrev pub HaveSame : LaterOrders → List ℕ → List ℕ → Type 0
HaveSame later own out =
    (i : ℕ) → i < length later.rest.now →
    holds (colour_at later.rest.now i) own ≡ holds (colour_at later.rest.now i) out

-- items from one place to another are those of a colour that is let in
abbrev pub IsRunOf : LaterOrders → Letting → ℕ → ℕ → ℕ → Type 0
IsRunOf later letting at end colour = IsRun later.rest.now later.items.now letting at end colour

abbrev pub IsTableOf : LaterOrders → (ℕ → Bool) → List ℕ → ℕ → ℕ → (ℕ → Option ℤ) → Type 0
IsTableOf later allowed own k width cells =
    IsTable allowed own k later.rest.now later.prices.now width cells

abbrev pub AreLayersOf : LaterOrders → (ℕ → Bool) → ℕ → ℕ → List ℤ → Type 0
AreLayersOf later allowed layers width tables =
    AreLayers allowed later.rest.now later.prices.now layers width tables

abbrev pub AreReachesOf : LaterOrders → (ℕ → Bool) → ℕ → ℕ → List ℕ → Type 0
AreReachesOf later allowed layers width reach = AreReaches allowed later.rest.now layers width reach

-- the orders of the items from one place to another are let into the layer that begins at `here`,
-- over the sets that the one at `below` has for a colour less; so many loads are looked at, and all
-- else stays
pub record IsRaised (later : LaterOrders) (at end loads below here : ℕ) (old new : List ℤ) : Type 0
  where
    pub best :
        (letting : Letting) (colour k : ℕ) → IsRunOf later letting at end colour →
        IsTableOf later (let_to later letting at) [] k loads (λ l. cell old (below + l)) →
        IsTableOf later (let_to later letting at) [] (suc k) loads (λ l. cell old (here + l)) →
        IsTableOf later (let_to later letting end) [] (suc k) loads (λ l. cell new (here + l))
    pub other :
        (i : ℕ) → i < here ⊎ here + loads ≤ i →
        slice_index_or new i (pos 0) ≡ slice_index_or old i (pos 0)
