-- What the knapsack works on: later orders without the skipped one, tables of their sets, and
-- layers
-- of such tables.
use Rattle.std.specs.Prelude.{ℕ, ◌≤◌, ◌≡◌, Bool, ℤ, List, Option, length}
use Rattle.set_minima.specs.Packs.{IsTable}
use Rattle.set_minima.specs.Joins.{AreOrders}
use Rattle.set_minima.specs.Cells.{ArePrices, AreLayers}
use Rattle.knap_bound.specs.Items.{AreItems, IsRun, let_in, joined_in, others}
use Rattle.knap_bound.specs.declared.orders_by_colour.Packing.{Packing}
use Rattle.mill_model.specs.declared.order.TheConstants.{MAX_ORDERS}

pub record IsPacking (packing : Packing) : Type 0 where
  pub few : length packing.rest.now ≤ MAX_ORDERS
  pub same : length packing.prices.now ≡ length packing.rest.now
  pub orders : AreOrders packing.rest.now
  pub priced : ArePrices packing.prices.now
  pub sorted : AreItems packing.rest.now packing.items.now

-- the orders that have none of the colours that are left out; of them, those among the first t
-- items; and with those among the first t items
abbrev pub others_of : Packing → List ℕ → ℕ → Bool
others_of packing out = others packing.rest.now out packing.skip

abbrev pub let_to : Packing → List ℕ → ℕ → ℕ → Bool
let_to packing out t = let_in packing.rest.now packing.items.now out packing.skip t

abbrev pub joined_to : Packing → List ℕ → ℕ → ℕ → Bool
joined_to packing out t = joined_in packing.rest.now packing.items.now out packing.skip t

-- items from one place to another are those of a colour that isn't left out
abbrev pub IsRunOf : Packing → List ℕ → ℕ → ℕ → ℕ → Type 0
IsRunOf packing out at end colour =
    IsRun packing.rest.now packing.items.now out packing.skip at end colour

abbrev pub IsTableOf : Packing → (ℕ → Bool) → List ℕ → ℕ → ℕ → (ℕ → Option ℤ) → Type 0
IsTableOf packing allowed own k width cells =
    IsTable allowed own k packing.rest.now packing.prices.now width cells

abbrev pub AreLayersOf : Packing → (ℕ → Bool) → ℕ → ℕ → List ℤ → Type 0
AreLayersOf packing allowed layers width tables =
    AreLayers allowed packing.rest.now packing.prices.now layers width tables
