-- Orders that lie on the slabs of a mill, as a mover holds them.
use Rattle.std.specs.Prelude.{ℕ, ◌<◌, ◌≤◌, ◌≡◌, ◌≢◌, Bool, true, List, All, map, length, eqb}
use Rattle.std.specs.Prelude.{slice_index}
use Rattle.mill_model.specs.Instance.{IsOrder}
use Rattle.mill_model.specs.Plan.{slab, loss, IsLegalPlan}
use Rattle.mill_model.specs.Slab.{Mill, load}
use Rattle.mill_model.specs.declared.order.Order.{Order}
use Rattle.mill_model.specs.declared.order.TheConstants.{MAX_ORDERS}
use Rattle.pair_split.specs.Splits.{grouped}
use Rattle.index_links.specs.Lists.{AreSlabLists}
use Rattle.large_moves.specs.declared.room.Room.{Room}

pub record Laid : Type 0 where
  pub mill : Mill
  pub orders : List Order
  pub plan : List ℕ

-- what a mover keeps: the plan is legal, and the orders of each colour stand together
pub record IsLaid (laid : Laid) : Type 0 where
  pub sizes : laid.mill.largest ≤ 20000
  pub few_colours : laid.mill.most_colours ≤ 8
  pub few : length laid.orders ≤ MAX_ORDERS
  pub each : All IsOrder laid.orders
  pub together : grouped laid.orders ≡ true
  pub is_legal : IsLegalPlan laid.mill laid.orders laid.plan

-- the same orders on slabs of the same mill
pub record SameOrders (old new : Laid) : Type 0 where
  pub mill : new.mill ≡ old.mill
  pub orders : new.orders ≡ old.orders

abbrev pub laid_loss : (ℕ → ℕ) → Laid → ℕ
laid_loss charge laid = loss charge laid.plan laid.orders

-- on all slabs but two, the same orders lie as before
abbrev pub StayElsewhere : ℕ → ℕ → List ℕ → List ℕ → Type 0
StayElsewhere a c plan new =
    (s : ℕ) → s ≢ a → s ≢ c → map (λ t. eqb s t) new ≡ map (λ t. eqb s t) plan

-- the loads of the slabs of a plan, by their numbers
pub record AreLoads (orders : List Order) (plan loads : List ℕ) : Type 0 where
  pub count : length loads ≡ length orders
  pub at : (s : ℕ) → s < length orders → slice_index loads s ≡ load (slab s plan orders)

-- what a mover holds: laid orders, the lists and the loads of their slabs, and room for the orders
-- of a pair and their marks
pub record IsMover (held : Laid) (lists : List (List ℕ)) (loads : List ℕ) (room : Room)
    (marks : List Bool) : Type 0 where
  pub is_laid : IsLaid held
  pub are_lists : AreSlabLists lists
  pub are_loads : AreLoads held.orders held.plan loads
  pub place_room : length room.places.items ≡ length held.orders
  pub item_room : length room.items.items ≡ length held.orders
  pub mark_room : length marks ≡ length held.orders
