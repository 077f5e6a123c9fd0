-- The orders that come later than some rank, for whose sets least slacks are asked.
use Rattle.std.specs.Prelude.{ℕ, ◌-◌, List, ℤ, drop, Option, Some, None}
use Rattle.mill_model.specs.Slab.{Mill}
use Rattle.mill_model.specs.Charges.{ChargeTable}
use Rattle.mill_model.specs.Prices.{least_slack}
use Rattle.mill_model.specs.Bounds.{least_new, least_new_with, least_on_with}
use Rattle.mill_model.specs.declared.order.Order.{Order}
use Rattle.order_symmetry.specs.Ranked.{RankedOrders, orders_of}

-- later orders in rank, the mill that they are for, and what each load is charged
pub record Later : Type 0 where
  pub orders : List Order
  pub mill : Mill
  pub charges : ChargeTable

-- those from a rank on
abbrev pub later_from : RankedOrders → ChargeTable → ℕ → Later
later_from ranked charges from = record {
  orders = drop from (orders_of ranked);
  mill = ranked.mill;
  charges = charges;
}

-- the least slack of a new slab with something in it, over the sets that hold the forced order, if
-- there is one
abbrev pub least_new_holding : Later → (ℕ → ℕ) → List ℤ → Option ℕ → Option ℤ
least_new_holding later charge prices None = least_new later.mill charge later.orders prices
least_new_holding later charge prices (Some i) =
    least_new_with later.mill charge later.orders prices i

-- the least slack of some orders that are on a slab, over the sets that hold the forced order, if
-- there is one
abbrev pub least_on_holding :
    Later → (ℕ → ℕ) → List Order → List ℤ → Option ℕ → Option ℤ
least_on_holding later charge group prices None =
    Some (least_slack later.mill charge group later.orders prices)
least_on_holding later charge group prices (Some i) =
    least_on_with later.mill charge group later.orders prices i

-- the place of a rank, if there is one, among the orders from a rank on
abbrev pub place_from : ℕ → Option ℕ → Option ℕ
place_from from None = None
place_from from (Some rank) = Some (rank - from)
