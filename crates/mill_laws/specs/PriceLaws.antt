-- Laws of prices: weak duality, and what the ascent and the sweep give.
use Rattle.std.specs.Prelude.{ℕ, ◌+◌, ◌*◌, ◌≡◌, true, List, length, ℤ, pos, ◌≤ℤ◌, ◌≤◌, All}
use Rattle.mill_model.specs.Slab.{Mill}
use Rattle.mill_model.specs.Plan.{loss, IsLegalPlan}
use Rattle.mill_model.specs.Tree.{later_orders, in_tree, lies_under}
use Rattle.mill_model.specs.Prices.{valid, worth}
use Rattle.mill_model.specs.Bounds.{ascent_prices, ascent_worth, swept}
use Rattle.mill_model.specs.Limits.{IsPrice}
use Rattle.mill_model.specs.declared.charges.TheConstants.{MAX_CHARGE}
use Rattle.mill_model.specs.declared.order.Order.{Order}
use Rattle.mill_laws.specs.PlanLaws.{EachFits}

-- prices at a path: one for each order that it has not placed, and they are valid
pub record AreValidAt (mill : Mill) (charge : ℕ → ℕ) (ranked : List Order) (path : List ℕ)
    (prices : List ℤ) : Type 0 where
  pub one_each : length path + length prices ≡ length ranked
  pub are_valid : valid mill charge (later_orders ranked path) prices ≡ true

-- Weak duality: 60 times the loss of each legal plan under a path is at least what valid prices are
-- worth there.
abbrev pub WeakDuality : Type 0
WeakDuality =
    (mill : Mill) (charge : ℕ → ℕ) (ranked : List Order) (path plan : List ℕ)
    (prices : List ℤ) → charge 0 ≡ 0 → AreValidAt mill charge ranked path prices →
    IsLegalPlan mill ranked plan → lies_under path plan ≡ true →
    worth mill charge ranked path prices ≤ℤ pos (60 * loss charge plan ranked)

-- At a path of the tree, the prices that a sweep gives from valid ones are valid,
abbrev pub SweptPricesAreValid : Type 0
SweptPricesAreValid =
    (mill : Mill) (charge : ℕ → ℕ) (ranked : List Order) (path : List ℕ) (prices : List ℤ) →
    in_tree mill ranked path ≡ true → AreValidAt mill charge ranked path prices →
    AreValidAt mill charge ranked path (swept mill charge ranked path prices)

-- and, where each order fits a slab alone, worth no less.
abbrev pub SweptPricesAreWorthNoLess : Type 0
SweptPricesAreWorthNoLess =
    (mill : Mill) (charge : ℕ → ℕ) (ranked : List Order) (path : List ℕ) (prices : List ℤ) →
    in_tree mill ranked path ≡ true → EachFits mill ranked →
    AreValidAt mill charge ranked path prices →
    worth mill charge ranked path prices
    ≤ℤ worth mill charge ranked path (swept mill charge ranked path prices)

-- no load is charged more than a slab may be
abbrev pub IsCharge : (ℕ → ℕ) → Type 0
IsCharge charge = (load : ℕ) → charge load ≤ MAX_CHARGE

-- At a path of the tree, where each order fits a slab alone, a sweep of prices within the limits of
-- a price gives such prices,
abbrev pub SweptPricesStayWithin : Type 0
SweptPricesStayWithin =
    (mill : Mill) (charge : ℕ → ℕ) (ranked : List Order) (path : List ℕ) (prices : List ℤ) →
    IsCharge charge → in_tree mill ranked path ≡ true → EachFits mill ranked →
    AreValidAt mill charge ranked path prices → All IsPrice prices →
    All IsPrice (swept mill charge ranked path prices)

-- and the ascent gives such prices.
abbrev pub AscentPricesStayWithin : Type 0
AscentPricesStayWithin =
    (mill : Mill) (charge : ℕ → ℕ) (ranked : List Order) (path : List ℕ) →
    IsCharge charge → in_tree mill ranked path ≡ true → EachFits mill ranked →
    All IsPrice (ascent_prices mill charge ranked path)

-- At a path of the tree, the ascent's prices are valid,
abbrev pub AscentPricesAreValid : Type 0
AscentPricesAreValid =
    (mill : Mill) (charge : ℕ → ℕ) (ranked : List Order) (path : List ℕ) →
    in_tree mill ranked path ≡ true →
    AreValidAt mill charge ranked path (ascent_prices mill charge ranked path)

-- and the ascent's worth is what they are worth.
abbrev pub AscentWorthIsTheirs : Type 0
AscentWorthIsTheirs =
    (mill : Mill) (charge : ℕ → ℕ) (ranked : List Order) (path : List ℕ) →
    in_tree mill ranked path ≡ true →
    ascent_worth mill charge ranked path
    ≡ worth mill charge ranked path (ascent_prices mill charge ranked path)
