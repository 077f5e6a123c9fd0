-- The limits on the numbers of logs.
use Rattle.std.specs.Prelude.{ℕ, ◌*◌, ℤ, pos, ◌≤ℤ◌, ◌-ℤ◌}
use Rattle.mill_model.specs.declared.order.TheConstants.{MAX_ORDERS}
use Rattle.mill_model.specs.declared.prices.TheConstants.{MAX_PRICE}

-- a price, in sixtieths of a loss unit
abbrev pub IsPrice : ℤ → Type 0
IsPrice y = ((pos 0 -ℤ pos MAX_PRICE) ≤ℤ y) × (y ≤ℤ pos MAX_PRICE)

-- what a price for each order comes to at most
abbrev pub all_prices : ℕ
all_prices = MAX_ORDERS * MAX_PRICE
