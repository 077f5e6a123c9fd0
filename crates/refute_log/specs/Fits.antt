-- The lengths and numbers that a record of a log may have, for a number of orders.
use Rattle.std.specs.Prelude.{ℕ, ◌+◌, Bool, true, ◌&&◌, List, length, eqb, leb, ltb}
use Rattle.std.specs.Prelude.{ℤ, pos, ◌-ℤ◌, int_le}
use Rattle.std.specs.List.{list_all}
use Rattle.mill_model.specs.declared.prices.TheConstants.{MAX_PRICE}
use Rattle.mill_model.specs.declared.closing.Entry.{Entry}
use Rattle.mill_model.specs.declared.closing.Closing.{Closing}
use Rattle.mill_model.specs.declared.closing.Closing.TheVariants.{Split, Leaf, Priced, Dominated}

-- whether a list may be a path: not longer than the orders, with numbers below their count
abbrev pub path_fits : ℕ → List ℕ → Bool
path_fits n path = leb (length path) n && list_all (λ g. ltb g n) path

-- whether a number may be a price
abbrev pub price_fits : ℤ → Bool
price_fits y = int_le (pos 0 -ℤ pos MAX_PRICE) y && int_le y (pos MAX_PRICE)

-- whether a path of this length may be closed so: by a price for each further order, or by another
-- path of the same length
abbrev pub closing_fits : ℕ → ℕ → Closing → Bool
closing_fits n depth Split = true
closing_fits n depth Leaf = true
closing_fits n depth (Priced prices) = eqb (depth + length prices) n && list_all price_fits prices
closing_fits n depth (Dominated other) = path_fits n other && eqb (length other) depth

abbrev pub fits : ℕ → Entry → Bool
fits n entry = path_fits n entry.path && closing_fits n (length entry.path) entry.closing
