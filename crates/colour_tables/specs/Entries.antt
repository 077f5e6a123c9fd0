-- The numbers of a list by place; past its end stands 0.
use Rattle.std.specs.Prelude.{ℕ, ◌+◌, List, ℤ, pos, slice_index_or}
use Rattle.mill_model.specs.Limits.{all_prices}
use Rattle.set_minima.specs.Cells.{IsSmall}
use Rattle.mill_model.specs.declared.prices.TheConstants.{MAX_PRICE}

abbrev pub entry : List ℤ → ℕ → ℤ
entry table l = slice_index_or table l (pos 0)

-- each is as small as a price
abbrev pub AreSmallAll : List ℤ → Type 0
AreSmallAll xs = (l : ℕ) → IsSmall MAX_PRICE (entry xs l)

-- what the numbers of a row come to at most, above 0 or below: all prices, and one that is new; and
-- those of a table in which the orders of a further colour are let in
abbrev pub row_limit : ℕ
row_limit = all_prices + MAX_PRICE

abbrev pub table_limit : ℕ
table_limit = row_limit + all_prices
