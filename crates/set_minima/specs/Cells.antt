-- The numbers of a table: the best prices of sets by load. A very low number stands where there is
-- no set.
use Rattle.std.specs.Prelude.{ℕ, ◌+◌, ◌*◌, ◌<◌, ◌⊎◌, Bool, cond, List, [], ℤ, pos, neg_ℤ, ◌-ℤ◌}
use Rattle.std.specs.Prelude.{◌+ℤ◌, ◌≤ℤ◌, int_lt, Option, Some, None, slice_index_or}
use Rattle.mill_model.specs.declared.order.Order.{Order}
use Rattle.mill_model.specs.declared.prices.TheConstants.{MAX_PRICE}
use Rattle.set_minima.specs.Packs.{IsTable}

-- - 2 ^ 62, and half of it: from there on a number stands for a set
abbrev pub nothing : ℤ
nothing = neg_ℤ (pos 4611686018427387904)

abbrev pub found : ℤ → Option ℤ
found x = cond (int_lt x (neg_ℤ (pos 2305843009213693952))) None (Some x)

-- what a table has for a load
abbrev pub cell : List ℤ → ℕ → Option ℤ
cell table l = found (slice_index_or table l (pos 0))

-- a number lies within n of zero or of the very low number
abbrev pub IsNear : ℕ → ℤ → Type 0
IsNear n x =
    ((neg_ℤ (pos n) ≤ℤ x) × (x ≤ℤ pos n)) ⊎ (((nothing -ℤ pos n) ≤ℤ x) × (x ≤ℤ (nothing +ℤ pos n)))

abbrev pub AreNear : ℕ → List ℤ → Type 0
AreNear n table = (l : ℕ) → IsNear n (slice_index_or table l (pos 0))

-- the same for the numbers before a place
abbrev pub AreNearTo : ℕ → ℕ → List ℤ → Type 0
AreNearTo n stop table = (l : ℕ) → l < stop → IsNear n (slice_index_or table l (pos 0))

-- a number lies between - n and n
abbrev pub IsSmall : ℕ → ℤ → Type 0
IsSmall n x = (neg_ℤ (pos n) ≤ℤ x) × (x ≤ℤ pos n)

-- a least slack lies within it: 60 charges and the prices of all orders come to less
abbrev pub slack_limit : ℕ
slack_limit = 30000000000000

abbrev pub ArePrices : List ℤ → Type 0
ArePrices prices = (i : ℕ) → IsSmall MAX_PRICE (slice_index_or prices i (pos 0))

-- layers of one width one after another: layer t has the sets of at most t colours
abbrev pub AreLayers : (ℕ → Bool) → List Order → List ℤ → ℕ → ℕ → List ℤ → Type 0
AreLayers allowed rest prices layers width tables =
    (t : ℕ) → t < layers →
    IsTable allowed [] t rest prices width (λ l. cell tables (t * width + l))
