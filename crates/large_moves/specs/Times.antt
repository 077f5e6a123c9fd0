-- The tries that are left, and the pairs of slabs that need none: their row was found closed, and
-- neither slab was changed since. A time is told by the tries that were left then, so the later of
-- two has the fewer.
use Rattle.std.specs.Prelude.{ℕ, ◌≤◌, ◌≡◌, ◌≢◌, Bool, true, false, ◌&&◌, List, length, leb}
use Rattle.std.specs.Prelude.{slice_index_or, Option, Some, None}

-- the row of a slab is its pairs with itself and with the slabs behind it
pub record Times : Type 0 where
  pub left : ℕ
  -- by slab: when it was changed last
  pub changed : List ℕ
  -- by slab: when all pairs of its row were closed, if that was found
  pub closed : List (Option ℕ)

-- when the row of a slab was found closed, and when a slab was changed
abbrev pub closed_at : Times → ℕ → Option ℕ
closed_at times a = slice_index_or times.closed a None

abbrev pub changed_at : Times → ℕ → ℕ
changed_at times s = slice_index_or times.changed s 0

-- both are told of each slab, and no row was closed later than now
pub record AreTimes (times : Times) : Type 0 where
  pub count : length times.closed ≡ length times.changed
  pub past : (a time : ℕ) → closed_at times a ≡ Some time → times.left ≤ time

-- whether a row was closed once a change was over
abbrev pub is_since : Option ℕ → ℕ → Bool
is_since None change = false
is_since (Some time) change = leb time change

-- whether the pair (a, b) needs no try
abbrev pub needs_none : Times → ℕ → ℕ → Bool
needs_none times a b =
    is_since (closed_at times a) (changed_at times a)
    && is_since (closed_at times a) (changed_at times b)

-- the pair (x, y) needed no try, and has none of two slabs
pub record IsElsewhere (times : Times) (a c x y : ℕ) : Type 0 where
  pub needs : needs_none times x y ≡ true
  pub first : (x ≢ a) × (x ≢ c)
  pub second : (y ≢ a) × (y ≢ c)
