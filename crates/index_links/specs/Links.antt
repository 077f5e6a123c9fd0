-- Chains of numbers, linked both ways, which stand for lists. No public clause cites this file.
use Rattle.std.specs.Prelude.{ℕ, zero, suc, ◌<◌, ◌≤◌, ◌≡◌, Bool, true, false, List, [], ◌∷◌, map}
use Rattle.std.specs.Prelude.{length, eqb, slice_index_or, slice_set, Option, Some, None, All}
use Rattle.list_laws.specs.Sets.{holds}
use Rattle.mill_model.specs.declared.order.TheConstants.{MAX_ORDERS}
use Rattle.index_links.specs.Lists.{list_at, Apart}

-- what a table has for a number
abbrev pub look : List (Option ℕ) → ℕ → Option ℕ
look table i = slice_index_or table i None

abbrev pub is_none : Option ℕ → Bool
is_none None = true
is_none (Some x) = false

-- whether it is this number
abbrev pub is_some : Option ℕ → ℕ → Bool
is_some None z = false
is_some (Some x) z = eqb z x

-- a table with another entry for a number, if there is one
abbrev pub set_at : Option ℕ → Option ℕ → List (Option ℕ) → List (Option ℕ)
set_at None value table = table
set_at (Some i) value table = slice_set table i value

-- the numbers of a list, linked both ways, from its first and what stands before it
abbrev pub Chain : List (Option ℕ) → List (Option ℕ) → Option ℕ → Option ℕ → List ℕ → Type 0
Chain nexts previous before at [] = at ≡ None
Chain nexts previous before at (x ∷ xs) =
    (at ≡ Some x) × (look previous x ≡ before) × Chain nexts previous (Some x) (look nexts x) xs

-- the last number of a list, or what stands before it
abbrev pub last_or : Option ℕ → List ℕ → Option ℕ
last_or before [] = before
last_or before (x ∷ xs) = last_or (Some x) xs

-- the list that a chain of at most so many numbers makes
abbrev pub walk : List (Option ℕ) → Option ℕ → ℕ → List ℕ
walk nexts None n = []
walk nexts (Some x) zero = []
walk nexts (Some x) (suc n) = x ∷ walk nexts (look nexts x) n

-- the lists that chains make
abbrev pub lists_of : List (Option ℕ) → List (Option ℕ) → List (List ℕ)
lists_of firsts nexts = map (λ first. walk nexts first (length nexts)) firsts

-- each slab's first order and each order's neighbours and slab make these lists
pub record IsLinked (firsts nexts previous : List (Option ℕ)) (slabs : List ℕ)
    (lists : List (List ℕ)) : Type 0 where
  pub few : length nexts ≤ MAX_ORDERS
  pub firsts_count : length firsts ≡ length nexts
  pub previous_count : length previous ≡ length nexts
  pub slabs_count : length slabs ≡ length nexts
  pub lists_count : length lists ≡ length nexts
  pub slabs_below : All (λ s. s < length nexts) slabs
  pub chained : (s : ℕ) → s < length nexts →
      Chain nexts previous None (look firsts s) (list_at lists s)
  pub apart : (s : ℕ) → s < length nexts → Apart (list_at lists s)
  pub orders : (s o : ℕ) → s < length nexts → holds o (list_at lists s) ≡ true → o < length nexts
  pub slab_is : (s o : ℕ) → s < length nexts → o < length nexts →
      holds o (list_at lists s) ≡ eqb s (slice_index_or slabs o 0)
