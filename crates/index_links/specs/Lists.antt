-- The orders of a plan, as a list for each slab.
use Rattle.std.specs.Prelude.{ℕ, suc, ◌<◌, ◌≤◌, ◌≡◌, Bool, true, false, cond, List, [], ◌∷◌, map}
use Rattle.std.specs.Prelude.{length}
use Rattle.std.specs.Prelude.{eqb, slice_index_or, slice_set, slice_get, Option, None}
use Rattle.list_laws.specs.Sets.{holds, below}
use Rattle.list_laws.specs.Without.{without}
use Rattle.mill_model.specs.declared.order.TheConstants.{MAX_ORDERS}

-- the list of a slab
abbrev pub list_at : List (List ℕ) → ℕ → List ℕ
list_at lists s = slice_index_or lists s []

-- the slab whose list an order is in: the place of the first list that has it
abbrev pub slab_in : List (List ℕ) → ℕ → ℕ
slab_in [] o = 0
slab_in (xs ∷ lists) o = cond (holds o xs) 0 (suc (slab_in lists o))

-- the plan that the lists stand for
abbrev pub plan_of : List (List ℕ) → List ℕ
plan_of lists = map (slab_in lists) (below (length lists))

-- no number stands twice
abbrev pub Apart : List ℕ → Type 0
Apart [] = Unit {0}
Apart (x ∷ xs) = (holds x xs ≡ false) × Apart xs

-- lists of the numbers below their count, each of which is in exactly one list, and there once
pub record AreSlabLists (lists : List (List ℕ)) : Type 0 where
  pub few : length lists ≤ MAX_ORDERS
  pub orders : (s o : ℕ) → s < length lists → holds o (list_at lists s) ≡ true → o < length lists
  pub one_list : (s o : ℕ) → s < length lists → o < length lists →
      holds o (list_at lists s) ≡ eqb s (slab_in lists o)
  pub once : (s : ℕ) → s < length lists → Apart (list_at lists s)

-- the places from k on at which a number of a kind stands
abbrev pub places_where : (ℕ → Bool) → ℕ → List ℕ → List ℕ
places_where kind k [] = []
places_where kind k (t ∷ plan) = cond (kind t) (k ∷ places_where kind (suc k) plan)
    (places_where kind (suc k) plan)

-- the lists of a plan, with the orders of each slab rising
abbrev pub lists_of_plan : List ℕ → List (List ℕ)
lists_of_plan plan = map (λ s. places_where (eqb s) 0 plan) (below (length plan))

-- what comes after a number in a list
abbrev pub after : ℕ → List ℕ → Option ℕ
after o [] = None
after o (x ∷ xs) = cond (eqb o x) (slice_get xs 0) (after o xs)

-- lists once an order went from its own to the front of another, or of its own
abbrev pub moved : ℕ → ℕ → List (List ℕ) → List (List ℕ)
moved o s lists = slice_set (map (without o) lists) s (o ∷ without o (list_at lists s))
