-- Sets of some orders by load and colours, and the best prices of such sets. A set is a list of
-- marks, and its orders are named by their places.
use Rattle.std.specs.Prelude.{ℕ, ◌<◌, ◌≤◌, ◌≡◌, ◌++◌, Bool, true, false, List, length, map, ℤ, ◌+ℤ◌}
use Rattle.std.specs.Prelude.{◌≤ℤ◌, Option, Some, None, slice_index_or, eqb}
use Rattle.std.specs.Int.{int_max}
use Rattle.list_laws.specs.Sets.{chosen, int_sum, different}
use Rattle.mill_model.specs.Slab.{load}
use Rattle.mill_model.specs.Bounds.{in_set}
use Rattle.mill_model.specs.declared.order.Order.{Order}

abbrev pub nobody : Order
nobody = record { weight = 0; colour = 0 }

-- the colour of the order at a place
abbrev pub colour_at : List Order → ℕ → ℕ
colour_at rest i = (slice_index_or rest i nobody).colour

-- the colours of a set
abbrev pub colours_in : List Bool → List Order → List ℕ
colours_in marks rest = map (λ order. order.colour) (chosen marks rest)

-- a set of one load, of allowed places alone, and with at most k colours together with some own
-- ones
pub record Packs (allowed : ℕ → Bool) (own : List ℕ) (k : ℕ) (rest : List Order) (l : ℕ)
    (marks : List Bool) : Type 0 where
  pub long : length marks ≡ length rest
  pub weighs : load (chosen marks rest) ≡ l
  pub fine : (i : ℕ) → in_set i marks ≡ true → allowed i ≡ true
  pub few : different (own ++ colours_in marks rest) ≤ k

-- the greatest value of a kind of sets, if there are any
pub record IsTop (P : List Bool → Type 0) (value : List Bool → ℤ) (best : Option ℤ) : Type 0 where
  pub none : best ≡ None → (marks : List Bool) → P marks → ⊥
  pub some : (v : ℤ) → best ≡ Some v → (marks : List Bool) × P marks × (v ≡ value marks)
  pub most : (v : ℤ) → best ≡ Some v → (marks : List Bool) → P marks → value marks ≤ℤ v

-- the best prices of the sets of a load
abbrev pub IsBest : (ℕ → Bool) → List ℕ → ℕ → List Order → List ℤ → ℕ → Option ℤ → Type 0
IsBest allowed own k rest prices l best =
    IsTop (Packs allowed own k rest l) (λ marks. int_sum (chosen marks prices)) best

-- the same for each load below a width
abbrev pub IsTable : (ℕ → Bool) → List ℕ → ℕ → List Order → List ℤ → ℕ → (ℕ → Option ℤ) → Type 0
IsTable allowed own k rest prices width best =
    (l : ℕ) → l < width → IsBest allowed own k rest prices l (best l)

-- the better of two
abbrev pub better : Option ℤ → Option ℤ → Option ℤ
better None b = b
better (Some x) None = Some x
better (Some x) (Some y) = Some (int_max x y)

-- what is there, with one price more
abbrev pub with_price : ℤ → Option ℤ → Option ℤ
with_price y None = None
with_price y (Some x) = Some (x +ℤ y)

-- places are allowed that were before, and place j
pub record IsNext (before after : ℕ → Bool) (j : ℕ) : Type 0 where
  pub new : before j ≡ false
  pub now : after j ≡ true
  pub kept : (i : ℕ) → before i ≡ true → after i ≡ true
  pub only : (i : ℕ) → after i ≡ true → eqb i j ≡ false → before i ≡ true

-- places are allowed that were before, of which none had a colour, and others of that colour
pub record IsNextColour (rest : List Order) (before after : ℕ → Bool) (colour : ℕ) : Type 0 where
  pub new : (i : ℕ) → i < length rest → before i ≡ true → eqb (colour_at rest i) colour ≡ false
  pub kept : (i : ℕ) → i < length rest → before i ≡ true → after i ≡ true
  pub only :
      (i : ℕ) → i < length rest → after i ≡ true → eqb (colour_at rest i) colour ≡ false →
      before i ≡ true
