-- Sets of orders of one colour, of some colours, and which orders a run of items lets in.
use Rattle.std.specs.Prelude.{ℕ, ◌<◌, ◌≡◌, Bool, true, false, not, ◌&&◌, eqb, List, length}
use Rattle.std.specs.Prelude.{◌⊎◌, Option, Some, None}
use Rattle.list_laws.specs.Sets.{holds}
use Rattle.mill_model.specs.declared.order.Order.{Order}
use Rattle.set_minima.specs.Packs.{colour_at}

-- every place but the one to skip, if there is one
abbrev pub but_for : Option ℕ → ℕ → Bool
but_for None i = true
but_for (Some j) i = not (eqb i j)

-- the orders of a colour, of some colours, and of a colour but for one order
abbrev pub of_colour : List Order → ℕ → ℕ → Bool
of_colour rest c i = eqb (colour_at rest i) c

abbrev pub of_colours : List Order → List ℕ → ℕ → Bool
of_colours rest cs i = holds (colour_at rest i) cs

abbrev pub but_order : List Order → ℕ → ℕ → ℕ → Bool
but_order rest c j i = eqb (colour_at rest i) c && not (eqb i j)

-- the same, but for one order at most
abbrev pub of_colour_but : List Order → ℕ → Option ℕ → ℕ → Bool
of_colour_but rest c skip i = eqb (colour_at rest i) c && but_for skip i

-- orders of one colour are allowed, and others that do not have it
pub record IsUnion (rest : List Order) (before own after : ℕ → Bool) (c : ℕ) : Type 0 where
  pub new : (i : ℕ) → i < length rest → before i ≡ true → eqb (colour_at rest i) c ≡ false
  pub one : (i : ℕ) → i < length rest → own i ≡ true → eqb (colour_at rest i) c ≡ true
  pub kept : (i : ℕ) → i < length rest → before i ≡ true → after i ≡ true
  pub more : (i : ℕ) → i < length rest → own i ≡ true → after i ≡ true
  pub only :
      (i : ℕ) → i < length rest → after i ≡ true → (before i ≡ true) ⊎ (own i ≡ true)
