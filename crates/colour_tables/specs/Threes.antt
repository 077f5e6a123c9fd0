-- The three greatest of some numbers, with what stands where there are fewer, and the greatest but
-- for one or two of them.
use Rattle.std.specs.Prelude.{ℕ, List, [], ◌∷◌, ℤ, ◌≡◌, ◌≢◌, ◌≤ℤ◌, ◌<ℤ◌, Bool, true, cond, eqb}
use Rattle.std.specs.Prelude.{◌&&◌, not, ◌+◌, ◌*◌, ◌<◌, ◌≤◌, length, slice_index}
use Rattle.std.specs.Int.{int_max, int_min}
use Rattle.list_laws.specs.Sets.{holds}
use Rattle.set_minima.specs.Cells.{nothing}
use Rattle.colour_tables.specs.Entries.{entry}
use Rattle.colour_tables.specs.declared.tops.Three.{Three}

pub record IsSorted (t : Three) : Type 0 where
  pub upper : t.second ≤ℤ t.best
  pub lower : t.third ≤ℤ t.second

-- one number more
abbrev pub insert : ℤ → Three → Three
insert x t = record {
  best = int_max t.best x;
  second = int_max t.second (int_min t.best x);
  third = int_max t.third (int_min t.second (int_min t.best x));
}

-- the three greatest of the numbers of some things
abbrev pub three : (ℕ → ℤ) → List ℕ → Three
three f [] = record { best = nothing; second = nothing; third = nothing }
three f (c ∷ cs) = insert (f c) (three f cs)

-- the list without a thing, and whether each thing stands in it once
abbrev pub but : ℕ → List ℕ → List ℕ
but c [] = []
but c (d ∷ ds) = cond (eqb d c) (but c ds) (d ∷ but c ds)

abbrev pub once : List ℕ → Bool
once [] = true
once (c ∷ cs) = not (holds c cs) && once cs

-- the greatest but for one of the numbers
pub record IsButOne (x best second v : ℤ) : Type 0 where
  pub equal : x ≡ best → v ≡ second
  pub other : x ≢ best → v ≡ best

-- the greatest but for two of them
pub record IsButTwo (x y best second third v : ℤ) : Type 0 where
  pub upper : int_max x y <ℤ best → v ≡ best
  pub middle : best ≤ℤ int_max x y → int_min x y <ℤ second → v ≡ second
  pub lower : best ≤ℤ int_max x y → second ≤ℤ int_min x y → v ≡ third

-- the two greatest that are left where one of the numbers is taken out that is not above the third
-- or is one of the first two
pub record IsLeft (old best second third x y : ℤ) : Type 0 where
  pub one : old ≡ best → (x ≡ second) × (y ≡ third)
  pub two : old ≢ best → old ≡ second → (x ≡ best) × (y ≡ third)
  pub none : old ≢ best → old ≢ second → (x ≡ best) × (y ≡ second)

-- what three lists have for a load
abbrev pub column : List ℤ → List ℤ → List ℤ → ℕ → Three
column best second third l =
    record { best = entry best l; second = entry second l; third = entry third l }

-- a row of the flat list of rows of one width, and what the rows have for a load
abbrev pub row_entry : List ℤ → ℕ → ℕ → ℕ → ℤ
row_entry rows width l c = entry rows (c * width + l)

-- each of some rows lies within the flat list
abbrev pub AreWithin : ℕ → ℕ → List ℕ → Type 0
AreWithin width size present =
    (i : ℕ) → i < length present → slice_index present i * width + width ≤ size

-- the three greatest at each load but 0
abbrev pub AreTops : ℕ → List ℕ → List ℤ → List ℤ → List ℤ → List ℤ → Type 0
AreTops width present rows best second third =
    (l : ℕ) → 0 < l → l < width → column best second third l ≡ three (row_entry rows width l)
    present
