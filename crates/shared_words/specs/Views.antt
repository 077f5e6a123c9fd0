-- What holds of each view in a list, by its place, and what holds of some view.
use Rattle.std.specs.Prelude.{◌≡◌, ℕ, List}
use mathlib.Core.Option.{some}
use lib.ListN.{get_elem?}

abbrev pub EachView : {V : Type 0} → (ℕ → V → Type 0) → List V → Type 0
EachView {V} P views = (place : ℕ) (v : V) → get_elem? views place ≡ some v → P place v

abbrev pub SomeView : {V : Type 0} → (V → Type 0) → List V → Type 0
SomeView {V} P views = (place : ℕ) × (v : V) × (get_elem? views place ≡ some v) × P v
