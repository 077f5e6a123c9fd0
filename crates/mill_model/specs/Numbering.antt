-- What the private table of a plan being tidied stands for. No public clause cites it.
use Rattle.std.specs.Prelude.{ℕ, ◌≡◌, ◌<◌, List, length, cond, min, true, Option, Some, None}
use Rattle.std.specs.Prelude.{get_or}
use Rattle.list_laws.specs.Sets.{holds, different}
use Rattle.mill_model.specs.Tree.{before_first_of}

-- the number of a slab in the order of first appearance, where it appeared
abbrev pub number_in : List ℕ → ℕ → Option ℕ
number_in seen s = cond (holds s seen) (Some (different (before_first_of s seen))) None

-- A table gives each slab below its length its number, and so many appeared. The count is a u16,
-- which stops short only where each slab number that there is has appeared.
pub record IsNumbering (seen : List ℕ) (numbers : List (Option ℕ)) (next : ℕ) : Type 0 where
  pub slabs : (s : ℕ) → holds s seen ≡ true → s < 65536
  pub each : (s : ℕ) → s < length numbers → get_or numbers s None ≡ number_in seen s
  pub count : next ≡ min (different seen) 65535
