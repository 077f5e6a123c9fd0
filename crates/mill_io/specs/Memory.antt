-- What sources and sinks in memory show.
use Rattle.std.specs.Prelude.{ℕ, List}

-- the bytes that were given, those to come, the most that one read gives, the numbers of the reads
-- that fail, and how many reads were made and failed
pub record Supply : Type 0 where
  pub given : List ℕ
  pub left : List ℕ
  pub piece : ℕ
  pub failing : List ℕ
  pub reads : ℕ
  pub faults : ℕ

-- the bytes that were kept, how many there is room for, the numbers of the writes that fail, and
-- how many writes were made and failed
pub record Store : Type 0 where
  pub kept : List ℕ
  pub room : ℕ
  pub failing : List ℕ
  pub writes : ℕ
  pub faults : ℕ

-- the bytes that were given, and those to come
pub record Feed : Type 0 where
  pub given : List ℕ
  pub left : List ℕ

-- the bytes that were kept, and how many writes failed
pub record Kept : Type 0 where
  pub kept : List ℕ
  pub faults : ℕ
