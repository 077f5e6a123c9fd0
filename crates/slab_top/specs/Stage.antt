-- Stages of a command: each reads a value from an input, or refuses the input.
use Rattle.std.specs.Prelude.{◌≡◌, ◌⊎◌}
use Rattle.reply_text.specs.declared.refusal.Refusal.{Refusal}

-- what a stage reads, and for what it refuses
pub record Stage (A : Type 0) : Type 1 where
  pub Reads : A → Type 0
  pub Refuses : Refusal → Type 0

-- one stage after the other: the second goes by what the first reads
abbrev pub and_then : {A B : Type 0} → Stage A → (A → Stage B) → Stage B
and_then {A} first next = record {
  Reads = λ value. (read : A) × first.Reads read × (next read).Reads value;
  Refuses = λ why. first.Refuses why ⊎ ((read : A) × first.Reads read × (next read).Refuses why);
}

-- what a stage reads is one thing, what it refuses for is one, and it never does both
pub record IsDecided {A : Type 0} (stage : Stage A) : Type 0 where
  pub one : (a b : A) → stage.Reads a → stage.Reads b → a ≡ b
  pub why : (r s : Refusal) → stage.Refuses r → stage.Refuses s → r ≡ s
  pub apart : (a : A) (r : Refusal) → stage.Reads a → stage.Refuses r → ⊥
