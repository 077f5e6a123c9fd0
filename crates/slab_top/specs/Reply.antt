-- The shape of each command's contract.
use Rattle.std.specs.Prelude.{◌≡◌, ◌⊎◌, Result, Ok, Err}
use Rattle.reply_text.specs.declared.refusal.Refusal.{Refusal}
use Rattle.reply_text.specs.declared.outcome.Outcome.{Outcome}
use Rattle.reply_text.specs.declared.outcome.Outcome.TheVariants.{Refused}
use Rattle.reply_text.specs.declared.stop.Stop.{Stop}
use Rattle.reply_text.specs.declared.stop.Stop.TheVariants as stop
use Rattle.slab_top.specs.Stage.{Stage}

-- what is said is of one kind, and it is so
abbrev pub Tells : {S : Type 0} → (S → Outcome) → (S → Type 0) → Outcome → Type 0
Tells {S} tell Is outcome = (said : S) × (outcome ≡ tell said) × Is said

-- The outcome is a refusal of the input, or what is said of the value that is read.
abbrev pub Replies : {A : Type 0} → Stage A → (A → Outcome → Type 0) → Outcome → Type 0
Replies {A} stage Says outcome =
    ((why : Refusal) × (outcome ≡ Refused why) × stage.Refuses why)
    ⊎ ((read : A) × stage.Reads read × Says read outcome)

-- What a call gives: such an outcome. Want of memory says nothing of the input.
abbrev pub IsReply : (Outcome → Type 0) → Result Outcome Stop → Type 0
IsReply Is (Ok outcome) = Is outcome
IsReply Is (Err (stop.Refused why)) = Is (Refused why)
IsReply Is (Err stop.OutOfMemory) = Unit {0}

-- what the call of a stage gives, where its value stands for what the stage reads
abbrev pub IsReadingOf : {A B : Type 0} → (B → A) → Stage A → Result B Stop → Type 0
IsReadingOf read stage (Ok value) = stage.Reads (read value)
IsReadingOf read stage (Err (stop.Refused why)) = stage.Refuses why
IsReadingOf read stage (Err stop.OutOfMemory) = Unit {0}

-- and where it is what the stage reads
abbrev pub IsReading : {A : Type 0} → Stage A → Result A Stop → Type 0
IsReading stage = IsReadingOf (λ value. value) stage
