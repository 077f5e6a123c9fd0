-- What a call may answer where memory can run out.
use Rattle.std.specs.Prelude.{◌≡◌, ℕ, List, Result, Ok, Err}
use Rattle.instance_text.specs.declared.error.InstanceError.{InstanceError}
use Rattle.instance_text.specs.declared.error.InstanceError.TheVariants.{BadByte, Short, OutOfRange}
use Rattle.instance_text.specs.declared.error.InstanceError.TheVariants.{OutOfMemory}
use Rattle.instance_text.specs.Text.{IsRefused}

-- the error has its cause: the text is refused for it, or memory ran out
abbrev pub HasCause : List ℕ → InstanceError → Type 0
HasCause text (BadByte at) = IsRefused text (BadByte at)
HasCause text (Short token) = IsRefused text (Short token)
HasCause text (OutOfRange what token) = IsRefused text (OutOfRange what token)
HasCause text OutOfMemory = Unit {0}

-- the error is that of an expected answer, or memory ran out
abbrev pub IsErrorOf : {X : Type 0} → Result X InstanceError → InstanceError → Type 0
IsErrorOf expected (BadByte at) = expected ≡ Err (BadByte at)
IsErrorOf expected (Short token) = expected ≡ Err (Short token)
IsErrorOf expected (OutOfRange what token) = expected ≡ Err (OutOfRange what token)
IsErrorOf expected OutOfMemory = Unit {0}

-- the answer is the expected one, unless memory ran out
abbrev pub Answers : {X : Type 0} → Result X InstanceError → Result X InstanceError → Type 0
Answers (Ok x) expected = expected ≡ Ok x
Answers (Err why) expected = IsErrorOf expected why
