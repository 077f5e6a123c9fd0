-- What is said of the bytes of a source or a sink, where it tells them.
use Rattle.std.specs.Prelude.{◌≡◌, ◌<◌, ◌≤◌, ◌++◌, ℕ, List, length, take, Option, Some, None, ⊤}
use Rattle.std.specs.Prelude.{Result, Ok, MatchResult}
use Rattle.std.specs.Io.KnownBytes.{Appends, Consumes}

-- a front of the piece was appended
abbrev pub AppendsFront : Option (List ℕ) → Option (List ℕ) → List ℕ → Type 0
AppendsFront old new piece =
    (front : List ℕ) × (rest : List ℕ) × (piece ≡ front ++ rest) × Appends old new front

-- the same bytes were appended to the one and to the other
abbrev pub AppendsToBoth :
    Option (List ℕ) → Option (List ℕ) → Option (List ℕ) → Option (List ℕ) → Type 0
AppendsToBoth old new other_old other_new =
    (bytes : List ℕ) × Appends old new bytes × Appends other_old other_new bytes

-- just so many bytes were lost, from the front
abbrev pub Loses : ℕ → Option (List ℕ) → Option (List ℕ) → Type 0
Loses count old new = (given : List ℕ) × Consumes old new given × (length given ≡ count)

-- at most so many bytes were lost, from the front
abbrev pub LosesAtMost : ℕ → Option (List ℕ) → Option (List ℕ) → Type 0
LosesAtMost limit old new = (given : List ℕ) × Consumes old new given × (length given ≤ limit)

-- there are more bytes than so many
abbrev pub HasMoreThan : ℕ → Option (List ℕ) → Type 0
HasMoreThan limit None = ⊤
HasMoreThan limit (Some bytes) = limit < length bytes

-- a read gave the bytes at the front of the buffer, and none where it failed
abbrev pub Gives : {E : Type 0} → List ℕ → List ℕ → Result ℕ E → List ℕ → Type 0
Gives old new result buf =
    MatchResult result (λ count. new ≡ old ++ take count buf) (λ _. new ≡ old)

-- what was lost, from the front, is what was given
abbrev pub GivesLost : Option (List ℕ) → Option (List ℕ) → List ℕ → List ℕ → Type 0
GivesLost old new given_old given_new =
    (bytes : List ℕ) × Consumes old new bytes × (given_new ≡ given_old ++ bytes)

-- a read found the end: it gave nothing, and the buffer has room
abbrev pub FindsEnd : {E : Type 0} → Result ℕ E → List ℕ → Type 0
FindsEnd result buf = (result ≡ Ok 0) × (0 < length buf)

-- just so many bytes were given
abbrev pub GivesCount : ℕ → List ℕ → List ℕ → Type 0
GivesCount count old new = (bytes : List ℕ) × (new ≡ old ++ bytes) × (length bytes ≡ count)

-- at most so many bytes were given
abbrev pub GivesAtMost : ℕ → List ℕ → List ℕ → Type 0
GivesAtMost limit old new = (bytes : List ℕ) × (new ≡ old ++ bytes) × (length bytes ≤ limit)
