-- The words of a line: what stands between its spaces.
use Rattle.std.specs.Prelude.{ℕ, ◌≡◌, List, ◌++◌, eqb}
use Rattle.std.specs.List.{slice_split, join_with_byte}

-- the words of a line, cut at each of its spaces; a line with none is one word, which may be empty
abbrev pub line_words : List ℕ → List (List ℕ)
line_words line = slice_split (λ b. eqb b 32) line

-- the line of some words, with one space between each two
abbrev pub line_of : List (List ℕ) → List ℕ
line_of words = join_with_byte 32 words

-- some words begin with these
pub record BeginsWith (words front : List (List ℕ)) : Type 0 where
  pub more : List (List ℕ)
  pub is : words ≡ front ++ more
