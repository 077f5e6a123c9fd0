-- The words of a text with their places.
use Rattle.std.specs.Prelude.{◌≡◌, ℕ, suc, ◌+◌, ◌≤◌, ◌<◌, Bool, true, false, cond, IsTrue, List, []}
use Rattle.std.specs.Prelude.{◌∷◌, length, drop, get_or, All}
use Rattle.line_text.specs.Lines.{is_white}

-- a word: the place of its first byte, counted from 0, and its bytes
pub record Word : Type 0 where
  pub at : ℕ
  pub bytes : List ℕ

abbrev pub word : ℕ → List ℕ → Word
word at bytes = record { at = at; bytes = bytes }

-- no word goes on into this text
abbrev pub is_cut : List ℕ → Bool
is_cut [] = true
is_cut (byte ∷ text) = is_white byte

-- words with one more byte before them: it is a word of its own, or the first one begins with it
abbrev pub with_byte : ℕ → ℕ → Bool → List Word → List Word
with_byte at byte cut [] = word at (byte ∷ []) ∷ []
with_byte at byte cut (w ∷ ws) =
    cond cut (word at (byte ∷ []) ∷ w ∷ ws) (word at (byte ∷ w.bytes) ∷ ws)

-- the words of a text that begins at a place: its longest runs of bytes that aren't white space
abbrev pub words_from : ℕ → List ℕ → List Word
words_from at [] = []
words_from at (byte ∷ text) =
    cond (is_white byte) (words_from (suc at) text)
    (with_byte at byte (is_cut text) (words_from (suc at) text))

abbrev pub words : List ℕ → List Word
words text = words_from 0 text

-- the place behind the last of some words, or this place where there is none
abbrev pub end_behind : ℕ → List Word → ℕ
end_behind at [] = at
end_behind at (w ∷ ws) = end_behind (w.at + length w.bytes) ws

-- only white space stands from a place on
abbrev pub IsBlankFrom : List ℕ → ℕ → Type 0
IsBlankFrom text from = All (λ byte. IsTrue (is_white byte)) (drop from text)

-- the first byte from a place on that isn't white space stands here
pub record IsFirstNotBlank (text : List ℕ) (from at : ℕ) : Type 0 where
  pub later : from ≤ at
  pub within : at < length text
  pub blank : (k : ℕ) → from ≤ k → k < at → is_white (get_or text k 0) ≡ true
  pub solid : is_white (get_or text at 0) ≡ false
