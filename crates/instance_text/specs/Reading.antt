-- What a reader reads, against the words of its text.
use Rattle.std.specs.Prelude.{◌≡◌, ℕ, suc, ◌+◌, ◌≤◌, List, ◌∷◌, ◌++◌, length, map, drop, IsTrue}
use Rattle.std.specs.Prelude.{Err}
use Rattle.std.specs.List.{list_all}
use Rattle.mill_model.specs.declared.order.Order.{Order}
use Rattle.mill_model.specs.Instance.{IsWithin}
use Rattle.line_text.specs.Numbers.{is_digit, value}
use Rattle.instance_text.specs.declared.field.Field.{Field}
use Rattle.instance_text.specs.declared.error.InstanceError.{InstanceError}
use Rattle.instance_text.specs.declared.error.InstanceError.TheVariants.{BadByte, Short, OutOfRange}
use Rattle.instance_text.specs.declared.error.InstanceError.TheVariants.{OutOfMemory}
use Rattle.instance_text.specs.declared.reader.Reader.{Reader}
use Rattle.instance_text.specs.Words.{Word, words, words_from, end_behind}
use Rattle.instance_text.specs.Fields.{judged, AreRight}
use Rattle.instance_text.specs.Text.{numbers_of}

-- the words that are still to come
abbrev pub ahead : Reader → List Word
ahead reader = words_from reader.at (drop reader.at reader.bytes.now)

abbrev pub values : List Word → List ℕ
values words = map (λ word. value word.bytes) words

-- before the first token of a text
pub record Starts (text : List ℕ) (reader : Reader) : Type 0 where
  pub bytes_are : reader.bytes.now ≡ text
  pub at_start : reader.at ≡ 0
  pub no_tokens : reader.tokens ≡ 0

-- these fields were read, with these numbers
pub record Took (fields : List Field) (numbers : List ℕ) (old new : Reader) : Type 0 where
  pub used : List Word
  pub split : ahead old ≡ used ++ ahead new
  pub right : AreRight fields used
  pub values_are : values used ≡ numbers
  pub place : new.at ≡ end_behind old.at used
  pub tokens_are : new.tokens ≡ old.tokens + length used
  pub same : new.bytes.now ≡ old.bytes.now

-- these fields cannot be read: this is what is wrong with the first wrong word
pub record Stops (fields : List Field) (reader : Reader) (why : InstanceError) : Type 0 where
  pub front : List Word
  pub others : List Word
  pub split : ahead reader ≡ front ++ others
  pub met : List Field
  pub what : Field
  pub more : List Field
  pub announced : fields ≡ met ++ what ∷ more
  pub right : AreRight met front
  pub wrong : judged what (suc (reader.tokens + length front)) others ≡ Err why

-- the same, or memory ran out
abbrev pub Fails : List Field → Reader → InstanceError → Type 0
Fails fields reader (BadByte at) = Stops fields reader (BadByte at)
Fails fields reader (Short token) = Stops fields reader (Short token)
Fails fields reader (OutOfRange what token) = Stops fields reader (OutOfRange what token)
Fails fields reader OutOfMemory = Unit {0}

-- the text begins with words for these numbers, which are within the limits
pub record Spells (text given : List ℕ) (stated : ℕ) (orders : List Order) (end : ℕ) : Type 0 where
  pub tokens : List Word
  pub others : List Word
  pub split : words text ≡ tokens ++ others
  pub digits : IsTrue (list_all (λ word. list_all is_digit word.bytes) tokens)
  pub values_are : values tokens ≡ numbers_of given stated orders
  pub within : (p : ℕ) → 1 ≤ p → p ≤ 8 → IsWithin given stated orders p
  pub last : end ≡ end_behind 0 tokens
