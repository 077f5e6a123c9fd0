-- The text of a log, version 1, as lines.
use Rattle.std.specs.Prelude.{ℕ, ◌≡◌, ◌≤◌, true, List, [], ◌∷◌, ◌++◌, map, length, None, codes}
use Rattle.std.specs.List.{list_all}
use Rattle.std.specs.Fmt.{decimal}
use Rattle.line_text.specs.Lines.{text_of, is_end, first_filled}
use Rattle.line_text.specs.Words.{line_of}
use Rattle.line_text.specs.Numbers.{ordinals, signed_numbers}
use Rattle.mill_model.specs.Log.{recorded}
use Rattle.mill_model.specs.declared.closing.Entry.{Entry}
use Rattle.mill_model.specs.declared.closing.Closing.{Closing}
use Rattle.mill_model.specs.declared.closing.Closing.TheVariants.{Split, Leaf, Priced, Dominated}
use Rattle.mill_model.specs.declared.limits.TheConstants.{MAX_NODES}
use Rattle.refute_log.specs.Rising.{rises}
use Rattle.refute_log.specs.Fits.{fits}
use Rattle.refute_log.specs.Logged.{Logged}

-- the letter of how a path is closed
abbrev pub letter_of : Closing → List ℕ
letter_of Split = codes "S"
letter_of Leaf = codes "L"
letter_of (Priced prices) = codes "P"
letter_of (Dominated other) = codes "D"

-- the words behind the path: the prices, or the path that is named
abbrev pub closing_words : Closing → List (List ℕ)
closing_words Split = []
closing_words Leaf = []
closing_words (Priced prices) = signed_numbers prices
closing_words (Dominated other) = ordinals other

-- the words of a record: its letter, the length of its path, the path with its groups counted from
-- 1, and what closes it
abbrev pub record_words : Entry → List (List ℕ)
record_words entry =
    letter_of entry.closing ∷ decimal (length entry.path)
    ∷ (ordinals entry.path ++ closing_words entry.closing)

abbrev pub record_line : Entry → List ℕ
record_line entry = line_of (record_words entry)

-- the first line: the version, and the number of records
abbrev pub first_words : ℕ → List (List ℕ)
first_words count = codes "log" ∷ codes "1" ∷ decimal count ∷ []

abbrev pub first_line : ℕ → List ℕ
first_line count = line_of (first_words count)

-- the lines of a log's text before `end`, where its first line states a number of records
abbrev pub log_lines : ℕ → List Entry → List (List ℕ)
log_lines stated entries = first_line stated ∷ map record_line entries

-- what is printed of a log
abbrev pub log_text : Logged → List ℕ
log_text log = text_of (log_lines (length log.entries) log.entries ++ codes "end" ∷ [])

-- some lines begin as a log's text does: with a first line, and with the lines of records that fit
-- and rise
pub record BeginsLog (orders stated : ℕ) (entries : List Entry) (lines rest : List (List ℕ))
    : Type 0 where
  pub text : lines ≡ log_lines stated entries ++ rest
  pub few : stated ≤ MAX_NODES
  pub fit : list_all (fits orders) entries ≡ true
  pub rise : rises (recorded entries) ≡ true

-- some lines are the text of a log: its first line, its records and `end`, with nothing but white
-- space behind it
pub record IsLogText (log : Logged) (lines : List (List ℕ)) : Type 0 where
  pub end_line : List ℕ
  pub after : List (List ℕ)
  pub begins : BeginsLog log.orders (length log.entries) log.entries lines (end_line ∷ after)
  pub ended : is_end end_line ≡ true
  pub blank : first_filled after ≡ None
