-- What is wrong with lines that are no log's text. Lines are counted from the number of the first.
use Rattle.std.specs.Prelude.{ℕ, ◌+◌, ◌≡◌, ◌≢◌, ◌≤◌, ◌⊎◌, true, false, List, [], ◌∷◌, ◌++◌, length}
use Rattle.std.specs.Prelude.{Some, None, Result, Ok, Err}
use Rattle.line_text.specs.Lines.{is_end, first_filled}
use Rattle.line_text.specs.Words.{BeginsWith}
use Rattle.mill_model.specs.Log.{recorded}
use Rattle.mill_model.specs.declared.closing.Entry.{Entry}
use Rattle.mill_model.specs.Exactly.{ComesExactly}
use Rattle.mill_model.specs.declared.limits.TheConstants.{MAX_NODES}
use Rattle.refute_log.specs.Rising.{rises}
use Rattle.refute_log.specs.Fits.{fits}
use Rattle.refute_log.specs.Logged.{Logged}
use Rattle.refute_log.specs.Text.{first_line, record_line, BeginsLog, IsLogText}
use Rattle.refute_log.specs.declared.error.LogTextError.{LogTextError}
use Rattle.refute_log.specs.declared.error.LogTextError.TheVariants.{BadLine, NotRising}
use Rattle.refute_log.specs.declared.error.LogTextError.TheVariants.{CountDiffers}
use Rattle.refute_log.specs.declared.error.LogTextError.TheVariants.{OutOfMemory}

-- no first line of a log stands first
pub record LacksFirstLine (first : ℕ) (lines : List (List ℕ)) (line : ℕ) : Type 0 where
  pub no_first_line : (stated : ℕ) → stated ≤ MAX_NODES
      → ¬ (BeginsWith lines (first_line stated ∷ []))
  pub place : line ≡ first

-- behind the first line and right records stands neither a record's line nor `end`
pub record LacksRecord (orders first : ℕ) (lines : List (List ℕ)) (line : ℕ) : Type 0 where
  pub stated : ℕ
  pub entries : List Entry
  pub rest : List (List ℕ)
  pub begins : BeginsLog orders stated entries lines rest
  pub no_record : (entry : Entry) → fits orders entry ≡ true
      → ¬ (BeginsWith rest (record_line entry ∷ []))
  pub no_end : (end_line : List ℕ) → is_end end_line ≡ true → ¬ (BeginsWith rest (end_line ∷ []))
  pub place : line ≡ first + length entries + 1

-- behind `end` a line has more than white space
pub record HasMore (orders first : ℕ) (lines : List (List ℕ)) (line : ℕ) : Type 0 where
  pub stated : ℕ
  pub entries : List Entry
  pub end_line : List ℕ
  pub after : List (List ℕ)
  pub behind : ℕ
  pub begins : BeginsLog orders stated entries lines (end_line ∷ after)
  pub ended : is_end end_line ≡ true
  pub filled : first_filled after ≡ Some behind
  pub place : line ≡ first + length entries + 2 + behind

-- the first line that is wrong is not in the grammar
abbrev pub IsBadLine : ℕ → ℕ → List (List ℕ) → ℕ → Type 0
IsBadLine orders first lines line =
    LacksFirstLine first lines line ⊎ LacksRecord orders first lines line
    ⊎ HasMore orders first lines line

-- the first line that is wrong is a record's, and its path does not come after the one before it
pub record IsNotRising (orders first : ℕ) (lines : List (List ℕ)) (line : ℕ) : Type 0 where
  pub stated : ℕ
  pub entries : List Entry
  pub entry : Entry
  pub rest : List (List ℕ)
  pub begins : BeginsLog orders stated entries lines (record_line entry ∷ rest)
  pub fit : fits orders entry ≡ true
  pub falls : rises (recorded (entries ++ entry ∷ [])) ≡ false
  pub place : line ≡ first + length entries + 1

-- each line is right, and the first states another number than there are records
pub record CountIsOther (orders : ℕ) (lines : List (List ℕ)) (stated found : ℕ) : Type 0 where
  pub entries : List Entry
  pub end_line : List ℕ
  pub after : List (List ℕ)
  pub begins : BeginsLog orders stated entries lines (end_line ∷ after)
  pub ended : is_end end_line ≡ true
  pub blank : first_filled after ≡ None
  pub count : found ≡ length entries
  pub other : stated ≢ found

-- what an answer of the reader says of the lines
abbrev pub Says : ℕ → ℕ → List (List ℕ) → Result Logged LogTextError → Type 0
Says orders first lines (Ok log) = (log.orders ≡ orders) × IsLogText log lines
Says orders first lines (Err (BadLine line)) = IsBadLine orders first lines line
Says orders first lines (Err (NotRising line)) = IsNotRising orders first lines line
Says orders first lines (Err (CountDiffers stated found)) = CountIsOther orders lines stated found
Says orders first lines (Err OutOfMemory) = Unit {0}

-- an answer comes exactly where a fact holds, but for want of memory
abbrev pub ComesWhere : Result Logged LogTextError → Result Logged LogTextError → Type 0 → Type 0
ComesWhere result answer fact = ComesExactly OutOfMemory result answer fact
