-- What is said of a log's lines, as it is said of the lines of an answer with that log.
use Rattle.std.proofs.Common.{ℕ, ◌≡◌, ◌≤◌, inl, inr, List, ◌∷◌, [], ◌++◌, map, None, Result, Err}
use Rattle.std.proofs.Common.{refl, ap}
use Rattle.line_text.specs.Words.{BeginsWith}
use Rattle.mill_model.specs.declared.closing.Entry.{Entry}
use Rattle.mill_model.specs.declared.limits.TheConstants.{MAX_NODES}
use Rattle.refute_log.specs.Logged.{Logged}
use Rattle.refute_log.specs.Text.{record_line, first_line, BeginsLog}
use Rattle.refute_log.specs.Judged as in_log
use Rattle.refute_log.specs.declared.error.LogTextError.{LogTextError}
use Rattle.refute_log.specs.declared.error.LogTextError.TheVariants as in_log_error
use Rattle.answer_text.specs.declared.answer.Answer.TheVariants.{Optimal}
use Rattle.answer_text.specs.Line.{AreWithin}
use Rattle.answer_text.specs.Text.{lines_of}
use Rattle.answer_text.specs.Judged.{HasLog, error_in_log, IsRefused}
use Rattle.answer_text.proofs.Ending.{LacksLog}
use Rattle.answer_text.proofs.Fronts.{head_of}

-- lines begin with the first line of a log
pub record BeginsFirst (lines : List (List ℕ)) : Type 0 where
  pub stated : ℕ
  pub few : stated ≤ MAX_NODES
  pub begins : BeginsWith lines (first_line stated ∷ [])

pub first-of : (orders stated : ℕ) (entries : List Entry) (lines rest : List (List ℕ))
    → BeginsLog orders stated entries lines rest → BeginsFirst lines
first-of orders stated entries lines rest b =
    record {
      stated = stated;
      few = b.few;
      begins = record { more = map record_line entries ++ rest; is = b.text };
    }

-- an answer that a log begins is one with a log
abbrev pub has-log : (orders lost : ℕ) (slabs : List ℕ) (log : List (List ℕ))
    → AreWithin orders (lines_of (Optimal lost slabs None)) → BeginsFirst log
    → HasLog orders (head_of lost slabs ++ log)
has-log orders lost slabs log within first =
    record {
      lost = lost;
      slabs = slabs;
      within = within;
      log = log;
      parts = refl;
      stated = first.stated;
      few = first.few;
      begins = first.begins;
    }

-- where a log is refused, either no log begins and the first line is wrong, or one begins
pub data Refusal (orders first : ℕ) (lines : List (List ℕ)) (cause : LogTextError) : Type 0 where
  nowhere : LacksLog lines → cause ≡ in_log_error.BadLine first → Refusal orders first lines cause
  inside : BeginsFirst lines → Refusal orders first lines cause
  memory : cause ≡ in_log_error.OutOfMemory → Refusal orders first lines cause

pub refusal-of : (orders first : ℕ) (lines : List (List ℕ)) (cause : LogTextError)
    → in_log.Says orders first lines (Err cause) → Refusal orders first lines cause
refusal-of orders first lines (in_log_error.BadLine line) (inl x) =
    nowhere x.no_first_line (ap in_log_error.BadLine x.place)
refusal-of orders first lines (in_log_error.BadLine line) (inr (inl x)) =
    inside (first-of orders x.stated x.entries lines x.rest x.begins)
refusal-of orders first lines (in_log_error.BadLine line) (inr (inr x)) =
    inside (first-of orders x.stated x.entries lines (x.end_line ∷ x.after) x.begins)
refusal-of orders first lines (in_log_error.NotRising line) x =
    inside (first-of orders x.stated x.entries lines (record_line x.entry ∷ x.rest) x.begins)
refusal-of orders first lines (in_log_error.CountDiffers stated found) x =
    inside (first-of orders stated x.entries lines (x.end_line ∷ x.after) x.begins)
refusal-of orders first lines in_log_error.OutOfMemory x = memory refl

-- what is wrong in the log is wrong in the answer
pub refused-inside : (orders : ℕ) (lines : List (List ℕ)) (has : HasLog orders lines)
    (cause : LogTextError) → in_log.Says orders 4 has.log (Err cause)
    → IsRefused orders lines (error_in_log cause)
refused-inside orders lines has (in_log_error.BadLine line) says = inr (has, says)
refused-inside orders lines has (in_log_error.NotRising line) says = (has, says)
refused-inside orders lines has (in_log_error.CountDiffers stated found) says = (has, says)
refused-inside orders lines has in_log_error.OutOfMemory says = tt

-- the clauses of the reader of a log say this of the lines
module _ (orders first : ℕ) (lines : List (List ℕ)) (result : Result Logged LogTextError)
    (bad_line : (line : ℕ) → in_log.ComesWhere result (Err (in_log_error.BadLine line))
    (in_log.IsBadLine orders first lines line))
    (not_rising : (line : ℕ) → in_log.ComesWhere result (Err (in_log_error.NotRising line))
    (in_log.IsNotRising orders first lines line))
    (count_differs : (stated found : ℕ)
    → in_log.ComesWhere result (Err (in_log_error.CountDiffers stated found))
    (in_log.CountIsOther orders lines stated found)) where
  pub says-err : (cause : LogTextError) → result ≡ Err cause
      → in_log.Says orders first lines (Err cause)
  says-err (in_log_error.BadLine line) e = (bad_line line).only e
  says-err (in_log_error.NotRising line) e = (not_rising line).only e
  says-err (in_log_error.CountDiffers stated found) e = (count_differs stated found).only e
  says-err in_log_error.OutOfMemory e = tt
