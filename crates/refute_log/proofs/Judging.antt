-- What the reader knows as it goes from line to line.
use Rattle.std.proofs.Common.{ℕ, ◌+◌, ◌^◌, ◌<◌, ◌≡◌, ◌≢◌, Bool, true, false, not, List, [], ◌∷◌}
use Rattle.std.proofs.Common.{◌++◌, cond, map, length, Some, refl, ap, ◌∙◌, subst, arith}
use Rattle.std.proofs.lemmas.Bool.{both_ways, and_from}
use Rattle.std.proofs.lemmas.List.Folds.{list_all-append}
use Rattle.std.specs.List.{list_all, position_from}
use Rattle.line_text.specs.Lines.{is_blank, is_end, first_filled}
use Rattle.line_text.specs.Words.{line_words}
use Rattle.mill_model.specs.Log.{recorded}
use Rattle.mill_model.specs.declared.closing.Entry.{Entry}
use Rattle.refute_log.specs.Rising.{rises}
use Rattle.refute_log.specs.Fits.{fits}
use Rattle.refute_log.specs.Text.{record_words, record_line, log_lines, first_line, BeginsLog}
use Rattle.refute_log.specs.Judged.{LacksRecord, IsNotRising}
use Rattle.refute_log.proofs.RecordLines.{words-record, line-from_words}
use Rattle.mill_model.proofs.Records.{recorded-append}

-- the place of a line is below the number of lines
pub first_filled-below : (lines : List (List ℕ)) (place : ℕ) → first_filled lines ≡ Some place
    → place < length lines
first_filled-below lines place e = omega (arith, from 0 lines e)
  where
    from : (start : ℕ) (lines : List (List ℕ))
        → position_from (λ line. not (is_blank line)) start lines ≡ Some place
        → place < start + length lines
    from start [] e = cc
    from start (line ∷ lines) e = by_case (not (is_blank line)) e (from (start + 1) lines)
      where
        by_case : (b : Bool)
            → cond b (Some start) (position_from (λ line. not (is_blank line)) (start + 1) lines)
            ≡ Some place
            → (position_from (λ line. not (is_blank line)) (start + 1) lines ≡ Some place
            → place < start + 1 + length lines)
            → place < start + length (line ∷ lines)
        by_case true e more = let k : start ≡ place = cc in omega arith
        by_case false e more = omega (arith, more e)

lines-same : (x y : List ℕ) (xs ys : List (List ℕ)) → x ∷ xs ≡ y ∷ ys → x ≡ y
lines-same x y xs ys e = cc

module _ (orders first stated : ℕ) (entries : List Entry) (lines rest next : List (List ℕ))
    (line : List ℕ) (small : orders < 2 ^ 16) (found : ℕ) (count : found ≡ length entries)
    (begins : BeginsLog orders stated entries lines rest) (here : rest ≡ line ∷ next) where
  at_line : BeginsLog orders stated entries lines (line ∷ next)
  at_line = subst (λ us. BeginsLog orders stated entries lines us) here begins

  -- the next line is neither a record's nor `end`
  pub lacks-record : is_end line ≡ false
      → ((entry : Entry) → fits orders entry ≡ true → line_words line ≢ record_words entry)
      → LacksRecord orders first lines (first + found + 1)
  lacks-record no_end none = record {
    stated = stated;
    entries = entries;
    rest = line ∷ next;
    begins = at_line;
    no_record = λ entry fit b.
        none entry fit
        (ap line_words (lines-same line (record_line entry) next b.more b.is)
        ∙ words-record orders entry (omega arith) fit);
    no_end = λ end_line e b.
        both_ways (is_end line) no_end
        (ap is_end (lines-same line end_line next b.more b.is) ∙ e);
    place = ap (λ n. first + n + 1) count;
  }

  module _ (entry : Entry) (words : line_words line ≡ record_words entry)
      (fit : fits orders entry ≡ true) where
    is : line ≡ record_line entry
    is = line-from_words line (record_words entry) words

    path-behind : recorded (entries ++ entry ∷ []) ≡ recorded entries ++ entry.path ∷ []
    path-behind = recorded-append entries (entry ∷ [])

    -- the next line is a record's that doesn't rise
    pub falls-next : rises (recorded entries ++ entry.path ∷ []) ≡ false
        → IsNotRising orders first lines (first + found + 1)
    falls-next f = record {
      stated = stated;
      entries = entries;
      entry = entry;
      rest = next;
      begins = subst (λ l. BeginsLog orders stated entries lines (l ∷ next)) is at_line;
      fit = fit;
      falls = ap rises path-behind ∙ f;
      place = ap (λ n. first + n + 1) count;
    }

    lines-behind : map record_line entries ++ (record_line entry ∷ next)
        ≡ map record_line (entries ++ entry ∷ []) ++ next
    lines-behind = from entries
      where
        from : (es : List Entry) → map record_line es ++ (record_line entry ∷ next)
            ≡ map record_line (es ++ entry ∷ []) ++ next
        from [] = refl
        from (e ∷ es) = ap (λ ls. record_line e ∷ ls) (from es)

    -- the next line is a record's that rises
    pub begins-more : rises (recorded entries ++ entry.path ∷ []) ≡ true
        → BeginsLog orders stated (entries ++ entry ∷ []) lines next
    begins-more r = record {
      text = at_line.text ∙ ap (λ l. log_lines stated entries ++ l ∷ next) is
          ∙ ap (λ ls. first_line stated ∷ ls) lines-behind;
      few = begins.few;
      fit = list_all-append (fits orders) entries (entry ∷ [])
          ∙ and_from (list_all (fits orders) entries) (list_all (fits orders) (entry ∷ []))
          begins.fit
          (and_from (fits orders entry) true fit refl);
      rise = ap rises path-behind ∙ r;
    }
