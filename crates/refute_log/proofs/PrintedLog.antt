-- The text of a log by its parts, and that it is read back as the same log.
use Rattle.std.proofs.Common.{ℕ, ◌+◌, ◌^◌, ◌<◌, ◌≡◌, true, List, [], ◌∷◌, ◌++◌, map, flat_map}
use Rattle.std.proofs.Common.{length, take, get_or, codes, refl, subst, sym, ap, ◌∙◌, arith}
use Rattle.std.proofs.Common.{append_assoc}
use Rattle.std.proofs.lemmas.Bool.{and_parts, and_from}
use Rattle.std.proofs.lemmas.List.{take_more}
use Rattle.std.proofs.lemmas.List.Folds.{list_all-append}
use Rattle.std.specs.List.{list_all}
use Rattle.std.specs.Fmt.{decimal}
use Rattle.line_text.specs.Lines.{text_lines, text_of}
use Rattle.line_text.proofs.Cuts.{lacks}
use Rattle.line_text.proofs.Plain.{lines-text, text_of-append}
use Rattle.mill_model.specs.declared.closing.Entry.{Entry}
use Rattle.refute_log.specs.Fits.{fits}
use Rattle.refute_log.specs.Logged.{Logged, IsLog}
use Rattle.refute_log.specs.Text.{record_line, first_line, log_lines, log_text, IsLogText}
use Rattle.refute_log.proofs.RecordLines.{lacks-record, lacks-first_line}

-- the lines of records are put in one behind the other
text-records : (es : List Entry)
    → text_of (map record_line es) ≡ flat_map (λ e. record_line e ++ 10 ∷ []) es
text-records [] = refl
text-records (e ∷ es) =
    ap (λ rest. record_line e ++ 10 ∷ rest) (text-records es)
    ∙ sym (append_assoc (record_line e) (10 ∷ [])
    (flat_map (λ e. record_line e ++ 10 ∷ []) es))

-- a log's lines are put in as its first line and those of its records
pub log-parts : (es given : List Entry) → given ≡ es → text_of (log_lines (length es) es)
    ≡ (codes "log 1 " ++ decimal (length given))
    ++ (10 ∷ [] ++ flat_map (λ e. record_line e ++ 10 ∷ []) given)
log-parts es given same =
    rw same (ap (λ rest. (codes "log 1 " ++ decimal (length es)) ++ 10 ∷ rest) (text-records es))

-- `end` closes the text
pub log-and-end : (log : Logged) → log_text log
    ≡ text_of (log_lines (length log.entries) log.entries) ++ codes "end\n"
log-and-end log = text_of-append (log_lines (length log.entries) log.entries) (codes "end" ∷ [])

lacks-records : (n : ℕ) (es : List Entry) → n < 2 ^ 16 → list_all (fits n) es ≡ true
    → list_all (lacks 10) (map record_line es) ≡ true
lacks-records n [] small h = refl
lacks-records n (e ∷ es) small h =
    let p = and_parts (fits n e) (list_all (fits n) es) h in
    and_from (lacks 10 (record_line e)) (list_all (lacks 10) (map record_line es))
    (lacks-record n e (omega arith) p.0) (lacks-records n es small p.1)

-- the lines of a log and `end` are its text, and none has a line feed
pub log-lines : (log : Logged) → IsLog log
    → IsLogText log (log_lines (length log.entries) log.entries ++ codes "end" ∷ [])
log-lines log is = record {
  end_line = codes "end";
  after = [];
  begins = record { text = refl; few = is.few_entries; fit = is.fit; rise = is.rise };
  ended = refl;
  blank = refl;
}

pub feedless-log : (log : Logged) → IsLog log
    → list_all (lacks 10) (log_lines (length log.entries) log.entries ++ codes "end" ∷ []) ≡ true
feedless-log log is =
    list_all-append (lacks 10) (log_lines (length log.entries) log.entries) (codes "end" ∷ [])
    ∙ and_from (list_all (lacks 10) (log_lines (length log.entries) log.entries)) true
    (and_from (lacks 10 (first_line (length log.entries)))
    (list_all (lacks 10) (map record_line log.entries))
    (lacks-first_line (length log.entries) (omega (arith, is.few_entries)))
    (lacks-records log.orders log.entries is.few_orders is.fit))
    refl

-- what is printed of a log stands for that log
pub printed-log : (log : Logged) (text : List ℕ) → IsLog log → text ≡ log_text log
    → IsLogText log (text_lines text)
printed-log log text is e =
    let lines = log_lines (length log.entries) log.entries ++ codes "end" ∷ [] in
    subst (IsLogText log) (sym (ap text_lines e ∙ lines-text lines (feedless-log log is)))
    (log-lines log is)
