-- What is printed of an answer, and that it is read back.
use Rattle.std.proofs.Common.{ℕ, ◌^◌, ◌<◌, ◌≤◌, ◌≡◌, true, List, [], ◌∷◌, ◌++◌, map, flat_map}
use Rattle.std.proofs.Common.{Option, Some, None, IfSome, codes, refl, subst, sym, ap, ◌∙◌, arith}
use Rattle.std.proofs.Common.{append_assoc, Result, Ok, Err, OnOk, ◌+◌}
use Rattle.std.proofs.lemmas.Bool.{and_parts, and_from}
use Rattle.std.proofs.lemmas.List.Folds.{list_all-append}
use Rattle.std.specs.List.{list_all}
use Rattle.std.specs.Fmt.{decimal}
use Rattle.line_text.specs.Lines.{text_lines, text_of}
use Rattle.line_text.specs.Numbers.{ordinal, ordinals}
use Rattle.line_text.proofs.Cuts.{lacks}
use Rattle.line_text.proofs.Plain.{line-cons, lines-text, text_of-append}
use Rattle.mill_model.specs.declared.order.TheConstants.{MAX_ORDERS}
use Rattle.refute_log.specs.Logged.{Logged, IsLog}
use Rattle.refute_log.proofs.RecordLines.{spaced-path}
use Rattle.refute_log.proofs.PrintedLog.{log-lines, feedless-log}
use Rattle.answer_text.specs.declared.answer.Answer.{Answer}
use Rattle.answer_text.specs.declared.answer.Answer.TheVariants.{Optimal, Feasible, Infeasible}
use Rattle.answer_text.specs.Line.{Line, loss, plan, spell, AreWithin}
use Rattle.answer_text.specs.Text.{lines_of, refutation_of, lines_of_log, answer_text, most_orders}
use Rattle.answer_text.specs.Text.{Fits, Ends, IsAnswerText}
use Rattle.answer_text.proofs.Lines.{plain_name, lacks-spell}
use Rattle.answer_text.proofs.Fronts.{end-alone}

plain-lines : (answer : Answer) → list_all plain_name (lines_of answer) ≡ true
plain-lines (Optimal lost slabs refutation) = refl
plain-lines (Feasible lost slabs closed) = refl
plain-lines (Infeasible place) = refl

lacks-lines : (orders : ℕ) (lines : List Line) → orders < 2 ^ 63
    → list_all plain_name lines ≡ true → AreWithin orders lines
    → list_all (lacks 10) (map spell lines) ≡ true
lacks-lines orders [] small plain within = refl
lacks-lines orders (line ∷ lines) small plain within =
    let p = and_parts (plain_name line) (list_all plain_name lines) plain in
    and_from (lacks 10 (spell line)) (list_all (lacks 10) (map spell lines))
    (lacks-spell orders line small p.0 within.0) (lacks-lines orders lines small p.1 within.1)

-- an answer for at most `MAX_ORDERS` orders may be printed
pub may-print : (orders : ℕ) (answer : Answer) → orders ≤ MAX_ORDERS → Fits orders answer
    → Fits (most_orders answer) answer
may-print orders (Optimal lost slabs refutation) few fits =
    subst (λ n. Fits n (Optimal lost slabs refutation)) (sym fits.numbers.1.1.0.0) fits
may-print orders (Feasible lost slabs closed) few fits =
    subst (λ n. Fits n (Feasible lost slabs closed)) (sym fits.numbers.1.1.0.0) fits
may-print orders (Infeasible place) few fits =
    let l : place < orders = fits.numbers.1.0 in
    let m : place < MAX_ORDERS = omega arith in
    record { numbers = (tt, (m, tt)); refutation = tt }

-- the lines before `end`, and `end`
pub answer-and-end : (answer : Answer) → answer_text answer
    ≡ text_of (map spell (lines_of answer) ++ lines_of_log (refutation_of answer)) ++ codes "end\n"
answer-and-end answer =
    let front = map spell (lines_of answer) in let log = lines_of_log (refutation_of answer) in
    ap text_of (sym (append_assoc front log (codes "end" ∷ [])))
    ∙ text_of-append (front ++ log) (codes "end" ∷ [])

log-ends : (refutation : Option Logged) → IfSome refutation IsLog
    → Ends refutation (lines_of_log refutation ++ codes "end" ∷ [])
log-ends None is = end-alone
log-ends (Some log) is = log-lines log is

lacks-log : (refutation : Option Logged) → IfSome refutation IsLog
    → list_all (lacks 10) (lines_of_log refutation ++ codes "end" ∷ []) ≡ true
lacks-log None is = refl
lacks-log (Some log) is = feedless-log log is

-- what is printed of an answer stands for it
pub read-back : (orders : ℕ) (answer : Answer) (text : List ℕ) → text ≡ answer_text answer
    → IfSome (refutation_of answer) IsLog → orders ≤ MAX_ORDERS → Fits orders answer
    → IsAnswerText orders answer (text_lines text)
read-back orders answer text printed is few fits =
    record {
      spells = record {
        ending = ending;
        is = ap text_lines printed ∙ lines-text (front ++ ending) feedless;
        ends = log-ends (refutation_of answer) is;
      };
      fits = fits;
    }
  where
    front : List (List ℕ)
    front = map spell (lines_of answer)

    ending : List (List ℕ)
    ending = lines_of_log (refutation_of answer) ++ codes "end" ∷ []

    feedless : list_all (lacks 10) (front ++ ending) ≡ true
    feedless =
        list_all-append (lacks 10) front ending
        ∙ and_from (list_all (lacks 10) front) (list_all (lacks 10) ending)
        (lacks-lines orders (lines_of answer) (omega arith) (plain-lines answer) fits.numbers)
        (lacks-log (refutation_of answer) is)

-- the line of a plan and what stands before it, part by part
pub plan-parts : (name slabs things : List ℕ) (lost : ℕ) → things ≡ slabs
    → name ++ (decimal lost ++ 10 ∷ (spell (plan slabs) ++ 10 ∷ []))
    ≡ (name ++ decimal lost)
    ++ (codes "\nplan" ++ (flat_map (λ s. 32 ∷ ordinal s) things ++ 10 ∷ []))
plan-parts name slabs things lost e =
    let line : spell (plan slabs) ≡ codes "plan" ++ flat_map (λ s. 32 ∷ ordinal s) things =
    line-cons (codes "plan") (ordinals slabs)
    ∙ ap (λ l. codes "plan" ++ l) (spaced-path slabs ∙ ap (flat_map (λ s. 32 ∷ ordinal s)) (sym e))
    in
    rw line (sym (append_assoc name (decimal lost)
    (codes "\nplan" ++ (flat_map (λ s. 32 ∷ ordinal s) things ++ 10 ∷ []))))

-- what comes behind a plan
behind-plan : (word number line rest : List ℕ)
    → word ++ (number ++ 10 ∷ (line ++ 10 ∷ rest))
    ≡ (word ++ (number ++ 10 ∷ (line ++ 10 ∷ []))) ++ rest
behind-plan word number line rest = simp append_assoc

-- the lines of each kind of answer, part by part
pub optimal-parts : (lost : ℕ) (slabs : List ℕ) (refutation : Option Logged)
    → text_of (map spell (lines_of (Optimal lost slabs refutation)) ++ lines_of_log refutation)
    ≡ (codes "optimal\nloss " ++ (decimal lost ++ 10 ∷ (spell (plan slabs) ++ 10 ∷ [])))
    ++ text_of (lines_of_log refutation)
optimal-parts lost slabs refutation =
    behind-plan (codes "optimal\nloss ") (decimal lost) (spell (plan slabs))
    (text_of (lines_of_log refutation))

pub feasible-parts : (lost : ℕ) (slabs : List ℕ) (closed : ℕ)
    → text_of (map spell (lines_of (Feasible lost slabs closed)) ++ [])
    ≡ (codes "feasible\nloss " ++ (decimal lost ++ 10 ∷ (spell (plan slabs) ++ 10 ∷ [])))
    ++ (codes "spent " ++ (decimal closed ++ 10 ∷ []))
feasible-parts lost slabs closed =
    behind-plan (codes "feasible\nloss ") (decimal lost) (spell (plan slabs))
    (codes "spent " ++ (decimal closed ++ 10 ∷ []))
