-- The lines of a text have one answer: what an answer says of them is said by no other.
use Rattle.std.proofs.Common.{ℕ, ◌+◌, ◌^◌, ◌<◌, ◌≡◌, ◌≢◌, ◌⊎◌, inl, inr, List, [], ◌∷◌, ◌++◌}
use Rattle.std.proofs.Common.{length, Some, None, Result, Ok, Err, IfOk, IfErr, codes, refl, subst}
use Rattle.std.proofs.Common.{sym, ap, ap₂, ◌∙◌, arith, append_assoc}
use Rattle.std.proofs.lemmas.List.{append-nil}
use Rattle.refute_log.specs.Logged.{Logged}
use Rattle.refute_log.specs.Judged as in_log
use Rattle.refute_log.specs.declared.error.LogTextError.{LogTextError}
use Rattle.refute_log.specs.declared.error.LogTextError.TheVariants as in_log_error
use Rattle.refute_log.proofs.Unique.{answers-same}
use Rattle.answer_text.specs.declared.answer.Answer.{Answer}
use Rattle.answer_text.specs.declared.answer.Answer.TheVariants.{Optimal, Feasible, Infeasible}
use Rattle.answer_text.specs.declared.error.AnswerTextError.{AnswerTextError}
use Rattle.answer_text.specs.declared.error.AnswerTextError.TheVariants.{BadLine, NotRising}
use Rattle.answer_text.specs.declared.error.AnswerTextError.TheVariants.{CountDiffers, OutOfMemory}
use Rattle.answer_text.specs.Line.{loss, plan, spent, order, spell}
use Rattle.answer_text.specs.Text.{lines_of, Spells, IsAnswerText}
use Rattle.answer_text.specs.Judged.{Begins, NextIsWrong, HasLog, IsBadWithoutLog, error_in_log}
use Rattle.answer_text.specs.Judged.{IsRefused, ComesWhere}
use Rattle.answer_text.proofs.Lines.{same-loss, same-plan, same-spent, same-order}
use Rattle.answer_text.proofs.Ending.{first-byte, within-take, end-no_log}
use Rattle.answer_text.proofs.Fronts.{longer-front, begins-front, head_of, behind-heads}
use Rattle.answer_text.proofs.Fronts.{no_log-other, no_log-behind}
use Rattle.answer_text.proofs.InLog.{first-of, has-log}

-- what an answer of the reader says of the lines
abbrev pub Says : ℕ → List (List ℕ) → Result Answer AnswerTextError → Type 0
Says orders lines (Ok answer) = IsAnswerText orders answer lines
Says orders lines (Err error) = IsRefused orders lines error

pub says-result : (orders : ℕ) (lines : List (List ℕ)) (result : Result Answer AnswerTextError)
    → IfOk result (λ answer. IsAnswerText orders answer lines)
    → IfErr result (IsRefused orders lines) → Says orders lines result
says-result orders lines (Ok answer) ok err = ok
says-result orders lines (Err error) ok err = err

-- ---- lines without a log

module _ (orders : ℕ) (small : orders < 2 ^ 63) (lines : List (List ℕ))
    (no_log : ¬ (HasLog orders lines)) where
  -- an answer with a log has one in its text
  logged : (lost : ℕ) (slabs : List ℕ) (log : Logged)
      → IsAnswerText orders (Optimal lost slabs (Some log)) lines → ⊥
  logged lost slabs log text =
      let begins = text.spells.ends.begins in
      no_log (subst (HasLog orders) (sym text.spells.is)
      (has-log orders lost slabs text.spells.ending text.fits.numbers
      (first-of log.orders (length log.entries) log.entries text.spells.ending
      (text.spells.ends.end_line ∷ text.spells.ends.after) begins)))

  -- lines stand for one answer
  one-answer : (a b : Answer) → IsAnswerText orders a lines → IsAnswerText orders b lines → a ≡ b
  one-answer (Optimal l p None) (Optimal m q None) s t =
      let same = behind-heads l m p q s.spells.ending t.spells.ending
      (sym s.spells.is ∙ t.spells.is) in
      let u : l ≡ m = same-loss l m s.fits.numbers.1.0 t.fits.numbers.1.0 same.0 in
      let v : p ≡ q =
      same-plan orders p q small s.fits.numbers.1.1.0 t.fits.numbers.1.1.0 same.1 in
      cc
  one-answer (Optimal l p (Some log)) b s t = absurd (logged l p log s)
  one-answer a (Optimal m q (Some log)) s t = absurd (logged m q log t)
  one-answer (Optimal l p None) (Feasible m q n) s t =
      absurd (omega (
        arith,
        first-byte (codes "optimal") (codes "feasible") _ _ (sym s.spells.is ∙ t.spells.is),
      ))
  one-answer (Optimal l p None) (Infeasible j) s t =
      absurd (omega (
        arith,
        first-byte (codes "optimal") (codes "infeasible") _ _ (sym s.spells.is ∙ t.spells.is),
      ))
  one-answer (Feasible l p k) (Optimal m q None) s t =
      absurd (omega (
        arith,
        first-byte (codes "feasible") (codes "optimal") _ _ (sym s.spells.is ∙ t.spells.is),
      ))
  one-answer (Feasible l p k) (Feasible m q n) s t =
      let e : codes "feasible" ∷ spell (loss l) ∷ spell (plan p) ∷ spell (spent k)
      ∷ s.spells.ending
      ≡ codes "feasible" ∷ spell (loss m) ∷ spell (plan q) ∷ spell (spent n)
      ∷ t.spells.ending =
      sym s.spells.is ∙ t.spells.is in
      let losses : spell (loss l) ≡ spell (loss m) = cc in
      let plans : spell (plan p) ≡ spell (plan q) = cc in
      let counts : spell (spent k) ≡ spell (spent n) = cc in
      let u : l ≡ m = same-loss l m s.fits.numbers.1.0 t.fits.numbers.1.0 losses in
      let v : p ≡ q =
      same-plan orders p q small s.fits.numbers.1.1.0 t.fits.numbers.1.1.0 plans in
      let w : k ≡ n = same-spent k n s.fits.numbers.1.1.1.0 t.fits.numbers.1.1.1.0 counts in
      cc
  one-answer (Feasible l p k) (Infeasible j) s t =
      absurd (omega (
        arith,
        first-byte (codes "feasible") (codes "infeasible") _ _ (sym s.spells.is ∙ t.spells.is),
      ))
  one-answer (Infeasible i) (Optimal m q None) s t =
      absurd (omega (
        arith,
        first-byte (codes "infeasible") (codes "optimal") _ _ (sym s.spells.is ∙ t.spells.is),
      ))
  one-answer (Infeasible i) (Feasible m q n) s t =
      absurd (omega (
        arith,
        first-byte (codes "infeasible") (codes "feasible") _ _ (sym s.spells.is ∙ t.spells.is),
      ))
  one-answer (Infeasible i) (Infeasible j) s t =
      let e : codes "infeasible" ∷ spell (order i) ∷ s.spells.ending
      ≡ codes "infeasible" ∷ spell (order j) ∷ t.spells.ending =
      sym s.spells.is ∙ t.spells.is in
      let names : spell (order i) ≡ spell (order j) = cc in
      let u : i ≡ j =
      same-order orders i j small s.fits.numbers.1.0 t.fits.numbers.1.0 names in
      cc

  -- a text's beginnings are right
  begins-text : (answer : Answer) (front rest : List (List ℕ)) → IsAnswerText orders answer lines
      → lines ≡ front ++ rest → Begins orders front
  begins-text answer front rest text parts =
      record {
        answer = answer;
        more = rest;
        spells = subst (Spells answer) parts text.spells;
        within = within-take orders (length front) (lines_of answer) text.fits.numbers;
      }

  -- no text has a first wrong line
  never-both : (answer : Answer) (number : ℕ) → IsAnswerText orders answer lines
      → IsBadWithoutLog orders lines number → ⊥
  never-both answer number text bad = by_rest bad.rest bad.parts bad.wrong
    where
      by_rest : (rest : List (List ℕ)) → lines ≡ bad.front ++ rest
          → NextIsWrong orders bad.front rest → ⊥
      by_rest [] parts wrong =
          wrong answer
          (subst (IsAnswerText orders answer) (parts ∙ append-nil bad.front) text)
      by_rest (next ∷ rest) parts wrong =
          wrong (begins-text answer (bad.front ++ next ∷ []) rest text
          (parts ∙ sym (append_assoc bad.front (next ∷ []) rest)))

  -- no line before the first wrong one is wrong
  never-earlier : (m n : ℕ) (bad : IsBadWithoutLog orders lines m)
      (other : IsBadWithoutLog orders lines n) → length bad.front < length other.front → ⊥
  never-earlier m n bad other l =
      let r = longer-front bad.front bad.rest other.front other.rest
      (sym bad.parts ∙ other.parts) l in
      let wrong : NextIsWrong orders bad.front (r.next ∷ r.behind) =
      subst (NextIsWrong orders bad.front) r.is bad.wrong in
      wrong (begins-front orders (bad.front ++ r.next ∷ []) r.more other.front r.goes_on
      other.right)

  one-number : (m n : ℕ) → IsBadWithoutLog orders lines m → IsBadWithoutLog orders lines n
      → m ≡ n
  one-number m n bad other =
      let not_before = never-earlier m n bad other in
      let not_behind = never-earlier n m other bad in
      let p : m ≡ length bad.front + 1 = bad.place in
      let q : n ≡ length other.front + 1 = other.place in
      omega (arith, not_before, not_behind)

-- ---- lines with a log, or without one

-- an answer, as it follows from what is answered to a log behind a plan
abbrev pub answer_in_log : ℕ → List ℕ → Result Logged LogTextError → Result Answer AnswerTextError
answer_in_log lost slabs (Ok log) = Ok (Optimal lost slabs (Some log))
answer_in_log lost slabs (Err cause) = Err (error_in_log cause)

-- what an answer says is said of a log behind a plan
record InLog (orders : ℕ) (lines : List (List ℕ)) (answer : Result Answer AnswerTextError)
    : Type 0 where
  has : HasLog orders lines
  of_log : Result Logged LogTextError
  says : in_log.Says orders 4 has.log of_log
  memory : of_log ≢ Err in_log_error.OutOfMemory
  is : answer ≡ answer_in_log has.lost has.slabs of_log

-- or there is no log, and the answer is an answer's text, or names the first wrong line
data Place (orders : ℕ) (lines : List (List ℕ)) (answer : Result Answer AnswerTextError) : Type 0
  where
    whole : ¬ (HasLog orders lines) → (told : Answer) → IsAnswerText orders told lines
        → answer ≡ Ok told → Place orders lines answer
    wrong : ¬ (HasLog orders lines) → (number : ℕ) → IsBadWithoutLog orders lines number
        → answer ≡ Err (BadLine number) → Place orders lines answer
    inside : InLog orders lines answer → Place orders lines answer

place-of : (orders : ℕ) (lines : List (List ℕ)) (answer : Result Answer AnswerTextError)
    → answer ≢ Err OutOfMemory → Says orders lines answer → Place orders lines answer
place-of orders lines (Ok (Optimal l p None)) memory t =
    let lacks = end-no_log t.spells.ends.end_line t.spells.ends.after t.spells.ends.ended in
    let is = t.spells.is ∙ ap (λ rest. head_of l p ++ rest) t.spells.ends.is in
    whole (λ has. no_log-behind orders l p (t.spells.ends.end_line ∷ t.spells.ends.after) lacks
    (subst (HasLog orders) is has)) (Optimal l p None) t refl
place-of orders lines (Ok (Optimal l p (Some log))) memory t =
    inside (by_lines lines (sym t.spells.is))
  where
    by_lines : (ls : List (List ℕ)) → head_of l p ++ t.spells.ending ≡ ls
        → InLog orders ls (Ok (Optimal l p (Some log)))
    by_lines ls e = subst (λ ls. InLog orders ls (Ok (Optimal l p (Some log)))) e (record {
      has = has-log orders l p t.spells.ending t.fits.numbers
          (first-of log.orders (length log.entries) log.entries t.spells.ending
          (t.spells.ends.end_line ∷ t.spells.ends.after) t.spells.ends.begins);
      of_log = Ok log;
      says = (t.fits.refutation, t.spells.ends);
      memory = λ e. cc;
      is = refl;
    })
place-of orders lines (Ok (Feasible l p k)) memory t =
    whole (λ has. no_log-other orders (codes "feasible") _ (omega arith)
    (subst (HasLog orders) t.spells.is has)) (Feasible l p k) t refl
place-of orders lines (Ok (Infeasible i)) memory t =
    whole (λ has. no_log-other orders (codes "infeasible") _ (omega arith)
    (subst (HasLog orders) t.spells.is has)) (Infeasible i) t refl
place-of orders lines (Err (BadLine number)) memory (inl bad) = wrong bad.no_log number bad refl
place-of orders lines (Err (BadLine number)) memory (inr (has, bad)) =
    inside (record {
      has = has;
      of_log = Err (in_log_error.BadLine number);
      says = bad;
      memory = λ e. cc;
      is = refl;
    })
place-of orders lines (Err (NotRising number)) memory (has, falls) =
    inside (record {
      has = has;
      of_log = Err (in_log_error.NotRising number);
      says = falls;
      memory = λ e. cc;
      is = refl;
    })
place-of orders lines (Err (CountDiffers stated found)) memory (has, other) =
    inside (record {
      has = has;
      of_log = Err (in_log_error.CountDiffers stated found);
      says = other;
      memory = λ e. cc;
      is = refl;
    })
place-of orders lines (Err OutOfMemory) memory says = absurd (memory refl)

-- what is said of one log is one answer
inside-same : (orders : ℕ) (lines : List (List ℕ)) (a b : Result Answer AnswerTextError)
    → orders < 2 ^ 16 → InLog orders lines a → InLog orders lines b → a ≡ b
inside-same orders lines a b small p q =
    let same = behind-heads p.has.lost q.has.lost p.has.slabs q.has.slabs p.has.log q.has.log
    (sym p.has.parts ∙ q.has.parts) in
    let lost : p.has.lost ≡ q.has.lost =
    same-loss p.has.lost q.has.lost p.has.within.1.0 q.has.within.1.0 same.0 in
    let slabs : p.has.slabs ≡ q.has.slabs =
    same-plan orders p.has.slabs q.has.slabs (omega arith) p.has.within.1.1.0 q.has.within.1.1.0
    same.1 in
    let told : p.of_log ≡ q.of_log =
    answers-same orders 4 p.has.log p.of_log q.of_log small p.memory q.memory p.says
    (subst (λ ls. in_log.Says orders 4 ls q.of_log) (sym same.2) q.says) in
    p.is
    ∙ ap (λ r. answer_in_log p.has.lost p.has.slabs r) told
    ∙ ap₂ (λ l s. answer_in_log l s q.of_log) lost slabs
    ∙ sym q.is

answers-one : (orders : ℕ) (lines : List (List ℕ)) (a b : Result Answer AnswerTextError)
    → orders < 2 ^ 16 → Place orders lines a → Place orders lines b → a ≡ b
answers-one orders lines a b small (whole no_log s t e) (whole n u v f) =
    e ∙ ap Ok (one-answer orders (omega arith) lines no_log s u t v) ∙ sym f
answers-one orders lines a b small (whole no_log s t e) (wrong n m bad f) =
    absurd (never-both orders (omega arith) lines no_log s m t bad)
answers-one orders lines a b small (wrong no_log m bad e) (whole n u v f) =
    absurd (never-both orders (omega arith) lines no_log u m v bad)
answers-one orders lines a b small (wrong no_log m bad e) (wrong n k other f) =
    e ∙ ap (λ n. Err (BadLine n)) (one-number orders (omega arith) lines no_log m k bad other)
    ∙ sym f
answers-one orders lines a b small (whole no_log s t e) (inside q) = absurd (no_log q.has)
answers-one orders lines a b small (wrong no_log m bad e) (inside q) = absurd (no_log q.has)
answers-one orders lines a b small (inside p) (whole no_log u v f) = absurd (no_log p.has)
answers-one orders lines a b small (inside p) (wrong no_log m bad f) = absurd (no_log p.has)
answers-one orders lines a b small (inside p) (inside q) = inside-same orders lines a b small p q

-- an answer that says something of the lines comes exactly where that holds
pub comes-where : (orders : ℕ) (lines : List (List ℕ))
    (result answer : Result Answer AnswerTextError)
    → orders < 2 ^ 16 → Says orders lines result → answer ≢ Err OutOfMemory
    → ComesWhere result answer (Says orders lines answer)
comes-where orders lines result answer small says memory =
    record {
      only = λ e. subst (Says orders lines) e says;
      always = λ fact. by_result result says (λ m s. answers-one orders lines result answer small
          (place-of orders lines result m s) (place-of orders lines answer memory fact));
    }
  where
    by_result : (result : Result Answer AnswerTextError) → Says orders lines result
        → (result ≢ Err OutOfMemory → Says orders lines result → result ≡ answer)
        → (result ≡ answer) ⊎ (result ≡ Err OutOfMemory)
    by_result (Ok told) s same = inl (same (λ e. cc) s)
    by_result (Err (BadLine number)) s same = inl (same (λ e. cc) s)
    by_result (Err (NotRising number)) s same = inl (same (λ e. cc) s)
    by_result (Err (CountDiffers stated found)) s same = inl (same (λ e. cc) s)
    by_result (Err OutOfMemory) s same = inr refl
