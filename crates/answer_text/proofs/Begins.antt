-- What may stand behind the lines with which an answer's text begins.
use Rattle.std.proofs.Common.{ℕ, ◌+◌, ◌≡◌, inl, inr, List, [], ◌∷◌, ◌++◌, map, length, take, None}
use Rattle.std.proofs.Common.{codes, refl, subst, sym, ap, ◌∙◌, arith, append_assoc, length-append}
use Rattle.std.proofs.lemmas.List.{append-nil}
use Rattle.answer_text.specs.declared.answer.Answer.{Answer}
use Rattle.answer_text.specs.declared.answer.Answer.TheVariants.{Optimal, Feasible, Infeasible}
use Rattle.answer_text.specs.declared.error.AnswerTextError.{AnswerTextError}
use Rattle.answer_text.specs.declared.error.AnswerTextError.TheVariants.{BadLine, NotRising}
use Rattle.answer_text.specs.declared.error.AnswerTextError.TheVariants.{CountDiffers, OutOfMemory}
use Rattle.answer_text.specs.Line.{Line, kind, loss, plan, spent, order, spell, IsWithin, AreWithin}
use Rattle.answer_text.specs.Text.{lines_of, refutation_of, IsEnding, Ends, Spells, IsAnswerText}
use Rattle.answer_text.specs.Judged.{Begins, NextIsWrong, HasLog, IsBadWithoutLog, IsRefused}
use Rattle.answer_text.specs.Reading.{Reading, LacksAll, Refuses, LacksEnd, HasMore, IsBadEnding}
use Rattle.answer_text.specs.Reading.{RefusesEnding}
use Rattle.answer_text.proofs.Ending.{filled-at, first-byte, within-take, MayFollow, ending-of}
use Rattle.answer_text.proofs.Ending.{Never, never-more}
use Rattle.answer_text.proofs.Fronts.{end-alone}

-- some lines begin with one of these
pub record Follows {X : Type 0} (line : X → Line) (orders : ℕ) (rest : List (List ℕ)) : Type 0 where
  pub thing : X
  pub more : List (List ℕ)
  pub is : rest ≡ spell (line thing) ∷ more
  pub within : IsWithin orders (line thing)

-- in each text that begins with these lines, one of those comes next
abbrev pub Awaits : {X : Type 0} → (X → Line) → ℕ → List (List ℕ) → Type 0
Awaits line orders front =
    (answer : Answer) (rest : List (List ℕ)) → Spells answer (front ++ rest)
    → AreWithin orders (take (length front + 1) (lines_of answer)) → Follows line orders rest

module _ {X : Type 0} (line : X → Line) (orders : ℕ) (front : List (List ℕ))
    (awaits : Awaits line orders front) where
  none-follows : (rest : List (List ℕ)) → LacksAll line orders rest → NextIsWrong orders front rest
  none-follows [] lacks = λ (answer : Answer) (text : IsAnswerText orders answer front).
      let same : front ≡ front ++ [] = sym (append-nil front) in
      let f : Follows line orders [] = awaits answer [] (subst (Spells answer) same text.spells)
      (within-take orders (length front + 1) (lines_of answer) text.fits.numbers) in
      absurd (let z : [] ≡ spell (line f.thing) ∷ f.more = f.is in cc)
  none-follows (next ∷ rest) lacks = λ (begins : Begins orders (front ++ next ∷ [])).
      let same : (front ++ next ∷ []) ++ begins.more ≡ front ++ next ∷ begins.more =
      append_assoc front (next ∷ []) begins.more in
      let count : length (front ++ next ∷ []) ≡ length front + 1 =
      length-append front (next ∷ []) in
      let f : Follows line orders (next ∷ begins.more) = awaits begins.answer (next ∷ begins.more)
      (subst (Spells begins.answer) same begins.spells)
      (subst (λ n. AreWithin orders (take n (lines_of begins.answer))) count begins.within) in
      let e : next ∷ begins.more ≡ spell (line f.thing) ∷ f.more = f.is in
      let here : next ≡ spell (line f.thing) = cc in
      lacks f.thing f.within (record { more = rest; is = ap (λ l. l ∷ rest) here })

  -- a reader of one of those lines refuses the text where the next line is wrong
  pub refused-next : (old : Reading) (lines : List (List ℕ)) (error : AnswerTextError)
      → lines ≡ front ++ old.rest → old.orders ≡ orders → old.read ≡ length front
      → Begins orders front
      → (NextIsWrong orders front old.rest → ¬ (HasLog orders (front ++ old.rest)))
      → Refuses line old error → IsRefused orders lines error
  refused-next old lines (BadLine number) parts same read begins no_log refuses =
      let lacks : LacksAll line orders old.rest =
      subst (λ n. LacksAll line n old.rest) same refuses.1 in
      let wrong : NextIsWrong orders front old.rest = none-follows old.rest lacks in
      inl (record {
        no_log = λ has. no_log wrong (subst (HasLog orders) parts has);
        front = front;
        rest = old.rest;
        parts = parts;
        right = begins;
        wrong = wrong;
        place = omega (arith, refuses.0);
      })
  refused-next old lines (NotRising number) parts same read begins no_log refuses = absurd refuses
  refused-next old lines (CountDiffers stated found) parts same read begins no_log refuses =
      absurd refuses
  refused-next old lines OutOfMemory parts same read begins no_log refuses = tt

begins-by : (orders : ℕ) (front more : List (List ℕ)) (answer : Answer)
    → Ends (refutation_of answer) (codes "end" ∷ [])
    → front ++ more ≡ map spell (lines_of answer) ++ codes "end" ∷ []
    → AreWithin orders (take (length front) (lines_of answer)) → Begins orders front
begins-by orders front more answer ends e within =
    record {
      answer = answer;
      more = more;
      spells = record { ending = codes "end" ∷ []; is = e; ends = ends };
      within = within;
    }

pub begins-nothing : (orders : ℕ) → Begins orders []
begins-nothing orders = begins-by orders [] _ (Infeasible 0) end-alone refl tt

pub begins-optimal : (orders : ℕ) → Begins orders (codes "optimal" ∷ [])
begins-optimal orders =
    begins-by orders (codes "optimal" ∷ [])
    (spell (loss 0) ∷ spell (plan []) ∷ codes "end" ∷ []) (Optimal 0 [] None) end-alone refl
    (tt, tt)

pub begins-feasible : (orders : ℕ) → Begins orders (codes "feasible" ∷ [])
begins-feasible orders =
    begins-by orders (codes "feasible" ∷ [])
    (spell (loss 0) ∷ spell (plan []) ∷ spell (spent 0) ∷ codes "end" ∷ [])
    (Feasible 0 [] 0) end-alone refl (tt, tt)

pub begins-infeasible : (orders : ℕ) → Begins orders (codes "infeasible" ∷ [])
begins-infeasible orders =
    begins-by orders (codes "infeasible" ∷ []) (spell (order 0) ∷ codes "end" ∷ [])
    (Infeasible 0) end-alone refl (tt, tt)

pub begins-optimal_loss : (orders lost : ℕ) → IsWithin orders (loss lost)
    → Begins orders (codes "optimal" ∷ spell (loss lost) ∷ [])
begins-optimal_loss orders lost h =
    begins-by orders (codes "optimal" ∷ spell (loss lost) ∷ [])
    (spell (plan []) ∷ codes "end" ∷ []) (Optimal lost [] None) end-alone refl (tt, (h, tt))

pub begins-feasible_loss : (orders lost : ℕ) → IsWithin orders (loss lost)
    → Begins orders (codes "feasible" ∷ spell (loss lost) ∷ [])
begins-feasible_loss orders lost h =
    begins-by orders (codes "feasible" ∷ spell (loss lost) ∷ [])
    (spell (plan []) ∷ spell (spent 0) ∷ codes "end" ∷ []) (Feasible lost [] 0) end-alone refl
    (tt, (h, tt))

pub begins-feasible_plan : (orders lost : ℕ) (slabs : List ℕ) → IsWithin orders (loss lost)
    → IsWithin orders (plan slabs)
    → Begins orders (codes "feasible" ∷ spell (loss lost) ∷ spell (plan slabs) ∷ [])
begins-feasible_plan orders lost slabs h k =
    begins-by orders (codes "feasible" ∷ spell (loss lost) ∷ spell (plan slabs) ∷ [])
    (spell (spent 0) ∷ codes "end" ∷ []) (Feasible lost slabs 0) end-alone refl (tt, (h, (k, tt)))

-- the line that names an answer's kind
abbrev pub kind_of : Answer → Line
kind_of (Optimal lost slabs refutation) = kind (codes "optimal")
kind_of (Feasible lost slabs closed) = kind (codes "feasible")
kind_of (Infeasible place) = kind (codes "infeasible")

pub awaits-kind : (orders : ℕ) → Awaits kind_of orders []
awaits-kind orders (Optimal l p r) rest s w =
    record { thing = Optimal l p r; more = _; is = s.is; within = tt }
awaits-kind orders (Feasible l p k) rest s w =
    record { thing = Feasible l p k; more = _; is = s.is; within = tt }
awaits-kind orders (Infeasible i) rest s w =
    record { thing = Infeasible i; more = _; is = s.is; within = tt }

-- behind `optimal` nothing but an optimal answer goes on
module _ (orders : ℕ) where
  pub awaits-optimal : Awaits loss orders (codes "optimal" ∷ [])
  awaits-optimal (Optimal l p r) rest s w =
      let e : codes "optimal" ∷ rest
      ≡ codes "optimal" ∷ spell (loss l) ∷ spell (plan p) ∷ s.ending = s.is in
      record { thing = l; more = spell (plan p) ∷ s.ending; is = cc; within = w.1.0 }
  awaits-optimal (Feasible l p k) rest s w =
      absurd (omega (arith, first-byte (codes "optimal") (codes "feasible") _ _ s.is))
  awaits-optimal (Infeasible i) rest s w =
      absurd (omega (arith, first-byte (codes "optimal") (codes "infeasible") _ _ s.is))

  pub awaits-optimal_loss : (lost : ℕ)
      → Awaits plan orders (codes "optimal" ∷ spell (loss lost) ∷ [])
  awaits-optimal_loss lost (Optimal l p r) rest s w =
      let e : codes "optimal" ∷ spell (loss lost) ∷ rest
      ≡ codes "optimal" ∷ spell (loss l) ∷ spell (plan p) ∷ s.ending = s.is in
      record { thing = p; more = s.ending; is = cc; within = w.1.1.0 }
  awaits-optimal_loss lost (Feasible l p k) rest s w =
      absurd (omega (arith, first-byte (codes "optimal") (codes "feasible") _ _ s.is))
  awaits-optimal_loss lost (Infeasible i) rest s w =
      absurd (omega (arith, first-byte (codes "optimal") (codes "infeasible") _ _ s.is))

  pub awaits-feasible : Awaits loss orders (codes "feasible" ∷ [])
  awaits-feasible (Optimal l p r) rest s w =
      absurd (omega (arith, first-byte (codes "feasible") (codes "optimal") _ _ s.is))
  awaits-feasible (Feasible l p k) rest s w =
      let e : codes "feasible" ∷ rest
      ≡ codes "feasible" ∷ spell (loss l) ∷ spell (plan p) ∷ spell (spent k) ∷ s.ending =
      s.is in
      record {
        thing = l;
        more = spell (plan p) ∷ spell (spent k) ∷ s.ending;
        is = cc;
        within = w.1.0;
      }
  awaits-feasible (Infeasible i) rest s w =
      absurd (omega (arith, first-byte (codes "feasible") (codes "infeasible") _ _ s.is))

  pub awaits-feasible_loss : (lost : ℕ)
      → Awaits plan orders (codes "feasible" ∷ spell (loss lost) ∷ [])
  awaits-feasible_loss lost (Optimal l p r) rest s w =
      absurd (omega (arith, first-byte (codes "feasible") (codes "optimal") _ _ s.is))
  awaits-feasible_loss lost (Feasible l p k) rest s w =
      let e : codes "feasible" ∷ spell (loss lost) ∷ rest
      ≡ codes "feasible" ∷ spell (loss l) ∷ spell (plan p) ∷ spell (spent k) ∷ s.ending =
      s.is in
      record { thing = p; more = spell (spent k) ∷ s.ending; is = cc; within = w.1.1.0 }
  awaits-feasible_loss lost (Infeasible i) rest s w =
      absurd (omega (arith, first-byte (codes "feasible") (codes "infeasible") _ _ s.is))

  pub awaits-feasible_plan : (lost : ℕ) (slabs : List ℕ)
      → Awaits spent orders (codes "feasible" ∷ spell (loss lost) ∷ spell (plan slabs) ∷ [])
  awaits-feasible_plan lost slabs (Optimal l p r) rest s w =
      absurd (omega (arith, first-byte (codes "feasible") (codes "optimal") _ _ s.is))
  awaits-feasible_plan lost slabs (Feasible l p k) rest s w =
      let e : codes "feasible" ∷ spell (loss lost) ∷ spell (plan slabs) ∷ rest
      ≡ codes "feasible" ∷ spell (loss l) ∷ spell (plan p) ∷ spell (spent k) ∷ s.ending =
      s.is in
      record { thing = k; more = s.ending; is = cc; within = w.1.1.1.0 }
  awaits-feasible_plan lost slabs (Infeasible i) rest s w =
      absurd (omega (arith, first-byte (codes "feasible") (codes "infeasible") _ _ s.is))

  pub awaits-infeasible : Awaits order orders (codes "infeasible" ∷ [])
  awaits-infeasible (Optimal l p r) rest s w =
      absurd (omega (arith, first-byte (codes "infeasible") (codes "optimal") _ _ s.is))
  awaits-infeasible (Feasible l p k) rest s w =
      absurd (omega (arith, first-byte (codes "infeasible") (codes "feasible") _ _ s.is))
  awaits-infeasible (Infeasible i) rest s w =
      let e : codes "infeasible" ∷ rest ≡ codes "infeasible" ∷ spell (order i) ∷ s.ending = s.is in
      record { thing = i; more = s.ending; is = cc; within = w.1.0 }

count-lines : (lines : List Line) → length (map spell lines) ≡ length lines
count-lines [] = refl
count-lines (line ∷ lines) = omega (arith, count-lines lines)

-- behind all lines of an answer without a log a wrong end is refused
module _ (orders : ℕ) (answer : Answer) (within : AreWithin orders (lines_of answer))
    (plain : refutation_of answer ≡ None) (rest : List (List ℕ))
    (no_log : ¬ (HasLog orders (map spell (lines_of answer) ++ rest))) where
  ends-plain : (lines : List (List ℕ)) → IsEnding lines → Ends (refutation_of answer) lines
  ends-plain lines e = subst (λ r. Ends r lines) (sym plain) e

  no-end : (rest : List (List ℕ)) → Never (MayFollow answer) rest
      → NextIsWrong orders (map spell (lines_of answer)) rest
  no-end [] never =
      λ (other : Answer) (text : IsAnswerText orders other (map spell (lines_of answer))).
      let same : map spell (lines_of answer) ≡ map spell (lines_of answer) ++ [] =
      sym (append-nil (map spell (lines_of answer))) in
      never (ending-of answer other [] (subst (Spells other) same text.spells))
  no-end (next ∷ rest) never =
      λ (begins : Begins orders (map spell (lines_of answer) ++ next ∷ [])).
      let same : (map spell (lines_of answer) ++ next ∷ []) ++ begins.more
      ≡ map spell (lines_of answer) ++ next ∷ begins.more =
      append_assoc (map spell (lines_of answer)) (next ∷ []) begins.more in
      never begins.more (ending-of answer begins.answer (next ∷ begins.more)
      (subst (Spells begins.answer) same begins.spells))

  -- nothing that may follow comes next
  pub bad-end : Never (MayFollow answer) rest
      → IsBadWithoutLog orders (map spell (lines_of answer) ++ rest) (length (lines_of answer) + 1)
  bad-end never =
      record {
        no_log = no_log;
        front = map spell (lines_of answer);
        rest = rest;
        parts = refl;
        right = begins-by orders (map spell (lines_of answer)) (codes "end" ∷ []) answer
            (ends-plain (codes "end" ∷ []) end-alone) refl
            (within-take orders (length (map spell (lines_of answer))) (lines_of answer) within);
        wrong = no-end rest never;
        place = omega (arith, count-lines (lines_of answer));
      }

  -- behind `end` a line has more than white space
  bad-more : (place : ℕ) → HasMore rest place
      → IsBadWithoutLog orders (map spell (lines_of answer) ++ rest)
      (length (lines_of answer) + place)
  bad-more place has =
      let f = filled-at has.after has.behind has.filled in
      let front = map spell (lines_of answer) ++ has.end_line ∷ f.blanks in
      let count : length front ≡ length (lines_of answer) + 1 + has.behind =
      omega (
        arith,
        length-append (map spell (lines_of answer)) (has.end_line ∷ f.blanks),
        count-lines (lines_of answer),
        f.count,
      ) in
      record {
        no_log = no_log;
        front = front;
        rest = f.line ∷ f.more;
        parts = ap (λ l. map spell (lines_of answer) ++ l)
            (has.text ∙ ap (λ l. has.end_line ∷ l) f.parts)
            ∙ sym (append_assoc (map spell (lines_of answer)) (has.end_line ∷ f.blanks)
            (f.line ∷ f.more));
        right = record {
          answer = answer;
          more = [];
          spells = record {
            ending = has.end_line ∷ f.blanks;
            is = append-nil front;
            ends = ends-plain (has.end_line ∷ f.blanks) (record {
              end_line = has.end_line;
              after = f.blanks;
              is = refl;
              ended = has.ended;
              blank = f.blank;
            });
          };
          within = within-take orders (length front) (lines_of answer) within;
        };
        wrong = λ begins.
            let same : (front ++ f.line ∷ []) ++ begins.more
            ≡ map spell (lines_of answer) ++ has.end_line ∷ (f.blanks ++ f.line ∷ begins.more) =
            append_assoc front (f.line ∷ []) begins.more
            ∙ append_assoc (map spell (lines_of answer)) (has.end_line ∷ f.blanks)
            (f.line ∷ begins.more) in
            never-more answer has.end_line f.blanks f.line begins.more has.ended f.filled
            (ending-of answer begins.answer (has.end_line ∷ (f.blanks ++ f.line ∷ begins.more))
            (subst (Spells begins.answer) same begins.spells));
        place = omega (arith, has.is);
      }

  pub refused-end : (old : Reading) (error : AnswerTextError) → old.rest ≡ rest
      → old.read ≡ length (lines_of answer)
      → (LacksEnd rest → Never (MayFollow answer) rest) → RefusesEnding old error
      → IsRefused orders (map spell (lines_of answer) ++ rest) error
  refused-end old (BadLine number) here read never refuses =
      let at_place = by_cause refuses.0 (subst (λ r. IsBadEnding r refuses.0) here refuses.2) in
      let same : length (lines_of answer) + refuses.0 ≡ number =
      omega (arith, refuses.1) in
      inl (subst (IsBadWithoutLog orders (map spell (lines_of answer) ++ rest)) same at_place)
    where
      by_cause : (place : ℕ) → IsBadEnding rest place
          → IsBadWithoutLog orders (map spell (lines_of answer) ++ rest)
          (length (lines_of answer) + place)
      by_cause place (inl lacks) =
          subst (λ n. IsBadWithoutLog orders (map spell (lines_of answer) ++ rest)
          (length (lines_of answer) + n)) (sym lacks.1) (bad-end (never lacks.0))
      by_cause place (inr has) = bad-more place has
  refused-end old (NotRising number) here read never refuses = absurd refuses
  refused-end old (CountDiffers stated found) here read never refuses = absurd refuses
  refused-end old OutOfMemory here read never refuses = tt
