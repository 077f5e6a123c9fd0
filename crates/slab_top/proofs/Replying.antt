-- What a command answers agrees with all else that is right for the same input, if its stages are
-- decided and what it says of a value agrees.
use Rattle.std.proofs.Common.{◌≡◌, ◌≢◌, ℕ, Bool, true, false, cond, refl, sym, ap, ◌∙◌, subst}
use Rattle.std.proofs.Common.{◌⊎◌, inl, inr, arith}
use Rattle.std.specs.Prelude.{None, IsSome}
use Rattle.answer_text.specs.declared.answer.Answer.{Answer}
use Rattle.answer_text.specs.declared.answer.Answer.TheVariants.{Optimal, Feasible, Infeasible}
use Rattle.reply_text.specs.declared.outcome.Outcome.{Outcome}
use Rattle.reply_text.specs.declared.outcome.Outcome.TheVariants.{Refused, Solved, Judged}
use Rattle.reply_text.specs.declared.outcome.Outcome.TheVariants.{Drilled}
use Rattle.reply_text.specs.declared.status.TheConstants.{OPTIMAL, ACCEPTED, INFEASIBLE}
use Rattle.reply_text.specs.declared.status.TheConstants.{REFUSED, FEASIBLE, READ_FAULT}
use Rattle.reply_text.specs.declared.status.TheConstants.{WRITE_FAULT, OUT_OF_MEMORY, REJECTED}
use Rattle.reply_text.specs.declared.summary.Ending.{Ending}
use Rattle.reply_text.specs.declared.summary.Ending.TheVariants as ending
use Rattle.reply_text.specs.Judgement.{is_accepted}
use Rattle.reply_text.specs.Outcome as told
use Rattle.reply_text.specs.Summary.{status_of_ending}
use Rattle.solve_answer.specs.Solved.{AgreeOnAnswers}
use Rattle.slab_top.specs.Stage.{Stage, IsDecided}
use Rattle.slab_top.specs.Reply.{Replies, Tells}
use Rattle.slab_top.specs.Served.{Output, Answered, status_of}
use Rattle.slab_top.specs.Agree.{AgreeOnEndings, AgreeOnOutcomes, Agree, MayEndWith}
use Rattle.slab_top.specs.Agree.{MayEndWithAnswer}
use Rattle.slab_top.specs.Run.{IsStatus, IsOwnStatus}

-- ---- agreement

answer-agrees : (answer : Answer) → AgreeOnAnswers answer answer
answer-agrees (Optimal loss plan log) = refl
answer-agrees (Feasible loss plan spent) = refl
answer-agrees answer = refl

ending-agrees : (own : Ending) → AgreeOnEndings own own
ending-agrees (ending.Optimal loss) = refl
ending-agrees (ending.Feasible loss spent run) = refl

outcome-agrees : (a : Outcome) → AgreeOnOutcomes a a
outcome-agrees (Solved solution) = answer-agrees solution.answer
outcome-agrees (Drilled summary) = record {
  seed = refl;
  orders = refl;
  weight = refl;
  ending = ending-agrees summary.ending;
}
outcome-agrees a = refl

pub same-agree : (a b : Outcome) → a ≡ b → AgreeOnOutcomes a b
same-agree a b same = subst (λ other. AgreeOnOutcomes a other) same (outcome-agrees a)

-- what is told of one kind agrees where what is said does
pub tells-agree : {S : Type 0} (tell : S → Outcome) (Is : S → Type 0) →
    ((s t : S) → Is s → Is t → AgreeOnOutcomes (tell s) (tell t)) → (a b : Outcome) →
    Tells tell Is a → Tells tell Is b → AgreeOnOutcomes a b
tells-agree tell Is agree a b h k =
    subst (λ o. AgreeOnOutcomes o b) (sym h.1)
    (subst (λ o. AgreeOnOutcomes (tell h.0) o) (sym k.1) (agree h.0 k.0 h.2 k.2))

pub replies-agree : {A : Type 0} (stage : Stage A) (Says : A → Outcome → Type 0) →
    IsDecided stage → ((read : A) → stage.Reads read → (a b : Outcome) → Says read a →
    Says read b → AgreeOnOutcomes a b) → (a b : Outcome) → Replies stage Says a →
    Replies stage Says b → AgreeOnOutcomes a b
replies-agree stage Says decided agree a b (inl h) (inl k) =
    same-agree a b (h.1 ∙ ap Refused (decided.why h.0 k.0 h.2 k.2) ∙ sym k.1)
replies-agree stage Says decided agree a b (inl h) (inr k) =
    absurd (decided.apart k.0 h.0 k.1 h.2)
replies-agree stage Says decided agree a b (inr h) (inl k) =
    absurd (decided.apart h.0 k.0 h.1 k.2)
replies-agree stage Says decided agree a b (inr h) (inr k) =
    let same = decided.one h.0 k.0 h.1 k.1 in
    agree k.0 k.1 a b (subst (λ read. Says read a) same h.2) k.2

-- ---- statuses

-- an outcome's status tells of no failure
number-own : (status : ℕ) → IsStatus status → status ≢ READ_FAULT → status ≢ WRITE_FAULT →
    status ≢ OUT_OF_MEMORY → IsOwnStatus status
number-own status known read written memory = record {
  known = known;
  answered = record { read = read; written = written; memory = memory };
}

answer-own : (answer : Answer) → IsOwnStatus (told.status_of_answer answer)
answer-own (Optimal loss plan log) =
    number-own OPTIMAL refl (λ e. omega (arith, e)) (λ e. omega (arith, e)) (λ e. omega (arith, e))
answer-own (Feasible loss plan spent) =
    number-own FEASIBLE refl (λ e. omega (arith, e)) (λ e. omega (arith, e)) (λ e. omega (arith, e))
answer-own (Infeasible order) =
    number-own INFEASIBLE refl (λ e. omega (arith, e)) (λ e. omega (arith, e))
    (λ e. omega (arith, e))

judgement-own : (accepted : Bool) → IsOwnStatus (cond accepted ACCEPTED REJECTED)
judgement-own true =
    number-own ACCEPTED refl (λ e. omega (arith, e)) (λ e. omega (arith, e)) (λ e. omega (arith, e))
judgement-own false =
    number-own REJECTED refl (λ e. omega (arith, e)) (λ e. omega (arith, e)) (λ e. omega (arith, e))

ending-own : (own : Ending) → IsOwnStatus (status_of_ending own)
ending-own (ending.Optimal loss) =
    number-own OPTIMAL refl (λ e. omega (arith, e)) (λ e. omega (arith, e)) (λ e. omega (arith, e))
ending-own (ending.Feasible loss spent run) =
    number-own FEASIBLE refl (λ e. omega (arith, e)) (λ e. omega (arith, e)) (λ e. omega (arith, e))

pub outcome-own : (a : Outcome) → IsOwnStatus (told.status_of a)
outcome-own (Solved solution) = answer-own solution.answer
outcome-own (Drilled summary) = ending-own summary.ending
outcome-own (Judged judgement) = judgement-own (is_accepted judgement)
outcome-own (Refused why) =
    number-own REFUSED refl (λ e. omega (arith, e)) (λ e. omega (arith, e)) (λ e. omega (arith, e))

-- a refusal isn't feasible, so an outcome isn't if what is said of a value isn't
pub replies-otherwise : {A : Type 0} (stage : Stage A) (Says : A → Outcome → Type 0)
    (a : Outcome) → ((read : A) → stage.Reads read → Says read a →
    told.status_of a ≢ FEASIBLE) → Replies stage Says a → told.status_of a ≢ FEASIBLE
replies-otherwise stage Says a said (inl h) e =
    let refused = ap told.status_of h.1 in omega (arith, refused, e)
replies-otherwise stage Says a said (inr h) e = said h.0 h.1 h.2 e

-- a run is handed out exactly where the status is that of a feasible plan
pub record HandsOutRun (a : Outcome) : Type 0 where
  pub feasible : told.status_of a ≡ FEASIBLE → IsSome (told.run_of a)
  pub otherwise : told.status_of a ≢ FEASIBLE → told.run_of a ≡ None

-- with a refusal none is, so one is where it is with what is said of a value
pub replies-hand-out : {A : Type 0} (stage : Stage A) (Says : A → Outcome → Type 0)
    (a : Outcome) → ((read : A) → stage.Reads read → Says read a → HandsOutRun a) →
    Replies stage Says a → HandsOutRun a
replies-hand-out stage Says a said (inl h) =
    subst HandsOutRun (sym h.1) (record {
      feasible = λ e. absurd (omega (arith, e));
      otherwise = λ other. refl;
    })
replies-hand-out stage Says a said (inr h) = said h.0 h.1 h.2

-- a run may end with an output's own status, and with that of one that agrees with it
own-answer : (a : Answer) → MayEndWithAnswer a (told.status_of_answer a)
own-answer (Optimal loss plan log) = inl refl
own-answer (Feasible loss plan spent) = inr refl
own-answer (Infeasible place) = refl

own-ending : (own : Ending) →
    (status_of_ending own ≡ OPTIMAL) ⊎ (status_of_ending own ≡ FEASIBLE)
own-ending (ending.Optimal loss) = inl refl
own-ending (ending.Feasible loss spent run) = inr refl

own-status : (a : Output) → MayEndWith a (status_of a)
own-status (Answered (Solved solution)) = own-answer solution.answer
own-status (Answered (Drilled summary)) = own-ending summary.ending
own-status a = refl

same-status : (a b : Output) → a ≡ b → MayEndWith b (status_of a)
same-status a b same = subst (λ other. MayEndWith other (status_of a)) same (own-status a)

answer-status : (a b : Answer) → AgreeOnAnswers a b →
    MayEndWithAnswer b (told.status_of_answer a)
answer-status (Optimal loss plan log) (Optimal other slabs entries) agree = inl refl
answer-status (Optimal loss plan log) (Feasible other slabs spent) agree = inl refl
answer-status (Feasible loss plan spent) (Optimal other slabs entries) agree = inr refl
answer-status (Feasible loss plan spent) (Feasible other slabs closed) agree = inr refl
answer-status a b agree =
    subst (λ other. MayEndWithAnswer other (told.status_of_answer a)) agree (own-answer a)

outcome-status : (a b : Outcome) → AgreeOnOutcomes a b →
    MayEndWith (Answered b) (status_of (Answered a))
outcome-status (Solved a) (Solved b) agree = answer-status a.answer b.answer agree
outcome-status (Drilled a) (Drilled b) agree = own-ending a.ending
outcome-status a b agree = same-status (Answered a) (Answered b) (ap Answered agree)

pub agree-status : (a b : Output) → Agree a b → MayEndWith b (status_of a)
agree-status (Answered a) (Answered b) agree = outcome-status a b agree
agree-status a b agree = same-status a b agree
