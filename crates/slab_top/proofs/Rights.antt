-- Outputs that are right for words and bytes: what was served is right, and it agrees with each
-- other output that is.
use Rattle.std.specs.Prelude.{Option, Some, None, IfSome, IsSome, replicate}
use Rattle.std.specs.Io.KnownBytes.{Consumes, IsAtEnd}
use Rattle.std.proofs.KnownBytes.{Consumes-whole}
use Rattle.std.proofs.Common.{◌≡◌, ◌≢◌, ℕ, suc, ◌≤◌, List, [], length, refl, sym, ◌∙◌, subst}
use Rattle.std.proofs.Common.{arith, inl, inr}
use Rattle.std.proofs.lemmas.Bool.{cases_order}
use Rattle.std.proofs.lemmas.List.{length-replicate}
use Rattle.mill_io.specs.Bytes.{HasMoreThan}
use Rattle.mill_model.specs.Instance.{Problem}
use Rattle.refute_log.specs.declared.piece.Run.{Run}
use Rattle.job_words.specs.declared.job.Job.{Job}
use Rattle.job_words.specs.Words.{AskFor, limit_of}
use Rattle.reply_text.specs.declared.outcome.Outcome.{Outcome}
use Rattle.reply_text.specs.declared.outcome.Outcome.TheVariants.{Refused}
use Rattle.reply_text.specs.declared.refusal.Refusal.TheVariants.{TooLong}
use Rattle.reply_text.specs.declared.status.TheConstants.{FEASIBLE, WRITE_FAULT}
use Rattle.reply_text.specs.Outcome.{status_of, run_of}
use Rattle.slab_top.specs.Input.{whole_input, ReadsWhole}
use Rattle.slab_top.specs.Served.{Serves, IsAnswer, IsServed, Output, WrongWords, Answered, IsRight}
use Rattle.slab_top.specs.Agree.{AgreeOnOutcomes, Agree}
use Rattle.slab_top.specs.Run.{HasEnough, IsAbout, IsEnoughFor, IsToBeRead}
use Rattle.slab_top.proofs.Limit.{as-read, is-within, not-whole, reads-all, reads-nothing}
use Rattle.slab_top.proofs.Limit.{refuses-long}
use Rattle.slab_top.proofs.Stages.{whole-decided}
use Rattle.slab_top.proofs.Replying.{replies-agree, replies-otherwise}
use Rattle.slab_top.proofs.Replying.{HandsOutRun, replies-hand-out}
use Rattle.slab_top.proofs.EachCommand.{each-is-command}

-- ---- one input

answers-agree : (job : Job) (input : List ℕ) (a b : Outcome) → IsAnswer job input a →
    IsAnswer job input b → AgreeOnOutcomes a b
answers-agree job input =
    replies-agree (whole_input job input) (Serves job.command job) (whole-decided job input)
    (λ bytes reads. (each-is-command job.command).agree job bytes)

not-feasible : (job : Job) (input : List ℕ) (problem : Problem) (a : Outcome) →
    IsAbout job.command job input problem → IsEnoughFor job.limits problem →
    IsAnswer job input a → status_of a ≢ FEASIBLE
not-feasible job input problem a about budget =
    replies-otherwise (whole_input job input) (Serves job.command job) a
    (λ bytes reads. (each-is-command job.command).with_enough job bytes problem a
    ((as-read (λ command given. IsAbout command job given problem) (λ input bytes h. h)
    job.command input bytes reads).0 about) budget)

-- a run is handed out exactly with a feasible answer
pub served-run : (job : Job) (left : Option (List ℕ)) (a : Outcome) → IsServed job left a →
    HandsOutRun a
served-run job left a served =
    replies-hand-out (whole_input job served.input) (Serves job.command job) a
    (λ bytes reads. (each-is-command job.command).hands_out job bytes a) served.answer

-- so none is kept with another status, that of a failed write among them
pub none-kept : (a : Outcome) (status : ℕ) (run : Option Run) → HandsOutRun a →
    (status ≢ WRITE_FAULT → status ≡ status_of a) → (status ≢ WRITE_FAULT → run ≡ run_of a) →
    (status ≡ WRITE_FAULT → run ≡ None) → status ≢ FEASIBLE → run ≡ None
none-kept a status run hands is written failed other = elim (cases_order status WRITE_FAULT) [
  | inl same ↦ failed same
  | inr rest ↦ (let apart : status ≢ WRITE_FAULT = λ same. elim rest [
    | inl less ↦ omega (arith, same, less)
    | inr more ↦ omega (arith, same, more)
  ] in
      written apart ∙ hands.otherwise (λ feasible. other (is apart ∙ feasible)))
]

-- ---- the bytes to come

-- all that was read to the end is what was given
pub served-whole : (job : Job) (limit : ℕ) (left new : Option (List ℕ)) (input : List ℕ)
    (outcome : Outcome) → limit_of job.command ≡ Some limit → Consumes left new input →
    IsAtEnd new → length input ≤ limit → Serves job.command job input outcome →
    IsServed job left outcome
served-whole job limit left new input outcome limited read end within serves = record {
  input = input;
  given = Consumes-whole left new input (λ told. told ≡ input) read end refl;
  answer = inr (input, reads-all job input limit limited within, serves);
}

-- more was given than the limit
pub served-long : (job : Job) (limit : ℕ) (left : Option (List ℕ)) →
    limit_of job.command ≡ Some limit → HasMoreThan limit left →
    IsServed job left (Refused (TooLong limit))
served-long job limit None limited more =
    let n = suc limit in
    let count = length-replicate {A = ℕ} n 0 in
    record {
      input = replicate n 0;
      given = tt;
      answer =
          inl (TooLong limit, refl, refuses-long job (replicate n 0) limit limited (omega arith));
    }
served-long job limit (Some told) limited more = record {
  input = told;
  given = refl;
  answer = inl (TooLong limit, refl, refuses-long job told limit limited more);
}

-- and then it isn't to be read whole
pub long-not-whole : (job : Job) (limit : ℕ) (left : Option (List ℕ)) (Ended : Type 0) →
    limit_of job.command ≡ Some limit → HasMoreThan limit left →
    IfSome left (λ input. ReadsWhole (limit_of job.command) input → Ended)
long-not-whole job limit None Ended limited more = tt
long-not-whole job limit (Some told) Ended limited more =
    λ whole. absurd (omega (arith, more, is-within job told limit limited whole))

-- nothing is read, whatever is to come
pub served-unread : (job : Job) (left : Option (List ℕ)) (outcome : Outcome) →
    limit_of job.command ≡ None → Serves job.command job [] outcome → IsServed job left outcome
served-unread job None outcome unlimited serves = record {
  input = [];
  given = tt;
  answer = inr ([], reads-nothing job [] unlimited, serves);
}
served-unread job (Some told) outcome unlimited serves = record {
  input = told;
  given = refl;
  answer = inr ([], reads-nothing job told unlimited, serves);
}

pub unread-not-whole : (job : Job) (left : Option (List ℕ)) (Ended : Type 0) →
    limit_of job.command ≡ None →
    IfSome left (λ input. ReadsWhole (limit_of job.command) input → Ended)
unread-not-whole job None Ended unlimited = tt
unread-not-whole job (Some told) Ended unlimited =
    λ whole. absurd (not-whole job told unlimited whole)

-- two outcomes for the same told bytes
served-agree : (job : Job) (left : Option (List ℕ)) (own other : Outcome) → IsSome left →
    IsServed job left own → IsServed job left other → AgreeOnOutcomes own other
served-agree job None own other told served right = absurd (cc)
served-agree job (Some input) own other told served right =
    answers-agree job input own other
    (subst (λ bytes. IsAnswer job bytes own) (sym served.given) served.answer)
    (subst (λ bytes. IsAnswer job bytes other) (sym right.given) right.answer)

-- ---- the words

-- They ask for one job.
module _ (words : List (List ℕ)) (job : Job) (left : Option (List ℕ))
    (only : (other : Job) → AskFor words other → other ≡ job) where
  -- the output agrees with each other that is right,
  pub right-agree : (own : Outcome) (output : Output) → AskFor words job → IsSome left →
      IsServed job left own → IsRight words left output → Agree (Answered own) output
  right-agree own WrongWords asked told served right = absurd (right job asked)
  right-agree own (Answered other) asked told served right =
      served-agree job left own other told served
      (subst (λ j. IsServed j left other) (only right.0 right.1) right.2)

  -- it isn't feasible where the budget is enough,
  pub enough-served : (own : Outcome) (status : ℕ) → IsServed job left own →
      (status ≢ WRITE_FAULT → status ≡ status_of own) →
      IfSome left (λ input. HasEnough words input → status ≢ FEASIBLE)
  enough-served = by_left left
    where
      by_left : (left : Option (List ℕ)) (own : Outcome) (status : ℕ) → IsServed job left own →
          (status ≢ WRITE_FAULT → status ≡ status_of own) →
          IfSome left (λ input. HasEnough words input → status ≢ FEASIBLE)
      by_left None own status served is = tt
      by_left (Some input) own status served is = λ has e.
          let same = only has.job has.asked in
          not-feasible job served.input has.problem own
          (subst (λ bytes. IsAbout job.command job bytes has.problem) served.given
          (subst (λ (j : Job). IsAbout j.command j input has.problem) same has.about))
          (subst (λ (j : Job). IsEnoughFor j.limits has.problem) same has.budget)
          served.answer
          (sym (is (λ failed. omega (arith, e, failed))) ∙ e)

  -- and what was read for it was read for the words
  pub ended-for : (Ended : Type 0) →
      IfSome left (λ input. ReadsWhole (limit_of job.command) input → Ended) →
      IfSome left (λ input. IsToBeRead words input → Ended)
  ended-for = by_left left
    where
      by_left : (left : Option (List ℕ)) (Ended : Type 0) →
          IfSome left (λ input. ReadsWhole (limit_of job.command) input → Ended) →
          IfSome left (λ input. IsToBeRead words input → Ended)
      by_left None Ended ended = tt
      by_left (Some input) Ended ended =
          λ read. ended (subst (λ (j : Job). ReadsWhole (limit_of j.command) input)
          (only read.job read.asked) read.within)

-- They ask for none.
module _ (words : List (List ℕ)) (left : Option (List ℕ))
    (none : (job : Job) → AskFor words job → ⊥) where
  pub wrong-agree : (output : Output) → IsRight words left output → Agree WrongWords output
  wrong-agree WrongWords right = refl
  wrong-agree (Answered other) right = absurd (none right.0 right.1)

  pub unread-for : (Ended : Type 0) → IfSome left (λ input. IsToBeRead words input → Ended)
  unread-for = by_left left
    where
      by_left : (left : Option (List ℕ)) (Ended : Type 0) →
          IfSome left (λ input. IsToBeRead words input → Ended)
      by_left None Ended = tt
      by_left (Some input) Ended = λ read. absurd (none read.job read.asked)
