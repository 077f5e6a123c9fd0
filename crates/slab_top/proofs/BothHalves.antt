-- What a search prints has one right answer from the other half of the program, between two jobs
-- and so between two runs.
use Rattle.std.specs.Prelude.{Some}
use Rattle.std.proofs.Common.{◌≡◌, ℕ, List, length, refl, sym, ap, ◌∙◌, subst, inl}
use Rattle.std.proofs.Common.{inr}
use Rattle.mill_model.specs.Instance.{Problem}
use Rattle.mill_model.specs.declared.limits.Limits.{Limits}
use Rattle.line_text.specs.Lines.{text_lines}
use Rattle.answer_text.specs.declared.answer.Answer.{Answer}
use Rattle.answer_text.specs.declared.answer.Answer.TheVariants.{Optimal, Feasible, Infeasible}
use Rattle.answer_text.specs.Text.{answer_text, IsAnswerText}
use Rattle.job_words.specs.declared.command.Command.{Command}
use Rattle.job_words.specs.declared.command.Command.TheVariants.{Solve, Prove, Check, Verify}
use Rattle.job_words.specs.declared.job.Job.{Job}
use Rattle.job_words.specs.Words.{AskFor, limit_of}
use Rattle.job_words.proofs.Grammar.{asked-only}
use Rattle.reply_text.specs.declared.outcome.Outcome.{Outcome}
use Rattle.reply_text.specs.declared.outcome.Outcome.TheVariants.{Solved}
use Rattle.reply_text.specs.declared.solution.Solution.{Solution}
use Rattle.solve_answer.specs.Solved.{IsSolved, IsProved}
use Rattle.slab_top.specs.Input.{whole_input, instance_alone, instance_with_answer}
use Rattle.slab_top.specs.Input.{ReadsWhole}
use Rattle.slab_top.specs.Reply.{Replies, Tells}
use Rattle.slab_top.specs.Served.{Serves, IsAnswer, IsRight, Output, Answered}
use Rattle.slab_top.specs.Served.{WrongWords}
use Rattle.slab_top.specs.Agree.{AgreeOnOutcomes}
use Rattle.slab_top.specs.Threads.{course_of}
use Rattle.slab_top.specs.BothHalves.{with_printed, verified_as, checked_as, IsOnlyAnswer}
use Rattle.slab_top.specs.BothHalves.{IsAnsweredBehind}
use Rattle.slab_top.specs.BothHalves.{IsOnlyRight, IsRightBehind}
use Rattle.slab_top.proofs.Limit.{as-read, whole-reads}
use Rattle.slab_top.proofs.Stages.{whole-decided}
use Rattle.slab_top.proofs.Replying.{replies-agree}
use Rattle.slab_top.proofs.EachCommand.{each-is-command}
use Rattle.slab_top.proofs.ReadBehind.{read-behind, checks-told, verifies-proved}

-- ---- the answer of the first job

solved-same : (a b : Solution) → Solved a ≡ Solved b → a ≡ b
solved-same a b same = cc

-- an input that is answered was served
served-answer : (job : Job) (input : List ℕ) (solution : Solution) →
    IsAnswer job input (Solved solution) → Serves job.command job input (Solved solution)
served-answer job input solution (inl refused) = (let other = refused.1 in absurd (cc))
served-answer job input solution (inr served) =
    (as-read (λ command bytes. Serves command job bytes (Solved solution)) (λ input bytes h. h)
    job.command input served.0 served.1).1 served.2

-- a search read an instance that stands alone, and this is right for it
record HasSearched (Is : Limits → Problem → Solution → Type 0) (job : Job) (input : List ℕ)
    (solution : Solution) : Type 0 where
  problem : Problem
  alone : (instance_alone job.p input).Reads problem
  right : Is job.limits problem solution

searched : (Is : Limits → Problem → Solution → Type 0) (job : Job) (input : List ℕ)
    (solution : Solution) →
    Replies (instance_alone job.p input) (λ problem. Tells Solved (Is job.limits problem))
    (Solved solution) → HasSearched Is job input solution
searched Is job input solution (inl refused) = (let other = refused.1 in absurd (cc))
searched Is job input solution (inr said) = record {
  problem = said.0;
  alone = said.1;
  right = subst (Is job.limits said.0) (sym (solved-same solution said.2.0 said.2.1)) said.2.2;
}

-- ---- the answer of the second job

-- each outcome but an answer agrees only with itself
abbrev AgreesWithNoOther : Outcome → Type 0
AgreesWithNoOther outcome = (other : Outcome) → AgreeOnOutcomes outcome other → outcome ≡ other

verified-itself : (answer : Answer) → AgreesWithNoOther (verified_as answer)
verified-itself (Optimal loss plan log) other same = same
verified-itself (Feasible loss plan spent) other same = same
verified-itself (Infeasible order) other same = same

checked-itself : (answer : Answer) → AgreesWithNoOther (checked_as answer)
checked-itself (Optimal loss plan log) other same = same
checked-itself (Feasible loss plan spent) other same = same
checked-itself (Infeasible order) other same = same

-- such an outcome that is right is the only right one
only-answer : (job : Job) (bytes : List ℕ) (outcome : Outcome) → AgreesWithNoOther outcome →
    IsAnswer job bytes outcome → IsOnlyAnswer job bytes outcome
only-answer job bytes outcome itself right other = (
  λ answered. sym (itself other (replies-agree (whole_input job bytes) (Serves job.command job)
      (whole-decided job bytes) (λ read reads. (each-is-command job.command).agree job read)
      outcome other right answered)),
  λ same. subst (IsAnswer job bytes) (sym same) right,
)

-- ---- both jobs

-- What a search answers, of which some fact holds, by which it reads back.
module _ (Is : Limits → Problem → Solution → Type 0)
    (reads_back : (limits : Limits) (problem : Problem) (solution : Solution) →
    Is limits problem solution → IsAnswerText (length problem.orders) solution.answer
    (text_lines (answer_text solution.answer))) (judge : Command)
    (outcome_for : Answer → Outcome)
    (judges : (limits : Limits) (problem : Problem) (job : Job) (bytes : List ℕ)
    (solution : Solution) → (instance_with_answer job.p bytes).Reads (problem, solution.answer) →
    Is limits problem solution → Serves judge job bytes (outcome_for solution.answer))
    (itself : (answer : Answer) → AgreesWithNoOther (outcome_for answer)) where
  -- behind any text of the instance it has this one answer,
  pub judged-behind : (job : Job) (text : List ℕ) (limits : Limits) (problem : Problem)
      (solution : Solution) → job.command ≡ judge → (instance_alone job.p text).Reads problem →
      Is limits problem solution →
      ReadsWhole (limit_of job.command) (with_printed text solution.answer) →
      IsOnlyAnswer job (with_printed text solution.answer) (outcome_for solution.answer)
  judged-behind job text limits problem solution judge_is alone right short =
      let answer = solution.answer in
      let bytes = with_printed text answer in
      let reads = read-behind job.p text problem answer alone
      (reads_back limits problem solution right) in
      let serves = judges limits problem job bytes solution reads right in
      only-answer job bytes (outcome_for answer) (itself answer) (inr (
        bytes,
        whole-reads (limit_of job.command) bytes short,
        subst (λ command. Serves command job bytes (outcome_for answer)) (sym judge_is) serves,
      ))

  -- and so behind the input of the search.
  answered-behind : (search : Command) → ((job : Job) (input : List ℕ) (solution : Solution) →
      Serves search job input (Solved solution) → HasSearched Is job input solution) →
      IsAnsweredBehind search judge outcome_for
  answered-behind search searches first second input solution search_is judge_is given =
      let found = searches first input solution (subst (λ command. Serves command first input
      (Solved solution)) search_is (served-answer first input solution given.answered)) in
      judged-behind second input first.limits found.problem solution judge_is
      (subst (λ p. (instance_alone p input).Reads found.problem) (sym given.colours) found.alone)
      found.right given.short

pub verify-behind-prove : IsAnsweredBehind Prove Verify verified_as
verify-behind-prove =
    answered-behind (λ limits. IsProved limits (course_of limits))
    (λ limits problem solution is. is.told.reads_back) Verify verified_as
    (λ limits problem job bytes solution reads is.
    verifies-proved limits problem (course_of limits) job bytes solution.answer solution.run reads
    is)
    verified-itself Prove (searched (λ limits. IsProved limits (course_of limits)))

pub check-behind-prove : IsAnsweredBehind Prove Check checked_as
check-behind-prove =
    answered-behind (λ limits. IsProved limits (course_of limits))
    (λ limits problem solution is. is.told.reads_back) Check checked_as
    (λ limits problem job bytes solution reads is.
    checks-told limits problem job bytes solution.answer reads is.told.solution) checked-itself
    Prove (searched (λ limits. IsProved limits (course_of limits)))

pub check-behind-solve : IsAnsweredBehind Solve Check checked_as
check-behind-solve =
    answered-behind (λ limits. IsSolved limits (course_of limits))
    (λ limits problem solution is. is.told.reads_back) Check checked_as
    (λ limits problem job bytes solution reads is.
    checks-told limits problem job bytes solution.answer reads is.told.solution) checked-itself
    Solve (searched (λ limits. IsSolved limits (course_of limits)))

-- ---- two runs

-- what is right for words of a job is what the job answers
answer-for : (words : List (List ℕ)) (job : Job) (bytes : List ℕ) (outcome : Outcome) →
    AskFor words job → IsRight words (Some bytes) (Answered outcome) → IsAnswer job bytes outcome
answer-for words job bytes outcome asked right =
    let served = right.2 in
    subst (λ (j : Job). IsAnswer j bytes outcome) (asked-only words right.0 job right.1 asked)
    (subst (λ input. IsAnswer right.0 input outcome) (sym served.given) served.answer)

right-for : (words : List (List ℕ)) (job : Job) (bytes : List ℕ) (outcome : Outcome) →
    AskFor words job → IsAnswer job bytes outcome → IsRight words (Some bytes) (Answered outcome)
right-for words job bytes outcome asked answered =
    (job, asked, record { input = bytes; given = refl; answer = answered })

only-right : (words : List (List ℕ)) (job : Job) (bytes : List ℕ) (outcome : Outcome) →
    AskFor words job → IsOnlyAnswer job bytes outcome → IsOnlyRight words bytes outcome
only-right words job bytes outcome asked only output = (
  by_output output,
  λ same. subst (IsRight words (Some bytes)) (sym same)
      (right-for words job bytes outcome asked ((only outcome).1 refl)),
)
  where
    by_output : (output : Output) → IsRight words (Some bytes) output →
        output ≡ Answered outcome
    by_output WrongWords right = absurd (right job asked)
    by_output (Answered other) right =
        ap Answered ((only other).0 (answer-for words job bytes other asked right))

-- a law between jobs is one between runs
pub right-behind : (search judge : Command) (outcome_for : Answer → Outcome) →
    IsAnsweredBehind search judge outcome_for → IsRightBehind search judge outcome_for
right-behind search judge outcome_for law first second p input solution one two right short =
    let bytes = with_printed input solution.answer in
    only-right second two.job bytes (outcome_for solution.answer) two.asked
    (law one.job two.job input solution one.command_is two.command_is (record {
      answered = answer-for first one.job input (Solved solution) one.asked right;
      colours = two.colours ∙ sym one.colours;
      short = subst (λ command. ReadsWhole (limit_of command) bytes) (sym two.command_is) short;
    }))
