-- What each command's relation keeps: right outcomes agree, with a budget that is enough the status
-- isn't that of a feasible plan, and a run is handed out exactly with that status.
use Rattle.std.proofs.Common.{◌≡◌, ◌≢◌, ℕ, Bool, true, false, cond, List}
use Rattle.std.proofs.Common.{refl, sym, ap, ◌∙◌, subst, arith}
use Rattle.std.specs.Prelude.{Option, Some, None}
use Rattle.mill_model.specs.Instance.{Problem}
use Rattle.mill_model.specs.declared.limits.Limits.{Limits}
use Rattle.instance_text.proofs.Exact.{begins_once}
use Rattle.answer_text.specs.declared.answer.Answer.{Answer}
use Rattle.answer_text.specs.declared.answer.Answer.TheVariants.{Optimal, Feasible, Infeasible}
use Rattle.refute_log.specs.declared.piece.Run.{Run}
use Rattle.job_words.specs.declared.command.Command.{Command}
use Rattle.job_words.specs.declared.command.Command.TheVariants as command
use Rattle.job_words.specs.declared.job.Job.{Job}
use Rattle.reply_text.specs.declared.judgement.Judgement.{Judgement}
use Rattle.reply_text.specs.declared.outcome.Outcome.{Outcome}
use Rattle.reply_text.specs.declared.outcome.Outcome.TheVariants.{Solved, Judged, Drilled}
use Rattle.reply_text.specs.declared.solution.Solution.{Solution}
use Rattle.reply_text.specs.declared.status.TheConstants.{ACCEPTED, FEASIBLE, REJECTED}
use Rattle.reply_text.specs.Judgement.{is_accepted}
use Rattle.reply_text.specs.Outcome.{status_of, status_of_answer, run_of}
use Rattle.solve_answer.specs.Course.{Course, Scheduled}
use Rattle.solve_answer.specs.Solved.{HandsOut, IsSolution, IsSolved, IsProved, IsTold}
use Rattle.solve_answer.proofs.SolutionsAgree.{solutions-agree}
use Rattle.judge_answer.specs.Check.{IsSaidOf}
use Rattle.judge_answer.specs.Verify.{IsVerdictOn}
use Rattle.judge_answer.proofs.SaidOnce.{said-once, verdict-on-once}
use Rattle.slab_top.specs.Input.{Front, front, instance_alone, instance_with_answer}
use Rattle.slab_top.specs.Input.{instance_with_proof, instance_with_schedule}
use Rattle.slab_top.specs.Reply.{Replies, Tells}
use Rattle.slab_top.specs.Served.{Serves}
use Rattle.slab_top.specs.Solve.{Solves}
use Rattle.slab_top.specs.Prove.{Proves}
use Rattle.slab_top.specs.Replay.{Replays}
use Rattle.slab_top.specs.Run.{IsAbout, IsEnoughFor, IsInFront}
use Rattle.slab_top.specs.Threads.{course_of}
use Rattle.slab_top.specs.Check.{Checks}
use Rattle.slab_top.specs.Verify.{Verifies}
use Rattle.slab_top.specs.Drill.{made_by, Drills, IsSummary}
use Rattle.slab_top.specs.Agree.{AgreeOnOutcomes}
use Rattle.slab_top.proofs.Stages.{alone-decided, with-answer-decided, with-proof-decided}
use Rattle.slab_top.proofs.Stages.{with-schedule-decided}
use Rattle.slab_top.proofs.Replying.{tells-agree, replies-agree, replies-otherwise}
use Rattle.slab_top.proofs.Replying.{HandsOutRun, replies-hand-out}
use Rattle.slab_top.proofs.Drilling.{ending-status, summaries-agree, summary-run}

pub record IsCommand (About : Job → List ℕ → Problem → Type 0)
    (Serves : Job → List ℕ → Outcome → Type 0) : Type 0 where
  pub agree : (job : Job) (bytes : List ℕ) (a b : Outcome) → Serves job bytes a →
      Serves job bytes b → AgreeOnOutcomes a b
  pub with_enough : (job : Job) (bytes : List ℕ) (problem : Problem) (a : Outcome) →
      About job bytes problem → IsEnoughFor job.limits problem → Serves job bytes a →
      status_of a ≢ FEASIBLE
  pub hands_out : (job : Job) (bytes : List ℕ) (a : Outcome) → Serves job bytes a → HandsOutRun a

-- ---- commands that answer an instance

-- an answer isn't feasible where the budget is enough
solution-otherwise : (limits : Limits) (problem : Problem) (answer : Answer) →
    IsSolution limits problem answer → IsEnoughFor limits problem →
    status_of_answer answer ≢ FEASIBLE
solution-otherwise limits problem (Feasible loss plan spent) right enough e =
    let tree = right.1.below_tree in
    let less = tree.so in
    omega (arith, less, enough tree.bound tree.is_bound)
solution-otherwise limits problem answer right enough e = omega (arith, e)

-- an input that begins with an instance is read as this instance
front-is : (p : ℕ) (bytes : List ℕ) (problem : Problem) (read : Front) →
    IsInFront p bytes problem → (front p bytes).Reads read → problem ≡ read.problem
front-is p bytes problem read stands reads =
    (begins_once bytes problem read.problem stands.end read.end stands.begins reads.1
    (stands.colours ∙ sym reads.0)).0

-- a command that reads is about the instance in front of its input
abbrev InFront : Job → List ℕ → Problem → Type 0
InFront job bytes problem = IsInFront job.p bytes problem

-- the run behind an answer is handed out where it is feasible
answer-run : (limits : Limits) (course : Course) (problem : Problem) (answer : Answer)
    (run : Option Run) → HandsOut limits course problem answer run →
    HandsOutRun (Solved (record { answer = answer; run = run }))
answer-run limits course problem (Feasible loss plan spent) None is = absurd is
answer-run limits course problem (Feasible loss plan spent) (Some run) is = record {
  feasible = λ e. refl;
  otherwise = λ other. absurd (other refl);
}
answer-run limits course problem (Optimal loss plan log) run is = record {
  feasible = λ e. absurd (omega (arith, e));
  otherwise = λ other. is;
}
answer-run limits course problem (Infeasible place) run is = record {
  feasible = λ e. absurd (omega (arith, e));
  otherwise = λ other. is;
}

told-run : (limits : Limits) (course : Course) (problem : Problem) (solution : Solution) →
    IsTold limits course problem solution → HandsOutRun (Solved solution)
told-run limits course problem solution told =
    answer-run limits course problem solution.answer solution.run told.run

tells-run : (Is : Solution → Type 0) → ((solution : Solution) → Is solution →
    HandsOutRun (Solved solution)) → (a : Outcome) → Tells Solved Is a → HandsOutRun a
tells-run Is run a tells = subst HandsOutRun (sym tells.1) (run tells.0 tells.2)

-- answers of which some fact holds, by which they are right
module _ (Is : Limits → Problem → Solution → Type 0)
    (right : (limits : Limits) (problem : Problem) (solution : Solution) →
    Is limits problem solution → IsSolution limits problem solution.answer) where
  answers-agree : (limits : Limits) (problem : Problem) (a b : Outcome) →
      Tells Solved (Is limits problem) a → Tells Solved (Is limits problem) b →
      AgreeOnOutcomes a b
  answers-agree limits problem =
      tells-agree Solved (Is limits problem) (λ s t h k. solutions-agree limits problem s.answer
      t.answer (right limits problem s h) (right limits problem t k))

  answer-otherwise : (limits : Limits) (problem read : Problem) (a : Outcome) →
      problem ≡ read → IsEnoughFor limits problem → Tells Solved (Is limits read) a →
      status_of a ≢ FEASIBLE
  answer-otherwise limits problem read a same enough tells e =
      solution-otherwise limits read tells.0.answer (right limits read tells.0 tells.2)
      (subst (λ q. IsEnoughFor limits q) same enough) (sym (ap status_of tells.1) ∙ e)

-- those of an instance that stands alone
module _ (Is : Limits → Problem → Solution → Type 0)
    (told : (limits : Limits) (problem : Problem) (solution : Solution) →
    Is limits problem solution → IsTold limits (course_of limits) problem solution) where
  right : (limits : Limits) (problem : Problem) (solution : Solution) →
      Is limits problem solution → IsSolution limits problem solution.answer
  right limits problem solution is = (told limits problem solution is).solution

  alone-is-command : IsCommand InFront
      (λ job bytes. Replies (instance_alone job.p bytes)
      (λ problem. Tells Solved (Is job.limits problem)))
  alone-is-command = record {
    agree = λ job bytes. replies-agree (instance_alone job.p bytes)
        (λ problem. Tells Solved (Is job.limits problem)) (alone-decided job.p bytes)
        (λ read reads. answers-agree Is right job.limits read);
    with_enough = λ job bytes problem a stands enough.
        replies-otherwise (instance_alone job.p bytes)
        (λ problem. Tells Solved (Is job.limits problem)) a
        (λ read reads. answer-otherwise Is right job.limits problem read a
        (front-is job.p bytes problem reads.0 stands reads.1 ∙ sym reads.2.0) enough);
    hands_out = λ job bytes a.
        replies-hand-out (instance_alone job.p bytes)
        (λ problem. Tells Solved (Is job.limits problem)) a
        (λ read reads. tells-run (Is job.limits read) (λ solution is.
        told-run job.limits (course_of job.limits) read solution
        (told job.limits read solution is)) a);
  }

solve-is-command : IsCommand InFront Solves
solve-is-command =
    alone-is-command (λ limits. IsSolved limits (course_of limits))
    (λ limits problem solution is. is.told)

prove-is-command : IsCommand InFront Proves
prove-is-command =
    alone-is-command (λ limits. IsProved limits (course_of limits))
    (λ limits problem solution is. is.told)

replay-is-command : IsCommand InFront Replays
replay-is-command = record {
  agree = λ job bytes. replies-agree (instance_with_schedule job.p job.limits.workers bytes)
      (λ read. Tells Solved (IsProved job.limits (Scheduled read.1) read.0))
      (with-schedule-decided job.p job.limits.workers bytes)
      (λ read reads. answers-agree (λ limits. IsProved limits (Scheduled read.1))
      (λ limits problem solution is. is.told.solution) job.limits read.0);
  with_enough = λ job bytes problem a stands enough.
      replies-otherwise (instance_with_schedule job.p job.limits.workers bytes)
      (λ read. Tells Solved (IsProved job.limits (Scheduled read.1) read.0)) a
      (λ read reads. answer-otherwise (λ limits. IsProved limits (Scheduled read.1))
      (λ limits problem solution is. is.told.solution) job.limits problem read.0 a
      (front-is job.p bytes problem reads.0 stands reads.1 ∙ sym reads.2.0) enough);
  hands_out = λ job bytes a.
      replies-hand-out (instance_with_schedule job.p job.limits.workers bytes)
      (λ read. Tells Solved (IsProved job.limits (Scheduled read.1) read.0)) a
      (λ read reads. tells-run (IsProved job.limits (Scheduled read.1) read.0) (λ solution is.
      told-run job.limits (Scheduled read.1) read.0 solution is.told) a);
}

-- ---- commands that judge an answer

-- a judgement accepts or rejects
judged-otherwise : (Is : Judgement → Type 0) (a : Outcome) → Tells Judged Is a →
    status_of a ≢ FEASIBLE
judged-otherwise Is a tells e =
    by_test (is_accepted tells.0) (sym (ap status_of tells.1) ∙ e)
  where
    by_test : (b : Bool) → cond b ACCEPTED REJECTED ≡ FEASIBLE → ⊥
    by_test true is = omega (arith, is)
    by_test false is = omega (arith, is)

judged-run : (Is : Judgement → Type 0) (a : Outcome) → Tells Judged Is a → HandsOutRun a
judged-run Is a tells = record {
  feasible = λ e. absurd (judged-otherwise Is a tells e);
  otherwise = λ other. ap run_of tells.1;
}

check-is-command : IsCommand InFront Checks
check-is-command = record {
  agree = λ job bytes. replies-agree (instance_with_answer job.p bytes)
      (λ read. Tells Judged (IsSaidOf read.0 read.1)) (with-answer-decided job.p bytes)
      (λ read reads. tells-agree Judged (IsSaidOf read.0 read.1)
      (λ s t h k. ap Judged (said-once read.0 read.1 s t h k)));
  with_enough = λ job bytes problem a stands enough.
      replies-otherwise (instance_with_answer job.p bytes)
      (λ read. Tells Judged (IsSaidOf read.0 read.1)) a
      (λ read reads. judged-otherwise (IsSaidOf read.0 read.1) a);
  hands_out = λ job bytes a.
      replies-hand-out (instance_with_answer job.p bytes)
      (λ read. Tells Judged (IsSaidOf read.0 read.1)) a
      (λ read reads. judged-run (IsSaidOf read.0 read.1) a);
}

verify-is-command : IsCommand InFront Verifies
verify-is-command = record {
  agree = λ job bytes. replies-agree (instance_with_proof job.p bytes)
      (λ read. Tells Judged (IsVerdictOn read.0 read.1)) (with-proof-decided job.p bytes)
      (λ read reads. tells-agree Judged (IsVerdictOn read.0 read.1)
      (λ s t h k. ap Judged (verdict-on-once read.0 read.1 s t h k)));
  with_enough = λ job bytes problem a stands enough.
      replies-otherwise (instance_with_proof job.p bytes)
      (λ read. Tells Judged (IsVerdictOn read.0 read.1)) a
      (λ read reads. judged-otherwise (IsVerdictOn read.0 read.1) a);
  hands_out = λ job bytes a.
      replies-hand-out (instance_with_proof job.p bytes)
      (λ read. Tells Judged (IsVerdictOn read.0 read.1)) a
      (λ read reads. judged-run (IsVerdictOn read.0 read.1) a);
}

-- ---- the command that makes its instance

drill-is-command : IsCommand (λ job bytes problem. problem ≡ made_by job) (λ job bytes. Drills job)
drill-is-command = record {
  agree = λ job bytes. tells-agree Drilled (IsSummary job) (summaries-agree job);
  with_enough = λ job bytes problem a same enough tells e.
      (let is = tells.2 in
      solution-otherwise job.limits (made_by job) is.solution.answer is.solved.told.solution
      (subst (IsEnoughFor job.limits) same enough)
      (sym (ending-status is.solution.answer is.solution.run tells.0.ending is.ending)
      ∙ sym (ap status_of tells.1) ∙ e));
  hands_out = λ job bytes a tells. subst HandsOutRun (sym tells.1) (summary-run tells.0);
}

-- ---- one line for each

pub each-is-command : (command : Command) → IsCommand (IsAbout command) (Serves command)
each-is-command command.Solve = solve-is-command
each-is-command command.Prove = prove-is-command
each-is-command command.Check = check-is-command
each-is-command command.Verify = verify-is-command
each-is-command command.Replay = replay-is-command
each-is-command command.Drill = drill-is-command
