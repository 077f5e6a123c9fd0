-- `drill`: an ending that a search has, the status and the run of a summary, and that two summaries
-- of a job agree.
use Rattle.std.specs.Prelude.{Option, Some, None, IsSome}
use Rattle.std.proofs.Common.{◌≡◌, ◌≢◌, refl, sym, ap, ◌∙◌, subst, arith}
use Rattle.mill_model.specs.Heavy.{NoneHeavy}
use Rattle.mill_model.specs.Instance.{Problem, largest}
use Rattle.mill_model.specs.declared.limits.Limits.{Limits}
use Rattle.instance_facts.proofs.HeavyOnce.{heavy-or-none}
use Rattle.answer_text.specs.declared.answer.Answer.{Answer}
use Rattle.answer_text.specs.declared.answer.Answer.TheVariants as answer
use Rattle.refute_log.specs.declared.piece.Run.{Run}
use Rattle.job_words.specs.declared.job.Job.{Job}
use Rattle.reply_text.specs.declared.outcome.Outcome.TheVariants.{Drilled}
use Rattle.reply_text.specs.declared.solution.Solution.{Solution}
use Rattle.reply_text.specs.declared.status.TheConstants.{FEASIBLE}
use Rattle.reply_text.specs.declared.summary.Ending.{Ending}
use Rattle.reply_text.specs.declared.summary.Ending.TheVariants.{Optimal, Feasible}
use Rattle.reply_text.specs.declared.summary.Summary.{Summary}
use Rattle.reply_text.specs.Outcome.{status_of_answer}
use Rattle.reply_text.specs.Summary.{status_of_ending, run_behind}
use Rattle.solve_answer.specs.Course.{Course}
use Rattle.solve_answer.specs.Solved.{AgreeOnAnswers, HandsOut, IsSolution, IsTold}
use Rattle.solve_answer.proofs.SolutionsAgree.{solutions-agree}
use Rattle.slab_top.specs.Drill.{made_by, IsEndingOf, IsSummary}
use Rattle.slab_top.specs.Agree.{AgreeOnEndings, AgreeOnSummaries}
use Rattle.slab_top.proofs.Replying.{HandsOutRun}

-- a search of an instance without a heavy order has an ending
ending-for : (limits : Limits) (course : Course) (problem : Problem) (told : Answer)
    (run : Option Run) → NoneHeavy (largest problem.sizes) problem.orders →
    IsSolution limits problem told → HandsOut limits course problem told run →
    (ending : Ending) × IsEndingOf told run ending
ending-for limits course problem (answer.Optimal loss plan log) run light right hands =
    (Optimal loss, refl)
ending-for limits course problem (answer.Feasible loss plan spent) None light right hands =
    absurd hands
ending-for limits course problem (answer.Feasible loss plan spent) (Some run) light right hands =
    (Feasible loss spent run, refl)
ending-for limits course problem (answer.Infeasible place) run light right hands =
    absurd (heavy-or-none problem place right light)

pub has-ending : (limits : Limits) (course : Course) (problem : Problem) (solution : Solution) →
    NoneHeavy (largest problem.sizes) problem.orders → IsTold limits course problem solution →
    (ending : Ending) × IsEndingOf solution.answer solution.run ending
has-ending limits course problem solution light told =
    ending-for limits course problem solution.answer solution.run light told.solution told.run

-- ---- its status and its run

pub ending-status : (told : Answer) (run : Option Run) (ending : Ending) →
    IsEndingOf told run ending → status_of_ending ending ≡ status_of_answer told
ending-status (answer.Optimal loss plan log) run ending is = ap status_of_ending is
ending-status (answer.Feasible loss plan spent) None ending is = absurd is
ending-status (answer.Feasible loss plan spent) (Some run) ending is = ap status_of_ending is
ending-status (answer.Infeasible place) run ending is = absurd is

ending-run : (ending : Ending) →
    (status_of_ending ending ≡ FEASIBLE → IsSome (run_behind ending))
    × (status_of_ending ending ≢ FEASIBLE → run_behind ending ≡ None)
ending-run (Optimal loss) = (λ e. absurd (omega (arith, e)), λ other. refl)
ending-run (Feasible loss spent run) = (λ e. refl, λ other. absurd (other refl))

pub summary-run : (summary : Summary) → HandsOutRun (Drilled summary)
summary-run summary = record {
  feasible = (ending-run summary.ending).0;
  otherwise = (ending-run summary.ending).1;
}

-- ---- two summaries

both-are : (a b e f : Ending) → a ≡ e → b ≡ f → AgreeOnEndings e f → AgreeOnEndings a b
both-are a b e f one two agree =
    subst (λ a. AgreeOnEndings a b) (sym one)
    (subst (λ b. AgreeOnEndings e b) (sym two) agree)

endings-agree : (told other : Answer) (run left : Option Run) (a b : Ending) →
    IsEndingOf told run a → IsEndingOf other left b → AgreeOnAnswers told other →
    AgreeOnEndings a b
endings-agree (answer.Infeasible place) other run left a b one two agree = absurd one
endings-agree told (answer.Infeasible place) run left a b one two agree = absurd two
endings-agree (answer.Feasible loss plan spent) other None left a b one two agree = absurd one
endings-agree told (answer.Feasible loss plan spent) run None a b one two agree = absurd two
endings-agree (answer.Optimal loss plan log) (answer.Optimal less slabs entries) run left a b
    one two agree =
    both-are a b (Optimal loss) (Optimal less) one two agree
endings-agree (answer.Optimal loss plan log) (answer.Feasible more slabs spent) run (Some left)
    a b one two agree =
    both-are a b (Optimal loss) (Feasible more spent left) one two agree
endings-agree (answer.Feasible loss plan spent) (answer.Optimal less slabs log) (Some run) left
    a b one two agree =
    both-are a b (Feasible loss spent run) (Optimal less) one two agree
endings-agree (answer.Feasible loss plan spent) (answer.Feasible other slabs closed) (Some run)
    (Some left) a b one two agree =
    both-are a b (Feasible loss spent run) (Feasible other closed left) one two agree

pub summaries-agree : (job : Job) (a b : Summary) → IsSummary job a → IsSummary job b →
    AgreeOnSummaries a b
summaries-agree job a b one two = record {
  seed = one.seed ∙ sym two.seed;
  orders = one.orders ∙ sym two.orders;
  weight = one.weight ∙ sym two.weight;
  ending = endings-agree one.solution.answer two.solution.answer one.solution.run
      two.solution.run a.ending b.ending one.ending two.ending
      (solutions-agree job.limits (made_by job) one.solution.answer two.solution.answer
      one.solved.told.solution two.solved.told.solution);
}
