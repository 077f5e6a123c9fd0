-- The schedule that was read names workers of the job alone.
use Rattle.std.proofs.Common.{◌<◌, refl, sym, inr, subst}
use Rattle.std.specs.List.{AllByRecursion}
use Rattle.job_words.specs.declared.option.Setting.TheVariants.{Workers, Nodes}
use Rattle.schedule_text.proofs.Decided.{schedule-below}
use Rattle.solve_answer.specs.Course.{Scheduled}
use Rattle.solve_answer.specs.Solved.{IsProved}
use Rattle.slab_top.proofs.commands.replay.serve.Goals as goal

pub prove-requires-clause-some : goal.prove-requires-clause-some
prove-requires-clause-some c = (c.requires.in_range Workers).0

pub prove-requires-clause-few : goal.prove-requires-clause-few
prove-requires-clause-few c = (c.requires.in_range Workers).1

pub prove-requires-clause-nodes : goal.prove-requires-clause-nodes
prove-requires-clause-nodes c = (c.requires.in_range Nodes).1

pub prove-requires-clause-numbers : goal.prove-requires-clause-numbers
prove-requires-clause-numbers c =
    subst (AllByRecursion (λ worker. worker < c.args.job.limits.workers))
    (sym c.deref.ensures.value)
    (schedule-below c.args.job.limits.workers _ c.in_ok-instance.schedule.items
    c.in_ok-instance.ensures.2.1)

pub returns-clause-reply : goal.returns-clause-reply
returns-clause-reply c =
    let schedule = c.in_ok-instance.schedule.items in
    inr (
      (c.in_ok-instance.instance, schedule),
      c.in_ok-instance.ensures,
      (
        c.in_ok-solution.solution,
        refl,
        subst (λ given. IsProved c.args.job.limits (Scheduled given) c.in_ok-instance.instance
            c.in_ok-solution.solution) c.deref.ensures.value c.in_ok-solution.ensures.is,
      ),
    )
