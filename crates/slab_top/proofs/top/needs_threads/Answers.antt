-- Words need threads where the one job that they ask for does.
use Rattle.std.proofs.Common.{◌≡◌, ◌<◌, ◌∙◌, true, false, lt-ltb, ltb-true, sym, subst}
use Rattle.job_words.specs.declared.job.Job.{Job}
use Rattle.slab_top.proofs.top.needs_threads.Goals as goal

pub returns-then-lets_run : goal.returns-then-lets_run
returns-then-lets_run c = (
  λ more. record {
    job = c.in-Ok.job;
    asked = c.in-Ok.ensures.job;
    needs = record {
      runs = sym c.lets_run.ensures ∙ c.if-lets_run.true;
      more = ltb-true 1 c.in-Ok.job.limits.workers more;
    };
  },
  λ need. (let same : need.job ≡ c.in-Ok.job =
      (let asked = c.in-Ok.ensures.asked need.job need.asked in cc) in
      lt-ltb 1 c.in-Ok.job.limits.workers
      (subst (λ (job : Job). 1 < job.limits.workers) same need.needs.more)),
)

pub returns-in-Err : goal.returns-in-Err
returns-in-Err c = (
  λ e. (let clash : false ≡ true = e in absurd (cc)),
  λ need. (let asked = c.in-Err.ensures.asked need.job need.asked in absurd (cc)),
)
