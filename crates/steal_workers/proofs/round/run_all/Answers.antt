use Rattle.std.proofs.Common.{rules, ◌≡◌, ap, get_or, length, map, subst, sym, IfOk}
use Rattle.std.proofs.lemmas.List.{length-map}
use Rattle.std.proofs.lemmas.Result.{IfOk-weaker}
use Rattle.running_worker.specs.Worked.{HasWorked}
use Rattle.steal_workers.proofs.Ends.{all-worked, ended}
use Rattle.steal_workers.proofs.round.run_all.Goals as goal

pub returns : goal.returns
returns g c =
    IfOk-weaker c.all_ends.result (λ ends. c.in_ok-results.results.items ≡ map ended ends.items) _
    (λ ends e. all-worked c.args.ranked.now c.args.charges.now c.args.round.now c.args.jobs.items
    ends.items (search (rules, ap length e, length-map ends.items ended))
    (λ i d r l.
    let k = c.in_ok-results.ensures.each i r l in
    subst (λ job. IfOk (get_or (map ended ends.items) i r)
    (HasWorked c.args.ranked.now c.args.charges.now c.args.round.now job)) (sym (k.1.job_is d))
    (subst (λ rs. IfOk (get_or rs i r)
    (HasWorked c.args.ranked.now c.args.charges.now c.args.round.now k.1.job)) e
    k.1.call.met))) c.all_ends.ensures
