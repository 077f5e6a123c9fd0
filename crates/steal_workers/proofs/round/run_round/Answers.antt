use Rattle.std.proofs.lemmas.Result.{IfOk-weaker}
use Rattle.search_step.specs.Promise.{records_of}
use Rattle.core_machine.proofs.InTree.{unclosed-in-tree}
use Rattle.steal_workers.proofs.Ends.{may-end}
use Rattle.steal_workers.proofs.GoesOn.{round-at-most, round-goes-on, round-resumable}
use Rattle.steal_workers.proofs.round.run_round.Goals as goal

pub begin-requires-clause-tree : goal.begin-requires-clause-tree
begin-requires-clause-tree g c =
    unclosed-in-tree c.args.ranked.now c.args.charges.now (records_of c.args.run)
    c.args.run.unclosed.items c.requires.resumable.conserved

pub end_round-requires : goal.end_round-requires
end_round-requires g c =
    may-end c.args.ranked.now c.args.charges.now c.in_ok-round.field-0.round c.args.limits.workers
    _ _ c.args.run.unclosed.items c.in_ok-round.field-0.jobs.items c.in_ok-ends.ends.items
    c.requires.some c.in_ok-round.ensures.round c.in_ok-round.ensures.jobs c.in_ok-ends.ensures

pub returns-clause-resumable : goal.returns-clause-resumable
returns-clause-resumable g c =
    IfOk-weaker c.end_round.result _ _
    (λ run ended. round-resumable c.args.ranked.now c.args.charges.now c.args.limits.workers
    c.args.limits.nodes c.args.run c.requires.some c.requires.nodes c.requires.drawn
    c.requires.resumable c.in_ok-round.field-0.round c.in_ok-round.ensures.round
    c.in_ok-round.field-0.jobs.items c.in_ok-round.ensures.jobs c.in_ok-ends.ends.items
    c.in_ok-ends.ensures run ended)
    c.end_round.ensures

pub returns-clause-goes_on : goal.returns-clause-goes_on
returns-clause-goes_on g c =
    IfOk-weaker c.end_round.result _ _
    (λ run ended. round-goes-on c.args.ranked.now c.args.charges.now c.args.limits.workers
    c.args.limits.nodes c.args.run c.requires.some c.requires.nodes c.requires.drawn
    c.requires.resumable c.in_ok-round.field-0.round c.in_ok-round.ensures.round
    c.in_ok-round.field-0.jobs.items c.in_ok-round.ensures.jobs c.in_ok-ends.ends.items
    c.in_ok-ends.ensures run ended)
    c.end_round.ensures

pub returns-clause-at_most : goal.returns-clause-at_most
returns-clause-at_most g c =
    IfOk-weaker c.end_round.result _ _
    (λ run ended. round-at-most c.args.ranked.now c.args.charges.now c.args.limits.workers
    c.args.limits.nodes c.args.run c.requires.some c.requires.nodes c.requires.drawn
    c.requires.resumable c.in_ok-round.field-0.round c.in_ok-round.ensures.round
    c.in_ok-round.field-0.jobs.items c.in_ok-round.ensures.jobs c.in_ok-ends.ends.items
    c.in_ok-ends.ensures run ended)
    c.end_round.ensures
