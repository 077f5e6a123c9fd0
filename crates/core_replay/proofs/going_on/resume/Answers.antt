-- The crew begins with what the run left; what it leaves is what the machine leaves from there.
use Rattle.std.proofs.Common.{◌≡◌, ◌++◌, sym, subst, ap}
use Rattle.std.specs.List.{AllByRecursion}
use Rattle.order_symmetry.specs.Ranked.{RankedOrders}
use Rattle.refute_log.specs.declared.piece.Run.{Run}
use Rattle.search_step.specs.Promise.{IsRun, records_of}
use Rattle.search_step.specs.Serving.{IsPathOf}
use Rattle.core_machine.specs.Core.{pieces_of, unclosed_of}
use Rattle.core_machine.specs.Kept.{best_of}
use Rattle.core_replay.specs.Crew.{CrewState, entries_of}
use Rattle.search_step.specs.Resumable.{start_of}
use Rattle.core_replay.specs.Resumed.{IsResumed}
use Rattle.core_replay.proofs.CrewEnds.{all-given}
use Rattle.core_replay.proofs.Resuming.{in-another-way, in-four-ways, numbers-first, ready-first}
use Rattle.core_replay.proofs.Resuming.{resumed-count, resumed-from, resumed-goes-on, resumed-run}
use Rattle.core_replay.proofs.Resuming.{rounds-made, tree}
use Rattle.core_replay.proofs.going_on.resume.Goals as goal

pub give_all-requires : goal.give_all-requires
give_all-requires c =
    subst (λ (r : RankedOrders). AllByRecursion (IsPathOf r) c.args.run.unclosed.items)
    (sym (ap (λ (s : CrewState). s.ranked) c.in_ok-crew.ensures))
    (tree c.args.ranked.now c.args.charges.now c.args.limits.nodes c.args.limits.workers
    c.args.schedule.now c.args.run c.len-orders.ensures.kept c.requires)

pub follow-requires-clause-numbers : goal.follow-requires-clause-numbers
follow-requires-clause-numbers c =
    numbers-first c.args.ranked.now c.args.charges.now c.args.limits.nodes c.args.limits.workers
    c.args.schedule.now c.args.run c.len-orders.ensures.kept c.requires
    c.give_all.new.self
    (all-given c.args.ranked.now c.args.charges.now c.args.limits.nodes c.args.run.loss
    c.args.run.drawn c.args.limits.workers c.requires.some c.in_ok-crew.crew c.give_all.new.self
    c.args.run.unclosed.items c.in_ok-crew.ensures c.in_ok-give_all.ensures)

pub follow-requires-clause-ready : goal.follow-requires-clause-ready
follow-requires-clause-ready c =
    ready-first c.args.ranked.now c.args.charges.now c.args.limits.nodes c.args.limits.workers
    c.args.schedule.now c.args.run c.len-orders.ensures.kept c.requires
    c.give_all.new.self
    (all-given c.args.ranked.now c.args.charges.now c.args.limits.nodes c.args.run.loss
    c.args.run.drawn c.args.limits.workers c.requires.some c.in_ok-crew.crew c.give_all.new.self
    c.args.run.unclosed.items c.in_ok-crew.ensures c.in_ok-give_all.ensures)

pub returns-clause-resumed : goal.returns-clause-resumed
returns-clause-resumed c =
    let last = c.run_out.new.self.core in
    in-four-ways c.leave.result
    (λ (run : Run). records_of run ≡ entries_of c.args.run.pieces.items ++ pieces_of last)
    (λ (run : Run). run.unclosed.items ≡ unclosed_of last)
    (λ (run : Run). start_of run ≡ best_of (start_of c.args.run) last.workers)
    (λ (run : Run). run.drawn ≡ last.shared.drawn)
    (IsResumed c.args.ranked.now c.args.charges.now c.args.limits.nodes c.args.limits.workers
    c.args.schedule.now c.args.run)
    c.leave.ensures.pieces c.leave.ensures.unclosed c.leave.ensures.best c.leave.ensures.drawn
    (resumed-from c.args.ranked.now c.args.charges.now c.args.limits.nodes c.args.limits.workers
    c.args.schedule.now c.args.run c.len-orders.ensures.kept c.requires
    last
    (rounds-made c.args.ranked.now c.args.charges.now c.args.limits.nodes c.args.limits.workers
    c.args.schedule.now c.args.run c.len-orders.ensures.kept c.requires
    c.give_all.new.self
    (all-given c.args.ranked.now c.args.charges.now c.args.limits.nodes c.args.run.loss
    c.args.run.drawn c.args.limits.workers c.requires.some c.in_ok-crew.crew c.give_all.new.self
    c.args.run.unclosed.items c.in_ok-crew.ensures c.in_ok-give_all.ensures)
    c.follow.new.self last c.follow.ensures.same c.in_ok-follow.ensures.run
    c.in_ok-run_out.ensures.rounds))

pub returns-clause-run : goal.returns-clause-run
returns-clause-run c =
    in-another-way c.leave.result
    (IsResumed c.args.ranked.now c.args.charges.now c.args.limits.nodes c.args.limits.workers
    c.args.schedule.now c.args.run)
    (IsRun c.args.ranked.now c.args.charges.now c.args.run.loss c.args.limits.nodes)
    (returns-clause-resumed c)
    (resumed-run c.args.ranked.now c.args.charges.now c.args.limits.nodes c.args.limits.workers
    c.args.schedule.now c.args.run c.len-orders.ensures.kept c.requires)

pub returns-clause-goes_on : goal.returns-clause-goes_on
returns-clause-goes_on c =
    in-another-way c.leave.result
    (IsResumed c.args.ranked.now c.args.charges.now c.args.limits.nodes c.args.limits.workers
    c.args.schedule.now c.args.run) _ (returns-clause-resumed c)
    (resumed-goes-on c.args.ranked.now c.args.charges.now c.args.limits.nodes c.args.limits.workers
    c.args.schedule.now c.args.run c.len-orders.ensures.kept c.requires)

pub returns-clause-more : goal.returns-clause-more
returns-clause-more c =
    in-another-way c.leave.result
    (IsResumed c.args.ranked.now c.args.charges.now c.args.limits.nodes c.args.limits.workers
    c.args.schedule.now c.args.run) _ (returns-clause-resumed c)
    (resumed-count c.args.ranked.now c.args.charges.now c.args.limits.nodes c.args.limits.workers
    c.args.schedule.now c.args.run c.len-orders.ensures.kept c.requires)
