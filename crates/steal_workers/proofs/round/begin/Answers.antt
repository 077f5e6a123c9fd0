use Rattle.steal_workers.proofs.Begun.{begins}
use Rattle.steal_workers.proofs.round.begin.Goals as goal

pub returns-clause-jobs : goal.returns-clause-jobs
returns-clause-jobs c =
    begins c.args.ranked.now c.args.workers c.args.loss c.args.nodes c.args.unclosed.items
    c.in_ok-opened.opened.round c.in_ok-dealt.dealt c.give_first.new.owns.items
    c.in_ok-opened.opened.seats.items c.in_ok-jobs.jobs.items c.requires.some c.requires.few
    c.in_ok-opened.ensures.round c.in_ok-dealt.ensures c.in_ok-give_first.ensures
    c.in_ok-opened.ensures.new c.in_ok-jobs.ensures.numbers c.in_ok-jobs.ensures.owns
    c.in_ok-jobs.ensures.all_thieves c.in_ok-jobs.ensures.seats
