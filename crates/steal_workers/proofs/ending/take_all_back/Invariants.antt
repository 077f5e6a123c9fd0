use Rattle.steal_workers.specs.Deques.{AreBack, thieves_in}
use Rattle.steal_workers.proofs.ending.take_all_back.Given as goal

abbrev pub invariant-loop-taker : goal.invariant-loop-taker
invariant-loop-taker l =
    AreBack l.fn.own l.own l.number l.taker (thieves_in l.fn.all_thieves.items)
    (thieves_in l.all_thieves.items)
