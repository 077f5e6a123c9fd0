use Rattle.std.proofs.Common.{◌≡◌, ◌+◌, vec_len}
use Rattle.steal_workers.specs.Deques.{DealsOne, new_thief, others_below, thieves_in}
use Rattle.steal_workers.proofs.lending.lend_to_others.Given as goal

abbrev pub invariant-loop-taker : goal.invariant-loop-taker
invariant-loop-taker l = record {
  own : l.own ≡ record l.fn.own { shares = l.own.shares };
  shares : l.own.shares + others_below l.number l.taker ≡ vec_len l.fn.all_thieves;
  dealt : DealsOne l.number l.taker (new_thief l.fn.own) (thieves_in l.fn.all_thieves.items)
      (thieves_in l.all_thieves.items);
}
