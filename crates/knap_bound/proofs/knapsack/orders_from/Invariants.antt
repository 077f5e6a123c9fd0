use Rattle.std.proofs.Common.{◌≡◌, ◌++◌, drop}
use Rattle.order_symmetry.specs.Ranked.{orders_of}
use Rattle.knap_bound.proofs.knapsack.orders_from.Given as goal

abbrev pub invariant-loop-rank : goal.invariant-loop-rank
invariant-loop-rank l =
    l.orders.items ++ drop l.rank (orders_of l.ranked) ≡ drop l.from (orders_of l.ranked)
