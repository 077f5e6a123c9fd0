use Rattle.std.proofs.Common.{◌≡◌, take}
use Rattle.order_symmetry.specs.Ranked.{orders_of}
use Rattle.order_symmetry.specs.Twins.{numbered_by}
use Rattle.order_symmetry.proofs.laws.sort_within_classes.Given as goal

abbrev pub invariant-loop-rank : goal.invariant-loop-rank
invariant-loop-rank l =
    l.numbered.items ≡ take l.rank (numbered_by (orders_of l.ranked) l.numbers)
