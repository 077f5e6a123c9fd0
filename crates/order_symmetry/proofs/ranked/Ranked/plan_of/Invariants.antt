use Rattle.order_symmetry.proofs.Places.{places_in}
use Rattle.order_symmetry.proofs.Plans.{IsFilled}
use Rattle.order_symmetry.proofs.ranked.Ranked.plan_of.Given as goal

abbrev pub invariant-loop-rank : goal.invariant-loop-rank
invariant-loop-rank l = IsFilled (places_in l.self-inside.placed.items) l.path l.slabs.items l.rank
