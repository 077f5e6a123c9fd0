use Rattle.order_symmetry.proofs.Limits.{largest-high}
use Rattle.order_symmetry.proofs.ranked.Ranked.largest.Goals as goal

pub returns-clause-high : goal.returns-clause-high
returns-clause-high c = largest-high _ c.self.invariant
