use Rattle.std.proofs.Common.{ℕ, ℤ, ◌<◌, ◌≡◌}
use Rattle.std.specs.Int.{int_max}
use Rattle.colour_tables.specs.Entries.{entry}
use Rattle.colour_tables.specs.Threes.{IsButOne}
use Rattle.colour_tables.proofs.tops.others_or.Given as goal

abbrev pub invariant-loop-l : goal.invariant-loop-l
invariant-loop-l l =
    (k : ℕ) → k < l.l → (w : ℤ) × IsButOne (entry l.x k) (entry l.best k) (entry l.second k) w
    × (entry l.to k ≡ int_max w (entry l.z k))
