use Rattle.std.proofs.Common.{ℕ, ℤ, ◌<◌, ◌≡◌}
use Rattle.std.specs.Int.{int_max}
use Rattle.colour_tables.specs.Entries.{entry}
use Rattle.colour_tables.specs.Threes.{IsButTwo}
use Rattle.colour_tables.proofs.tops.others_of_two.Given as goal

abbrev pub invariant-loop-l : goal.invariant-loop-l
invariant-loop-l l =
    (k : ℕ) → k < l.l → (w : ℤ)
    × IsButTwo (entry l.x k) (entry l.y k) (entry l.best k) (entry l.second k) (entry l.third k) w
    × (entry l.to k ≡ int_max w (entry l.z k))
