use Rattle.std.proofs.Common.{ℕ, ◌<◌}
use Rattle.colour_tables.specs.Entries.{entry}
use Rattle.colour_tables.specs.Threes.{IsButOne}
use Rattle.colour_tables.proofs.tops.others.Given as goal

abbrev pub invariant-loop-l : goal.invariant-loop-l
invariant-loop-l l =
    (k : ℕ) → k < l.l → IsButOne (entry l.row k) (entry l.best k) (entry l.second k) (entry l.to k)
