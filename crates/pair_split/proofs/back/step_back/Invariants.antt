use Rattle.std.proofs.Common.{◌≡◌, ◌<◌, Bool}
use Rattle.pair_split.specs.States.{IsWithin, row, with_order}
use Rattle.pair_split.specs.Tables.{Marked, mill_in}
use Rattle.pair_split.specs.declared.state.State.{State}
use Rattle.pair_split.proofs.back.step_back.Given as goal

abbrev pub invariant-loop-r : goal.invariant-loop-r
invariant-loop-r l =
    (s : State) → row s < l.r → IsWithin (mill_in l.layout) s → Marked l.layout.words l.table s →
    (mark : Bool) → with_order mark l.weight l.same s ≡ l.at → ⊥
