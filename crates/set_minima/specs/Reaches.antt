-- How heavy sets get that the loads of a table hold.
use Rattle.std.specs.Prelude.{ℕ, ◌<◌, ◌≤◌, Bool, List, [], slice_index_or}
use Rattle.mill_model.specs.declared.order.Order.{Order}
use Rattle.set_minima.specs.Packs.{Packs}

-- of the sets that are lighter than a width, none is heavier than the reach
abbrev pub IsReach : (ℕ → Bool) → List ℕ → ℕ → List Order → ℕ → ℕ → Type 0
IsReach allowed own k rest width reach =
    (l : ℕ) (marks : List Bool) → Packs allowed own k rest l marks → l < width → l ≤ reach

-- the same for each layer: layer t has the sets of at most t colours
abbrev pub AreReaches : (ℕ → Bool) → List Order → ℕ → ℕ → List ℕ → Type 0
AreReaches allowed rest layers width reach =
    (t : ℕ) → t < layers → IsReach allowed [] t rest width (slice_index_or reach t 0)
