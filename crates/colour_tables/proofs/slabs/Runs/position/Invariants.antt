use Rattle.std.proofs.Common.{ℕ, ◌<◌, ◌≤◌, ◌≢◌}
use Rattle.colour_tables.specs.Items.{item_at}
use Rattle.colour_tables.proofs.slabs.Runs.position.Given as goal

abbrev pub invariant-loop-t : goal.invariant-loop-t
invariant-loop-t l =
    (s : ℕ) → l.at ≤ s → s < l.t → (item_at l.self.items.items s).place ≢ l.place
