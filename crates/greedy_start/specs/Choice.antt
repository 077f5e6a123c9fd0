-- The choice of best fit, while the groups are looked at from the highest down.
use Rattle.std.specs.Prelude.{ℕ, ◌<◌, ◌≤◌, ◌≡◌, true, false, List, int_le}
use Rattle.mill_model.specs.Slab.{Mill}
use Rattle.mill_model.specs.Starts.{added_charge, stays_legal}
use Rattle.mill_model.specs.Tree.{next_new}
use Rattle.mill_model.specs.declared.order.Order.{Order}
use Rattle.greedy_start.specs.declared.open_path.Choice.{Choice}

-- Of the groups from one on that stay legal with the next order, the next new one among them, none
-- adds less than the choice, and none below it adds as little.
pub record IsBestFrom (mill : Mill) (charge : ℕ → ℕ) (ranked : List Order) (path : List ℕ)
    (from : ℕ) (choice : Choice) : Type 0 where
  pub low : from ≤ choice.group
  pub high : choice.group ≤ next_new path
  pub stays : stays_legal mill ranked path choice.group ≡ true
  pub adds : choice.added ≡ added_charge charge ranked path choice.group
  pub least : (g : ℕ) → from ≤ g → g ≤ next_new path → stays_legal mill ranked path g ≡ true →
      int_le choice.added (added_charge charge ranked path g) ≡ true
  pub lowest : (g : ℕ) → from ≤ g → g < choice.group → stays_legal mill ranked path g ≡ true →
      int_le (added_charge charge ranked path g) choice.added ≡ false
