-- The slacks of the groups of a path.
use Rattle.std.specs.Prelude.{ℕ, ℤ, ◌<◌, ◌≡◌, All, List, [], length, slice_index_or, pos}
use Rattle.mill_model.specs.Plan.{slab}
use Rattle.mill_model.specs.Prices.{least_slack}
use Rattle.set_minima.specs.Cells.{IsSmall, slack_limit}
use Rattle.log_checker.specs.ByRules.{mill_by, charge_by}
use Rattle.log_checker.specs.PathGroups.{later}
use Rattle.log_checker.specs.declared.grouped_path.GroupedPath.{GroupedPath}
use Rattle.log_checker.specs.declared.keys.LiveGroup.{LiveGroup}

abbrev pub no_live : LiveGroup
no_live = record { key = record { load = 0; colours = 0; coming = [] }; group = 0 }

-- the least slack of a group of a path
abbrev pub slack_of : GroupedPath → List ℤ → ℕ → ℤ
slack_of its prices g =
    least_slack (mill_by its.rules.now) (charge_by its.rules.now)
    (slab g its.path.now its.rules.now.ranked.items) (later its) prices

-- what each live group has, in their order
pub record AreLiveSlacks (slack : ℕ → ℤ) (live : List LiveGroup) (slacks : List ℤ) : Type 0 where
  pub small : (i : ℕ) → i < length live → IsSmall slack_limit (slice_index_or slacks i (pos 0))
  pub each :
      (i : ℕ) → i < length live →
      slice_index_or slacks i (pos 0) ≡ slack (slice_index_or live i no_live).group

-- what each of some groups has at its number
pub record AreSlacks (count : ℕ) (slack : ℕ → ℤ) (slacks : List ℤ) : Type 0 where
  pub long : length slacks ≡ count
  pub small : All (IsSmall slack_limit) slacks
  pub each : (g : ℕ) → g < count → slice_index_or slacks g (pos 0) ≡ slack g
