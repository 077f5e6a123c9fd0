-- A path with its groups, in the words of the definitions.
use Rattle.std.specs.Prelude.{ℕ, List, drop, get_or, length}
use Rattle.mill_model.specs.declared.order.Order.{Order}
use Rattle.log_checker.specs.Groups.{Seen, nothing_seen}
use Rattle.log_checker.specs.declared.grouped_path.GroupedPath.{GroupedPath}

-- the orders that have no group yet
abbrev pub later : GroupedPath → List Order
later its = drop (length its.path.now) its.rules.now.ranked.items

-- what is seen of the group of a number
abbrev pub group_of : GroupedPath → ℕ → Seen
group_of its g = get_or its.groups.items g nothing_seen
