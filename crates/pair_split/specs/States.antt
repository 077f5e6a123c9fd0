-- States of splits: what of a split of some orders matters to an order that comes in front of
-- them.
use Rattle.std.specs.Prelude.{ℕ, ◌+◌, ◌*◌, ◌≤◌, ◌≡◌, Bool, true, cond, ◌&&◌, List, length}
use Rattle.list_laws.specs.Sets.{holds, chosen}
use Rattle.mill_model.specs.Slab.{Mill, load, colours}
use Rattle.mill_model.specs.Pairs.{complement}
use Rattle.mill_model.specs.declared.order.Order.{Order}
use Rattle.pair_split.specs.Splits.{colours_in, front}
use Rattle.pair_split.specs.declared.state.State.{State}

-- whether the marked orders have the colour of the first order
abbrev pub has_front : List Order → List Bool → Bool
has_front rest marks = holds (front rest) (colours_in (chosen marks rest))

-- the load of the first slab, the colours on both, and whether they have the first order's colour
abbrev pub state_of : List Order → List Bool → State
state_of rest marks = record {
  load = load (chosen marks rest);
  first = colours (chosen marks rest);
  second = colours (chosen (complement marks) rest);
  on_first = has_front rest marks;
  on_second = has_front rest (complement marks);
}

-- one more order in front, of the first order's colour (`same`) or another, on the first slab
abbrev pub with_first : ℕ → Bool → State → State
with_first weight same s = record {
  load = s.load + weight;
  first = cond (same && s.on_first) s.first (s.first + 1);
  second = s.second;
  on_first = true;
  on_second = same && s.on_second;
}

-- and on the second
abbrev pub with_second : Bool → State → State
with_second same s = record {
  load = s.load;
  first = s.first;
  second = cond (same && s.on_second) s.second (s.second + 1);
  on_first = same && s.on_first;
  on_second = true;
}

-- and on the first, if it is marked, else on the second
abbrev pub with_order : Bool → ℕ → Bool → State → State
with_order mark weight same s = cond mark (with_first weight same s) (with_second same s)

-- the first slab is light enough, and both have few colours
pub record IsWithin (mill : Mill) (s : State) : Type 0 where
  pub light : s.load ≤ mill.largest
  pub few : s.first ≤ mill.most_colours
  pub few_others : s.second ≤ mill.most_colours

-- marks for all orders, whose state is within the bounds; the second slab may be too heavy
pub record IsPart (mill : Mill) (rest : List Order) (marks : List Bool) : Type 0 where
  pub whole : length marks ≡ length rest
  pub within : IsWithin mill (state_of rest marks)

-- a row for each number of colours on both slabs and each two flags
abbrev pub row : State → ℕ
row s = s.first * 36 + s.second * 4 + cond s.on_first 2 0 + cond s.on_second 1 0

-- a state with another load
abbrev pub loaded : State → ℕ → State
loaded s l = record {
  load = l;
  first = s.first;
  second = s.second;
  on_first = s.on_first;
  on_second = s.on_second;
}
