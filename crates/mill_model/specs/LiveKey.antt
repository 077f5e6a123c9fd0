-- What of a path decides which plans under it are legal, and what they lose from here on.
use Rattle.std.specs.Prelude.{ℕ, Bool, true, false, cond, not, ◌&&◌, List, [], ◌∷◌, ◌++◌, map}
use Rattle.std.specs.Prelude.{filter, length, eqb}
use Rattle.std.specs.List.{list_any}
use Rattle.list_laws.specs.Sets.{same_times, holds, total, below}
use Rattle.mill_model.specs.Slab.{Mill, load, colours, legal}
use Rattle.mill_model.specs.Plan.{slab}
use Rattle.mill_model.specs.Tree.{later_orders, next_new}
use Rattle.mill_model.specs.declared.order.Order.{Order}

-- whether one of the later orders may join a group alone
abbrev pub is_live : Mill → List Order → List Order → Bool
is_live mill rest group = list_any (λ order. legal mill (group ++ order ∷ [])) rest

-- a live group as the later orders see it: its load, how many colours it has, and of each later
-- order whether its colour is there
pub record LiveGroup : Type 0 where
  pub load : ℕ
  pub colours : ℕ
  pub coming : List Bool

-- whether a group has a colour
abbrev pub has_colour : List Order → ℕ → Bool
has_colour group colour = holds colour (map (λ order. order.colour) group)

-- a group as the later orders see it
abbrev pub seen_from : List Order → List Order → LiveGroup
seen_from rest group =
    record {
      load = load group;
      colours = colours group;
      coming = map (λ order. has_colour group order.colour) rest;
    }

-- whether two lists of marks, and two live groups, are the same
abbrev pub same_marks : List Bool → List Bool → Bool
same_marks [] [] = true
same_marks [] (y ∷ ys) = false
same_marks (x ∷ xs) [] = false
same_marks (x ∷ xs) (y ∷ ys) = cond x y (not y) && same_marks xs ys

abbrev pub same_group : LiveGroup → LiveGroup → Bool
same_group a b = eqb a.load b.load && eqb a.colours b.colours && same_marks a.coming b.coming

-- whether a group of a path is live
abbrev pub has_live : Mill → List Order → List ℕ → ℕ → Bool
has_live mill ranked path g = is_live mill (later_orders ranked path) (slab g path ranked)

-- the live groups of a path, by rising number
abbrev pub live_groups : Mill → List Order → List ℕ → List LiveGroup
live_groups mill ranked path =
    map (λ g. seen_from (later_orders ranked path) (slab g path ranked))
    (filter (has_live mill ranked path) (below (next_new path)))

-- a live key: how many orders are placed, and the live groups, whose order doesn't matter
pub record LiveKey : Type 0 where
  pub depth : ℕ
  pub groups : List LiveGroup

-- the live key of a path
abbrev pub live_key : Mill → List Order → List ℕ → LiveKey
live_key mill ranked path =
    record { depth = length path; groups = live_groups mill ranked path }

-- whether two live keys are the same: one depth, and each live group as often
abbrev pub keys_match : LiveKey → LiveKey → Bool
keys_match a b = eqb a.depth b.depth && same_times same_group a.groups b.groups

-- whether two paths have the same live key
abbrev pub same_live_key : Mill → List Order → List ℕ → List ℕ → Bool
same_live_key mill ranked q r = keys_match (live_key mill ranked q) (live_key mill ranked r)

-- the charges of the groups that are not live
abbrev pub dead_loss : Mill → (ℕ → ℕ) → List Order → List ℕ → ℕ
dead_loss mill charge ranked path =
    total (next_new path)
    (λ g. cond (has_live mill ranked path g) 0 (charge (load (slab g path ranked))))
