-- The paths that are still to come, named by the records that they are children of.
use Rattle.std.specs.Prelude.{ℕ, zero, suc, ◌+◌, ◌-◌, ltb, Bool, true, false, cond, List, [], ◌∷◌}
use Rattle.std.specs.Prelude.{◌++◌, get_or, map, reverse}
use Rattle.mill_model.specs.Log.{recorded}
use Rattle.mill_model.specs.Slab.{Mill}
use Rattle.mill_model.specs.Tree.{next_new, may_go_on}
use Rattle.mill_model.specs.declared.order.Order.{Order}
use Rattle.mill_model.specs.declared.closing.Closing.{Closing}
use Rattle.mill_model.specs.declared.closing.Closing.TheVariants.{Split, Leaf, Priced, Dominated}
use Rattle.mill_model.specs.declared.closing.Entry.{Entry}
use Rattle.log_checker.specs.declared.agenda.Wanted.{Wanted}
use Rattle.log_checker.specs.declared.agenda.Wanted.TheVariants.{Root, Child}

abbrev pub wanted_path : List Entry → Wanted → List ℕ
wanted_path log Root = []
wanted_path log (Child parent group) = get_or (recorded log) parent [] ++ group ∷ []

-- the last of them comes first
abbrev pub to_come : List Entry → List Wanted → List (List ℕ)
to_come log waiting = map (wanted_path log) (reverse waiting)

-- the children numbered down from below top that pass a test
abbrev pub opened : (ℕ → Bool) → ℕ → ℕ → ℕ → List Wanted
opened test parent top zero = []
opened test parent top (suc j) =
    opened test parent top j ++ cond (test (top - suc j)) (Child parent (top - suc j) ∷ []) []

-- whether the record that a path is a child of is one of so many
abbrev pub is_within : ℕ → Wanted → Bool
is_within count Root = true
is_within count (Child parent group) = ltb parent count

abbrev pub is_split : Closing → Bool
is_split Split = true
is_split Leaf = false
is_split (Priced prices) = false
is_split (Dominated other) = false

-- what waits once a record is closed
abbrev pub opened_from : Mill → List Order → List ℕ → ℕ → Closing → List Wanted
opened_from mill ranked path i Split =
    opened (may_go_on mill ranked path) i (next_new path + 1) (next_new path + 1)
opened_from mill ranked path i Leaf = []
opened_from mill ranked path i (Priced prices) = []
opened_from mill ranked path i (Dominated other) = []
