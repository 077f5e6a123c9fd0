-- What is wrong with a log, and where first.
use Rattle.std.specs.Prelude.{ℕ, cond, ◌++◌, ◌≡◌, Bool, true, false, not, ◌&&◌, ◌||◌, List, [], ◌∷◌}
use Rattle.std.specs.List.{list_any}
use Rattle.list_laws.specs.Sets.{same_list}
use Rattle.mill_model.specs.Log.{Task, sound, recorded, left_open, split_children, names_settled}
use Rattle.mill_model.specs.Log.{Refutes}
use Rattle.mill_model.specs.declared.closing.Entry.{Entry}
use Rattle.refute_log.specs.Rising.{comes_before}
use Rattle.log_checker.specs.declared.verdict.LogVerdict.{LogVerdict}
use Rattle.log_checker.specs.declared.verdict.LogVerdict.TheVariants as verdicts

-- whether a path has a record
abbrev pub is_recorded : List Entry → List ℕ → Bool
is_recorded log path = list_any (same_list path) (recorded log)

-- whether a path is to have one: it is the empty path, or a child of one that is recorded as split
abbrev pub is_wanted : Task → List Entry → List ℕ → Bool
is_wanted task log path = list_any (same_list path) ([] ∷ split_children task log)

-- whether a record of a log is sound, and what it names has a record that is not dominated
abbrev pub holds_up : Task → ℕ → List Entry → Entry → Bool
holds_up task bound log entry =
    sound task bound entry.path entry.closing && names_settled log entry.closing

-- whether a record stands at a path and does not hold up
abbrev pub fails_at : Task → ℕ → List Entry → List ℕ → Entry → Bool
fails_at task bound log path entry =
    same_list path entry.path && not (holds_up task bound log entry)

abbrev pub is_missing : Task → List Entry → List ℕ → Bool
is_missing task log path = is_wanted task log path && not (is_recorded log path)

abbrev pub is_stray : Task → List Entry → List ℕ → Bool
is_stray task log path = is_recorded log path && not (is_wanted task log path)

-- whether a path is neither, and a record of it does not hold up
abbrev pub is_unsound : Task → ℕ → List Entry → List ℕ → Bool
is_unsound task bound log path =
    is_wanted task log path && is_recorded log path && list_any (fails_at task bound log path) log

abbrev pub is_wrong : Task → ℕ → List Entry → List ℕ → Bool
is_wrong task bound log path =
    is_missing task log path || is_stray task log path || is_unsound task bound log path

-- the first wrong path in rising order, and what is wrong with it
pub record IsFirst (is_kind is_wrong : List ℕ → Bool) (path : List ℕ) : Type 0 where
  pub here : is_kind path ≡ true
  pub before : (other : List ℕ) → comes_before other path ≡ true → is_wrong other ≡ false

-- what is first wrong with a log, if anything
abbrev pub IsVerdict : Task → ℕ → List Entry → LogVerdict → Type 0
IsVerdict task bound log verdicts.Refutes = Refutes task bound log
IsVerdict task bound log (verdicts.Missing path) =
    IsFirst (is_missing task log) (is_wrong task bound log) path
IsVerdict task bound log (verdicts.Stray path) =
    IsFirst (is_stray task log) (is_wrong task bound log) path
IsVerdict task bound log (verdicts.Unsound path) =
    IsFirst (is_unsound task bound log) (is_wrong task bound log) path

-- what one pass finds on the rest of a log, where these paths are still to come
abbrev pub verdict_from : Task → ℕ → List Entry → List (List ℕ) → List Entry → LogVerdict
verdict_from task bound log [] [] = verdicts.Refutes
verdict_from task bound log (path ∷ paths) [] = verdicts.Missing path
verdict_from task bound log [] (entry ∷ rest) = verdicts.Stray entry.path
verdict_from task bound log (path ∷ paths) (entry ∷ rest) =
    cond (same_list path entry.path)
    (cond (holds_up task bound log entry)
    (verdict_from task bound log (left_open task entry.path entry.closing ++ paths) rest)
    (verdicts.Unsound path))
    (cond (comes_before path entry.path) (verdicts.Missing path) (verdicts.Stray entry.path))
