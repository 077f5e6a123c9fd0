-- Laws of runs: when their pieces refute a loss, and how many paths they can have.
use Rattle.std.specs.Prelude.{ℕ, ◌+◌, ◌≡◌, ◌≤◌, Bool, true, ◌&&◌, List, [], ◌++◌, length, ltb}
use Rattle.std.specs.List.{AllByRecursion}
use Rattle.list_laws.specs.Sets.{same_list, times}
use Rattle.mill_model.specs.Log.{Task, sound, recorded, Refutes}
use Rattle.mill_model.specs.Conserved.{joined, IsConserved}
use Rattle.mill_model.specs.Size.{size, may_split, thrifty_size}
use Rattle.mill_model.specs.declared.closing.Closing.{Closing}
use Rattle.mill_model.specs.declared.closing.Closing.TheVariants.{Split, Leaf, Priced, Dominated}
use Rattle.mill_model.specs.declared.closing.Entry.{Entry}

-- something is so of each record of each piece
abbrev pub EachRecord : List (List Entry) → (Entry → Type 0) → Type 0
EachRecord pieces IsSo = AllByRecursion (λ piece. AllByRecursion IsSo piece) pieces

-- Where a run has nothing unclosed, its pieces joined are a log that refutes each loss for which
-- all their records are sound.
abbrev pub PiecesRefute : Type 0
PiecesRefute =
    (task : Task) (bound : ℕ) (pieces : List (List Entry)) →
    IsConserved task pieces [] →
    EachRecord pieces (λ entry. sound task bound entry.path entry.closing ≡ true) →
    Refutes task bound (joined pieces)

-- No path of a run is recorded twice, or recorded and unclosed, or unclosed twice.
abbrev pub NoPathTwice : Type 0
NoPathTwice =
    (task : Task) (pieces : List (List Entry)) (unclosed : List (List ℕ)) (path : List ℕ) →
    IsConserved task pieces unclosed →
    times same_list path (recorded (joined pieces) ++ unclosed) ≤ 1

-- whether a record that splits its path has a path that passes a test, with an order to come
abbrev pub splits_only_where : Task → (List ℕ → Bool) → List ℕ → Closing → Bool
splits_only_where task test path Split = test path && ltb (length path) (length task.ranked)
splits_only_where task test path Leaf = true
splits_only_where task test path (Priced prices) = true
splits_only_where task test path (Dominated other) = true

-- A run that splits only paths that pass a test has at most as many paths, recorded and unclosed,
-- as the tree in which only paths that pass the test have children.
abbrev pub RunFitsTheTree : Type 0
RunFitsTheTree =
    (task : Task) (test : List ℕ → Bool) (pieces : List (List Entry))
    (unclosed : List (List ℕ)) → IsConserved task pieces unclosed →
    EachRecord pieces (λ entry. splits_only_where task test entry.path entry.closing ≡ true) →
    length (recorded (joined pieces)) + length unclosed ≤ size task test (length task.ranked) []

-- So a run that splits only where the ascent doesn't refute the start's loss has at most as many
-- paths as the thrifty tree.
abbrev pub ThriftyRunFitsTheThriftyTree : Type 0
ThriftyRunFitsTheThriftyTree =
    (task : Task) (start : ℕ) (pieces : List (List Entry)) (unclosed : List (List ℕ)) →
    IsConserved task pieces unclosed →
    EachRecord pieces
    (λ entry. splits_only_where task (may_split task start) entry.path entry.closing ≡ true) →
    length (recorded (joined pieces)) + length unclosed ≤ thrifty_size task start
