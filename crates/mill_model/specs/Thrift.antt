-- Thrift: a run splits a path only where the prices there don't refute a loss.
use Rattle.std.specs.Prelude.{ℕ, ◌≡◌, Bool, true, ◌&&◌, List, pos, ◌-ℤ◌, ◌*ℤ◌, int_le}
use Rattle.std.specs.List.{AllByRecursion}
use Rattle.mill_model.specs.Bounds.{swept_worth}
use Rattle.mill_model.specs.Log.{Task}
use Rattle.mill_model.specs.Size.{may_split}
use Rattle.mill_model.specs.declared.closing.Entry.{Entry}
use Rattle.mill_model.specs.declared.closing.Closing.{Closing}
use Rattle.mill_model.specs.declared.closing.Closing.TheVariants.{Split, Leaf, Priced, Dominated}

-- whether a path may be split by a run that is thrifty for a loss: neither the ascent there nor one
-- sweep of its prices is worth more than 60 * (loss - 1)
abbrev pub is_open : Task → ℕ → List ℕ → Bool
is_open task loss path =
    may_split task loss path
    && int_le (swept_worth task.mill task.charge task.ranked path)
    (pos 60 *ℤ (pos loss -ℤ pos 1))

-- whether a record splits no path that it may not
abbrev pub splits_thriftily : Task → ℕ → List ℕ → Closing → Bool
splits_thriftily task loss path Split = is_open task loss path
splits_thriftily task loss path Leaf = true
splits_thriftily task loss path (Priced prices) = true
splits_thriftily task loss path (Dominated other) = true

-- some records are thrifty for a loss
abbrev pub AreThrifty : Task → ℕ → List Entry → Type 0
AreThrifty task loss log =
    AllByRecursion (λ entry. splits_thriftily task loss entry.path entry.closing ≡ true) log
