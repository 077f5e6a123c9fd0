-- Deques of paths, as lists.
use Rattle.std.specs.Prelude.{ℕ, List, [], map, set, get_or}
use Rattle.std.specs.List.{AllByRecursion}
use Rattle.std.specs.declared.alloc.Global.{Global}
use Rattle.std.specs.declared.collections.VecDeque.{VecDeque}
use Rattle.order_symmetry.specs.Ranked.{RankedOrders}
use Rattle.search_step.specs.Serving.{IsPathOf}

abbrev pub PathDeque : Type 0
PathDeque = VecDeque (List ℕ) Global

abbrev pub lists_of : List PathDeque → List (List (List ℕ))
lists_of = map (λ q. q.items)

-- all their paths are of the tree of ranked orders
abbrev pub AllInTree : RankedOrders → List PathDeque → Type 0
AllInTree ranked = AllByRecursion (λ q. AllByRecursion (IsPathOf ranked) q.items)

-- the lists of deques, with the ranked orders whose tree their paths are of
pub record DequeLists : Type 0 where
  pub ranked : RankedOrders
  pub lists : List (List (List ℕ))

-- with one of the lists changed
abbrev pub with_list : DequeLists → ℕ → List (List ℕ) → DequeLists
with_list d at paths = record d { lists = set d.lists at paths }

abbrev pub list_at : DequeLists → ℕ → List (List ℕ)
list_at d at = get_or d.lists at []
