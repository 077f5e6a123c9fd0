use Rattle.std.proofs.Common.{◌≡◌, length, take, List, Option, ℕ}
use Rattle.mill_model.specs.Tree.{canonical}
use Rattle.mill_model.specs.Numbering.{IsNumbering}
use Rattle.mill_model.proofs.plan.Plan.tidy.Given as goal

pub record SoFar (plan done : List ℕ) (numbers : List (Option ℕ)) (next : ℕ) (list : List ℕ) : Type
    0 where
  pub table : IsNumbering done numbers next
  pub size : length numbers ≡ length plan
  pub tidied : list ≡ canonical done

abbrev pub invariant-loop-slab : goal.invariant-loop-slab
invariant-loop-slab l =
    SoFar l.self (take l.slab-index l.self) l.numbering.numbers.items l.numbering.next l.list.items
