-- The pieces of the tests are those of a whole run over the orders (3, 2) and (1, 1), or over
-- (1, 1), (1, 2) and (2, 3).
use Rattle.std.proofs.Common.{◌≡◌, true, List, [], ◌∷◌, ◌++◌, refl}
use Rattle.std.specs.List.{AllByRecursion}
use Rattle.list_laws.specs.Sets.{same_list}
use Rattle.list_laws.proofs.Times.{same_list-eq, same_times-all}
use Rattle.mill_model.specs.Log.{Task, recorded, split_children, names_settled}
use Rattle.mill_model.specs.Conserved.{joined}
use Rattle.mill_model.specs.declared.closing.Entry.{Entry}
use Rattle.mill_laws.specs.Examples.{two_task, three_task, balances}
use Rattle.piece_merge.specs.Merging.{AreOfAWholeRun}
use Rattle.piece_merge.specs.Rows.{later_first, all_in_the_last, last_sibling_first}

whole : (task : Task) (pieces : List (List Entry)) → balances task pieces [] ≡ true →
    AllByRecursion (λ piece. AllByRecursion (λ e. names_settled piece e.closing ≡ true) piece)
    pieces → AreOfAWholeRun pieces
whole task pieces balanced named = record {
  task = task;
  conserved = record {
    paths = same_times-all same_list same_list-eq (recorded (joined pieces) ++ [])
        ([] ∷ split_children task (joined pieces)) balanced;
    named = named;
  };
}

pub later-first-whole : AreOfAWholeRun later_first
later-first-whole = whole two_task later_first refl ((refl, tt), ((refl, (refl, tt)), tt))

pub all-in-the-last-whole : AreOfAWholeRun all_in_the_last
all-in-the-last-whole = whole two_task all_in_the_last refl (tt, ((refl, (refl, (refl, tt))), tt))

pub last-sibling-first-whole : AreOfAWholeRun last_sibling_first
last-sibling-first-whole = whole three_task last_sibling_first refl
    ((refl, (refl, (refl, tt))), ((refl, (refl, (refl, (refl, (refl, tt))))), tt))
