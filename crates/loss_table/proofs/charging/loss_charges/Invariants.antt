use Rattle.std.proofs.Common.{◌≡◌, ◌+◌, ◌≤◌, List, ℕ, length}
use Rattle.mill_model.specs.Instance.{largest}
use Rattle.loss_table.proofs.LeastSizes.{IsPart}
use Rattle.loss_table.proofs.Filling.{AreFirstCharges}
use Rattle.loss_table.proofs.charging.loss_charges.Given as goal

-- the loads up to the last of the first k sizes are charged
pub record UpTo (sizes : List ℕ) (k : ℕ) (table : List ℕ) : Type 0 where
  pub charges : AreFirstCharges sizes table
  pub some : 1 ≤ length table
  pub part : IsPart sizes (length table) k
  pub most : length table ≤ largest sizes + 1

abbrev pub invariant-loop-size : goal.invariant-loop-size
invariant-loop-size l = UpTo l.instance.sizes l.size-index l.table.items

abbrev pub invariant-loop-load : goal.invariant-loop-load
invariant-loop-load l =
    AreFirstCharges l.instance.sizes l.table.items × (length l.table.items ≡ l.load)
