use Rattle.std.proofs.Common.{ℕ, ◌+◌, ◌*◌, length}
use Rattle.set_minima.specs.Cells.{cell, AreNear}
use Rattle.knap_bound.specs.Packing.{joined_to, others_of, IsTableOf}
use Rattle.mill_model.specs.declared.prices.TheConstants.{MAX_PRICE}
use Rattle.knap_bound.proofs.best_prices.add_left_out.Given as goal

abbrev pub invariant-loop-t : goal.invariant-loop-t
invariant-loop-t l = record {
  best :
      (k : ℕ) →
      IsTableOf l.packing (others_of l.packing l.out) l.out k
      (length l.initial.table) (cell l.initial.table) →
      IsTableOf l.packing (joined_to l.packing l.out l.t) l.out k
      (length l.initial.table) (cell l.table);
  near : AreNear (200000000000000000 + l.t * MAX_PRICE) l.table;
}
