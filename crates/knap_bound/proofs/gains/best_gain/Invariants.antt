use Rattle.std.proofs.Common.{ℕ, ℤ, List, Bool, ◌+◌, ◌*◌, length}
use Rattle.mill_model.specs.Charges.{charge_of}
use Rattle.mill_model.specs.declared.order.Order.{Order}
use Rattle.set_minima.specs.Packs.{IsTable, IsTop}
use Rattle.set_minima.specs.Joins.{gain, Packed}
use Rattle.set_minima.specs.Cells.{cell, found, IsNear}
use Rattle.mill_model.specs.declared.prices.TheConstants.{MAX_PRICE}
use Rattle.knap_bound.proofs.gains.best_gain.Given as goal

abbrev pub invariant-loop-l : goal.invariant-loop-l
invariant-loop-l l = record {
  top :
      (allowed : ℕ → Bool) (own : List ℕ) (k : ℕ) (rest : List Order) (prices : List ℤ) →
      IsTable allowed own k rest prices (length l.table) (cell l.table) →
      IsTop (Packed allowed own k rest l.low l.l)
      (gain (charge_of l.charges) l.load rest prices) (found l.best);
  near : IsNear (300000000000000000 + l.l * MAX_PRICE) l.best;
}
