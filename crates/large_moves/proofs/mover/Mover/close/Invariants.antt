use Rattle.std.proofs.Common.{◌≡◌, ◌≤◌, ◌+◌, ◌-◌, ◌*◌, length}
use Rattle.mill_model.specs.Charges.{charge_of}
use Rattle.large_moves.specs.Laid.{SameOrders, laid_loss}
use Rattle.large_moves.specs.Scans.{AreTimesOf}
use Rattle.large_moves.proofs.Scanned.{triangle}
use Rattle.large_moves.proofs.mover.Mover.close.Given as goal

abbrev pub invariant-loop : goal.invariant-loop
invariant-loop l = record {
  same : SameOrders l.fn.self l.self;
  no_more : laid_loss (charge_of l.charges) l.self
      ≤ laid_loss (charge_of l.charges) l.fn.self;
  kept : laid_loss (charge_of l.charges) l.self ≡ laid_loss (charge_of l.charges) l.fn.self →
      l.self ≡ l.fn.self;
  times : AreTimesOf (charge_of l.charges) l.self l.tries;
  tries : l.fn.tries.left ≤ l.tries.left + (laid_loss (charge_of l.charges) l.fn.self
      - laid_loss (charge_of l.charges) l.self) * triangle (length l.self.orders);
}

abbrev pub decreases-loop : goal.decreases-loop
decreases-loop l = laid_loss (charge_of l.charges) l.self
