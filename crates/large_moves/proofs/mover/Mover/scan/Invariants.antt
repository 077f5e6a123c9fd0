use Rattle.std.proofs.Common.{◌≡◌, ◌≤◌, ◌+◌, length}
use Rattle.mill_model.specs.Charges.{charge_of}
use Rattle.mill_model.specs.Pairs.{pairs_below}
use Rattle.large_moves.specs.Scans.{AreClosed, AreTimesOf}
use Rattle.large_moves.proofs.mover.Mover.scan.Given as goal

abbrev pub invariant-loop-a : goal.invariant-loop-a
invariant-loop-a l = record {
  kept : l.self ≡ l.fn.self;
  closed : AreClosed (charge_of l.charges) l.fn.self
      (pairs_below l.fn.self.plan (length l.fn.self.plan) l.a);
  tries : l.fn.tries.left ≤ l.tries.left
      + length (pairs_below l.fn.self.plan (length l.fn.self.plan) l.a);
  times : AreTimesOf (charge_of l.charges) l.fn.self l.tries;
}
