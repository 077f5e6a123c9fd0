use Rattle.std.proofs.Common.{◌≡◌, ◌≤◌, ◌+◌, length}
use Rattle.mill_model.specs.Charges.{charge_of}
use Rattle.mill_model.specs.Pairs.{pairs_with}
use Rattle.large_moves.specs.Scans.{AreClosed, AreTimesOf}
use Rattle.large_moves.proofs.mover.Mover.scan_row.Given as goal

abbrev pub invariant-loop-b : goal.invariant-loop-b
invariant-loop-b l = record {
  kept : l.self ≡ l.fn.self;
  closed : AreClosed (charge_of l.charges) l.fn.self
      (pairs_with l.fn.self.plan l.a l.b);
  tries : l.fn.tries.left ≤ l.tries.left + length (pairs_with l.fn.self.plan l.a l.b);
  times : AreTimesOf (charge_of l.charges) l.fn.self l.tries;
}
