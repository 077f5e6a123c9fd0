use Rattle.std.proofs.Common.{◌≡◌, ◌≤◌, ◌*◌}
use Rattle.mill_model.specs.Charges.{charge_of}
use Rattle.mill_model.specs.Plan.{slab}
use Rattle.list_laws.specs.Sets.{total}
use Rattle.mill_model.specs.Slab.{load}
use Rattle.large_moves.proofs.mover.Mover.loss.Given as goal

abbrev pub invariant-loop-s : goal.invariant-loop-s
invariant-loop-s l = record {
  is : l.loss
      ≡ total l.s (λ s. charge_of l.charges (load (slab s l.self.plan l.self.orders)));
  limit : l.loss ≤ l.s * 100000000;
}
