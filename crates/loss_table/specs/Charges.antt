-- Tables of the losses.
use Rattle.std.specs.Prelude.{ℕ, ◌≡◌}
use Rattle.mill_model.specs.Instance.{Problem, mill_of, loss_charge}
use Rattle.mill_model.specs.Charges.{ChargeTable, Reaches, charge_of}

-- a table has the charge of each load, up to the largest size
pub record AreCharges (problem : Problem) (charges : ChargeTable) : Type 0 where
  pub reach : Reaches charges (mill_of problem)
  pub each : (load : ℕ) → charge_of charges load ≡ loss_charge problem.sizes load
