-- A table with the charge of each load is the charge of the definition, so what is said with the
-- one holds with the other.
use Rattle.std.proofs.Common.{◌≡◌, ℕ}
use mathlib.Core.Path.{fun_ext}
use Rattle.mill_model.specs.Instance.{Problem, loss_charge}
use Rattle.mill_model.specs.Charges.{ChargeTable, charge_of}
use Rattle.loss_table.specs.Charges.{AreCharges}

pub table-is-charge : (problem : Problem) (charges : ChargeTable) → AreCharges problem charges →
    ◌≡◌ {A = ℕ → ℕ} (charge_of charges) (loss_charge problem.sizes)
table-is-charge problem charges are = fun_ext are.each
