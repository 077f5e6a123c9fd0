-- Tables of charges: what a slab of each load is charged.
use Rattle.std.specs.Prelude.{ℕ, ◌+◌, ◌≤◌, ◌≡◌, All, List, length, slice_index}
use Rattle.mill_model.specs.Slab.{Mill}
use Rattle.mill_model.specs.declared.charges.TheConstants.{MAX_CHARGE}

-- the charges of the loads from 0 on: no load is charged nothing, and there is a limit
pub record ChargeTable : Type 0 where
  pub list : List ℕ
  pub free : slice_index list 0 ≡ 0
  pub limit : All (λ charge. charge ≤ MAX_CHARGE) list

-- the charge of a load
abbrev pub charge_of : ChargeTable → ℕ → ℕ
charge_of table = λ load. slice_index table.list load

-- a table has a charge for each load up to the largest size of a mill
abbrev pub Reaches : ChargeTable → Mill → Type 0
Reaches table mill = length table.list ≡ mill.largest + 1
