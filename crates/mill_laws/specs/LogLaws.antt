-- Laws of logs: what a log refutes no legal plan betters, and a log closes each path once.
use Rattle.std.specs.Prelude.{ℕ, ◌≡◌, ◌≤◌, List}
use Rattle.list_laws.specs.Sets.{same_list, times}
use Rattle.mill_model.specs.Slab.{Mill}
use Rattle.mill_model.specs.Plan.{NoneLosesLess}
use Rattle.mill_model.specs.Log.{Task, task_of_orders, recorded, IsComplete, Refutes}
use Rattle.mill_model.specs.declared.order.Order.{Order}
use Rattle.mill_model.specs.declared.closing.Entry.{Entry}

-- Where a log refutes a loss, no legal plan of the instance loses less. This holds for every charge
-- of loads that charges nothing for no load, and for all four kinds of record.
abbrev pub RefutedLossBounds : Type 0
RefutedLossBounds =
    (mill : Mill) (charge : ℕ → ℕ) (orders : List Order) (bound : ℕ) (log : List Entry) →
    charge 0 ≡ 0 → Refutes (task_of_orders mill charge orders) bound log →
    NoneLosesLess mill charge orders bound

-- A log that refutes a loss refutes each lesser one.
abbrev pub LesserLossIsRefuted : Type 0
LesserLossIsRefuted =
    (task : Task) (bound lesser : ℕ) (log : List Entry) →
    lesser ≤ bound → Refutes task bound log → Refutes task lesser log

-- A complete log records no path twice.
abbrev pub RecordedOnce : Type 0
RecordedOnce =
    (task : Task) (log : List Entry) (path : List ℕ) →
    IsComplete task log → times same_list path (recorded log) ≤ 1
