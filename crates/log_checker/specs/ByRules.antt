-- The rules as what logs are judged by.
use Rattle.std.specs.Prelude.{ℕ, slice_index}
use Rattle.mill_model.specs.Slab.{Mill}
use Rattle.mill_model.specs.Log.{Task}
use Rattle.log_checker.specs.declared.rules.Rules.{Rules}

abbrev pub mill_by : Rules → Mill
mill_by rules = record { largest = rules.largest; most_colours = rules.most_colours }

-- what a load is charged
abbrev pub charge_by : Rules → ℕ → ℕ
charge_by rules = λ l. slice_index rules.charges.items l

abbrev pub task_by : Rules → Task
task_by rules =
    record {
      mill = mill_by rules;
      charge = charge_by rules;
      ranked = rules.ranked.items;
    }
