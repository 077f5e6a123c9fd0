-- What a log is: records by rising path, for a number of orders.
use Rattle.std.specs.Prelude.{ℕ, ◌^◌, ◌≡◌, ◌<◌, ◌≤◌, true, List, length}
use Rattle.std.specs.List.{list_all}
use Rattle.mill_model.specs.Log.{recorded}
use Rattle.mill_model.specs.declared.closing.Entry.{Entry}
use Rattle.mill_model.specs.declared.limits.TheConstants.{MAX_NODES}
use Rattle.refute_log.specs.Rising.{rises}
use Rattle.refute_log.specs.Fits.{fits}

-- how many orders there are, and the records
pub record Logged : Type 0 where
  pub orders : ℕ
  pub entries : List Entry

-- what each log keeps
pub record IsLog (log : Logged) : Type 0 where
  pub few_orders : log.orders < 2 ^ 16
  pub few_entries : length log.entries ≤ MAX_NODES
  pub fit : list_all (fits log.orders) log.entries ≡ true
  pub rise : rises (recorded log.entries) ≡ true
