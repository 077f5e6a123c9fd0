-- What every state of a machine keeps, whatever its workers found.
use Rattle.std.specs.Prelude.{ℕ, ◌+◌, ◌<◌, ◌≤◌, ◌≡◌, Bool, true, false, cond, length}
use Rattle.std.specs.List.{AllByRecursion}
use Rattle.mill_model.specs.Charges.{ChargeTable}
use Rattle.order_symmetry.specs.Ranked.{RankedOrders}
use Rattle.search_step.specs.Parts.{Parts}
use Rattle.search_step.specs.Serving.{IsPathOf}
use Rattle.search_step.specs.Steps.{IsSafe}
use Rattle.search_step.specs.declared.parts.Phase.{Phase}
use Rattle.search_step.specs.declared.parts.Phase.TheVariants.{Resting, Taking, Stealing, Holding}
use Rattle.search_step.specs.declared.parts.Phase.TheVariants.{Halting, Ended, Bounding}
use Rattle.search_step.specs.declared.parts.Phase.TheVariants.{Closing as ClosingNow, Publishing}
use Rattle.search_step.specs.declared.parts.Phase.TheVariants.{Pushing}
use Rattle.core_machine.specs.Core.{Core, worker}
use Rattle.core_machine.specs.Counts.{sum_of}

-- whether a worker drew a spent ticket, after which it takes no other
abbrev pub has_spent : Phase → Bool
has_spent Halting = true
has_spent Ended = true
has_spent Resting = false
has_spent Taking = false
has_spent Stealing = false
has_spent Holding = false
has_spent Bounding = false
has_spent ClosingNow = false
has_spent Publishing = false
has_spent Pushing = false

abbrev pub spent_by : Parts → ℕ
spent_by w = cond (has_spent w.phase) 1 0

-- something is so of each worker, with its number
abbrev pub EachWorker : Core → (ℕ → Parts → Type 0) → Type 0
EachWorker c IsSo = (i : ℕ) → i < length c.workers → IsSo i (worker c i)

-- There is a deque for each worker. Each worker is safe, and each path in a deque is one of the
-- tree. Only where more tickets are drawn than there are, a halt is called or a worker is on its
-- way to call one, and a worker ends only after a halt. Beyond the last ticket, each worker drew
-- one at most.
pub record IsSteady (ranked : RankedOrders) (charges : ChargeTable) (budget : ℕ) (c : Core)
    : Type 0 where
  pub some : 0 < length c.workers
  pub few : length c.workers ≤ 64
  pub full : length c.shared.deques ≡ length c.workers
  pub safe : EachWorker c (IsSafe ranked charges (length c.workers))
  pub queued : AllByRecursion (AllByRecursion (IsPathOf ranked)) c.shared.deques
  pub halted : c.shared.halted ≡ true → budget < c.shared.drawn
  pub spent : EachWorker c (λ i w. has_spent w.phase ≡ true → budget < c.shared.drawn)
  pub ended : EachWorker c (λ i w. w.phase ≡ Ended → c.shared.halted ≡ true)
  pub drawn : c.shared.drawn ≤ budget + sum_of spent_by c.workers
