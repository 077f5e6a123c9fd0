-- What a run of a machine keeps of paths, tickets and plans.
use Rattle.std.specs.Prelude.{ℕ, ◌+◌, ◌<◌, ◌≤◌, ◌≡◌, ◌≢◌, ◌⊎◌, true, min, List, [], ◌∷◌}
use Rattle.std.specs.Prelude.{length, Some}
use Rattle.list_laws.specs.Sets.{times, same_list}
use Rattle.mill_model.specs.Charges.{ChargeTable}
use Rattle.mill_model.specs.declared.plan.Start.{Start}
use Rattle.order_symmetry.specs.Ranked.{RankedOrders}
use Rattle.search_step.specs.Honest.{IsHonest}
use Rattle.search_step.specs.Leaving.{better_of}
use Rattle.search_step.specs.Parts.{Parts}
use Rattle.search_step.specs.Steps.{task_at}
use Rattle.search_step.specs.declared.parts.Phase.TheVariants.{Publishing}
use Rattle.core_machine.specs.Core.{Core, worker}
use Rattle.core_machine.specs.Counts.{sum_of, own_count, split_count, tickets_of}
use Rattle.core_machine.specs.Ends.{IsAtEnd, is_calm}
use Rattle.core_machine.specs.Steady.{EachWorker, IsSteady}

-- Of a run that began with a loss, with some paths to close and so many records before. The paths
-- of the workers and the deques are those to close and the children of the paths that the workers
-- split. The records are the tickets, with one more for each worker that has a path in work.
pub record IsGood (ranked : RankedOrders) (charges : ChargeTable) (start budget before : ℕ)
    (owed : List (List ℕ)) (c : Core) : Type 0 where
  pub honest : EachWorker c (λ i w. IsHonest ranked charges start w)
  pub conserved : (x : List ℕ) →
      sum_of (own_count x) c.workers + sum_of (times same_list x) c.shared.deques
      ≡ times same_list x owed + sum_of (split_count (task_at ranked charges) x) c.workers
  pub counted : before + sum_of tickets_of c.workers ≡ min c.shared.drawn budget

-- a worker knows no less than the least loss, but where it is to publish the loss of its plan
pub record Knows (least : ℕ) (w : Parts) : Type 0 where
  pub known : w.phase ≢ Publishing → least ≤ w.known
  pub publishes :
      w.phase ≡ Publishing →
      (kept : Start) × (w.best ≡ Some kept) × (kept.loss ≡ w.known)

-- some worker keeps a plan that loses no more than a loss
pub record HasPlan (c : Core) (loss : ℕ) : Type 0 where
  pub number : ℕ
  pub there : number < length c.workers
  pub plan : Start
  pub keeps : (worker c number).best ≡ Some plan
  pub at_most : plan.loss ≤ loss

-- the least loss is the one at the start, or a worker has a plan for it
pub record IsFound (start : ℕ) (c : Core) : Type 0 where
  pub each : EachWorker c (λ i w. Knows c.shared.least w)
  pub plan : (c.shared.least ≡ start) ⊎ HasPlan c c.shared.least

-- of a plan and the plans that some workers keep, one that loses least, of equal ones the first
abbrev pub best_of : Start → List Parts → Start
best_of start [] = start
best_of start (w ∷ ws) = best_of (better_of start w.best) ws

-- all of it
pub record Keeps (ranked : RankedOrders) (charges : ChargeTable) (start budget before : ℕ)
    (owed : List (List ℕ)) (c : Core) : Type 0 where
  pub steady : IsSteady ranked charges budget c
  pub good : IsGood ranked charges start budget before owed c
  pub found : IsFound start c

-- the last state of a run
pub record IsLast (ranked : RankedOrders) (charges : ChargeTable) (start budget before : ℕ)
    (owed : List (List ℕ)) (c : Core) : Type 0 where
  pub kept : Keeps ranked charges start budget before owed c
  pub ends : IsAtEnd budget c

-- a state at which its workers may stop, however they came there: each of them is calm
pub record MayStop (ranked : RankedOrders) (charges : ChargeTable) (start budget before : ℕ)
    (owed : List (List ℕ)) (c : Core) : Type 0 where
  pub some : 0 < length c.workers
  pub good : IsGood ranked charges start budget before owed c
  pub found : IsFound start c
  pub calm : EachWorker c (λ i w. is_calm w.phase ≡ true)
