-- Workers that take turns over one plain hand.
use Rattle.std.specs.Prelude.{ℕ, suc, ◌≡◌, ◌<◌, ◌≤◌, Bool, true, false, List, [], ◌∷◌, map}
use Rattle.std.specs.Prelude.{length}
use Rattle.mill_model.specs.Charges.{ChargeTable}
use Rattle.mill_model.specs.declared.limits.TheConstants.{MAX_NODES}
use Rattle.mill_model.specs.declared.closing.Entry.{Entry}
use Rattle.order_symmetry.specs.Ranked.{RankedOrders, IsRanked}
use Rattle.refute_log.specs.Pieces.{Pieced}
use Rattle.search_step.specs.Parts.{Parts}
use Rattle.search_step.specs.Worker.{WorkerParts}
use Rattle.search_step.specs.declared.parts.Phase.{Phase}
use Rattle.search_step.specs.declared.parts.Phase.TheVariants.{Resting, Taking, Stealing, Holding}
use Rattle.search_step.specs.declared.parts.Phase.TheVariants.{Halting, Ended, Bounding}
use Rattle.search_step.specs.declared.parts.Phase.TheVariants.{Closing as ClosingNow, Publishing}
use Rattle.search_step.specs.declared.parts.Phase.TheVariants.{Pushing}
use Rattle.search_step.specs.declared.parts.Turn.{Turn}
use Rattle.search_step.specs.declared.parts.Turn.TheVariants.{Moved, Drew, Idle, Stopped}
use Rattle.search_step.specs.declared.parts.Turn.TheVariants.{OutOfMemory}
use Rattle.core_machine.specs.Core.{Core, first_state, with_pushed}
use Rattle.core_machine.specs.Steady.{IsSteady}

-- what they go by, the budget of tickets, and the state of their machine
pub record CrewState : Type 0 where
  pub ranked : RankedOrders
  pub charges : ChargeTable
  pub budget : ℕ
  pub core : Core

abbrev pub parts_of : List WorkerParts → List Parts
parts_of = map (λ w. w.parts)

-- a worker that goes by these orders and charges and has this number among so many
pub record IsMember (ranked : RankedOrders) (charges : ChargeTable) (workers number : ℕ)
    (w : WorkerParts) : Type 0 where
  pub orders : w.ranked ≡ ranked
  pub table : w.charges ≡ charges
  pub among : w.workers ≡ workers
  pub who : w.number ≡ number

-- workers that go by the same, with the numbers from one on
abbrev pub AreMembers : RankedOrders → ChargeTable → ℕ → ℕ → List WorkerParts → Type 0
AreMembers ranked charges workers number [] = Unit {0}
AreMembers ranked charges workers number (w ∷ ws) =
    IsMember ranked charges workers number w × AreMembers ranked charges workers (suc number) ws

-- so many workers of a crew
pub record IsCrew (ranked : RankedOrders) (charges : ChargeTable) (workers : ℕ)
    (ws : List WorkerParts) : Type 0 where
  pub some : 0 < workers
  pub long : length ws ≡ workers
  pub members : AreMembers ranked charges workers 0 ws

-- new workers, with some paths in deque 0
abbrev pub crew_with : RankedOrders → ChargeTable → ℕ → ℕ → ℕ → ℕ → List (List ℕ) → CrewState
crew_with ranked charges nodes workers loss drawn paths = record {
  ranked = ranked;
  charges = charges;
  budget = nodes;
  core = first_state workers (length ranked.placed) loss drawn paths;
}

-- with one more path in deque 0
abbrev pub with_given : CrewState → List ℕ → CrewState
with_given c path =
    record c {
      core = record {
        shared = with_pushed c.core.shared 0 path;
        workers = c.core.workers;
      };
    }

-- with more paths there
abbrev pub with_all_given : CrewState → List (List ℕ) → CrewState
with_all_given c [] = c
with_all_given c (path ∷ paths) = with_all_given (with_given c path) paths

-- the records of some pieces
abbrev pub entries_of : List Pieced → List (List Entry)
entries_of = map (λ piece. piece.entries)

-- whether a worker holds a path or has a child that waits in a phase
abbrev pub has_path : Phase → Bool
has_path Resting = false
has_path Taking = false
has_path Stealing = false
has_path Publishing = false
has_path Holding = true
has_path Halting = true
has_path Ended = true
has_path Bounding = true
has_path ClosingNow = true
has_path Pushing = true

-- the answer and the state are those of the machine's event, unless memory was refused
abbrev pub Goes : Turn → Core × Turn → Core → Type 0
Goes Moved next c = (c ≡ next.0) × (Moved ≡ next.1)
Goes Drew next c = (c ≡ next.0) × (Drew ≡ next.1)
Goes Idle next c = (c ≡ next.0) × (Idle ≡ next.1)
Goes Stopped next c = (c ≡ next.0) × (Stopped ≡ next.1)
Goes OutOfMemory next c = Unit {0}

-- workers that may make turns
pub record IsReady (c : CrewState) : Type 0 where
  pub ranks : IsRanked c.ranked
  pub nodes : c.budget ≤ MAX_NODES
  pub steady : IsSteady c.ranked c.charges c.budget c.core

-- what turns don't change
pub record SameRun (before after : CrewState) : Type 0 where
  pub ranked : after.ranked ≡ before.ranked
  pub charges : after.charges ≡ before.charges
  pub budget : after.budget ≡ before.budget
