-- How a run of a machine ends, and what is left to do until then.
use Rattle.std.specs.Prelude.{ℕ, ◌+◌, ◌*◌, ◌-◌, ◌<◌, ◌≡◌, ◌⊎◌, Bool, true, false, ◌&&◌, ◌||◌, not}
use Rattle.std.specs.Prelude.{length}
use Rattle.std.specs.List.{list_all}
use Rattle.list_laws.specs.Sets.{total}
use Rattle.search_step.specs.Parts.{Parts}
use Rattle.search_step.specs.declared.parts.Phase.{Phase}
use Rattle.search_step.specs.declared.parts.Phase.TheVariants.{Resting, Taking, Stealing, Holding}
use Rattle.search_step.specs.declared.parts.Phase.TheVariants.{Halting, Ended, Bounding}
use Rattle.search_step.specs.declared.parts.Phase.TheVariants.{Closing as ClosingNow, Publishing}
use Rattle.search_step.specs.declared.parts.Phase.TheVariants.{Pushing}
use Rattle.core_machine.specs.Core.{Core, any_busy, deque, is_empty, worker}
use Rattle.core_machine.specs.Counts.{sum_of}
use Rattle.core_machine.specs.Steady.{EachWorker}

-- no path is left in a deque, held or waiting
abbrev pub is_drained : Core → Bool
is_drained c = list_all is_empty c.shared.deques && not (any_busy c.workers)

-- whether a resting worker answers Stopped
abbrev pub is_over : Core → Bool
is_over c = c.shared.halted || is_drained c

-- A bound on the steps that a worker takes until it draws a ticket or takes a path, where a path
-- has at most so many children.
abbrev pub phase_weight : ℕ → Phase → ℕ → ℕ
phase_weight orders Ended waiting = 0
phase_weight orders Halting waiting = 1
phase_weight orders Holding waiting = 2
phase_weight orders Resting waiting = 3
phase_weight orders Taking waiting = 3
phase_weight orders Stealing waiting = 3
phase_weight orders Pushing waiting = 3 + waiting
phase_weight orders Publishing waiting = 4
phase_weight orders ClosingNow waiting = orders + 5
phase_weight orders Bounding waiting = orders + 6

abbrev pub weight : ℕ → Parts → ℕ
weight orders w = phase_weight orders w.phase (length w.waiting)

-- a ticket pays for a whole closing
abbrev pub left_to_do : ℕ → ℕ → Core → ℕ
left_to_do orders budget c =
    (orders + 5) * (budget - c.shared.drawn) + sum_of (weight orders) c.workers

-- how many idle steps a worker is from its rest, where all is over, or else from a path in its own
-- deque
abbrev pub distance : Bool → Bool → Phase → ℕ
distance true empty Taking = 2
distance true empty Stealing = 1
distance false false Stealing = 3
distance false false Resting = 2
distance false false Taking = 1
distance over empty phase = 0

abbrev pub far_from : Core → ℕ → ℕ
far_from c i = distance (is_over c) (is_empty (deque c.shared i)) (worker c i).phase

-- the measure of the rounds: each round in which not every event answers Stopped lowers it
abbrev pub measure : ℕ → ℕ → Core → ℕ
measure orders budget c =
    left_to_do orders budget c * (3 * length c.workers + 1) + total (length c.workers) (far_from c)

-- whether a worker in a phase has neither a ticket for a path in work nor a plan to publish
abbrev pub is_calm : Phase → Bool
is_calm Resting = true
is_calm Taking = true
is_calm Stealing = true
is_calm Holding = true
is_calm Halting = true
is_calm Ended = true
is_calm Pushing = true
is_calm Bounding = false
is_calm ClosingNow = false
is_calm Publishing = false

-- each worker is calm, and either more tickets are drawn than there are or no path is left
pub record IsAtEnd (budget : ℕ) (c : Core) : Type 0 where
  pub calm : EachWorker c (λ i w. is_calm w.phase ≡ true)
  pub over : (budget < c.shared.drawn) ⊎ (is_drained c ≡ true)
