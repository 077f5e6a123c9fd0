-- Workers that may make turns still may after one, and after a round; each round in which not every
-- worker stopped leaves less to do.
use Rattle.std.proofs.Common.{ℕ, suc, ◌+◌, ◌^◌, ◌<◌, ◌≤◌, ◌≡◌, Bool, true, false, cond, List}
use Rattle.std.proofs.Common.{[], ◌∷◌, length, sym, subst, arith}
use Rattle.std.specs.List.{AllByRecursion}
use Rattle.order_symmetry.specs.Ranked.{IsRanked}
use Rattle.search_step.specs.Parts.{Parts}
use Rattle.search_step.specs.Serving.{IsPathOf}
use Rattle.core_machine.specs.Core.{Core, deque}
use Rattle.core_machine.specs.Counts.{sum_of}
use Rattle.core_machine.specs.Steady.{IsSteady, has_spent, spent_by}
use Rattle.core_machine.proofs.Lists.{all-get-or}
use Rattle.core_replay.specs.Crew.{CrewState, IsReady, SameRun}

spent-at-most : (ws : List Parts) → sum_of spent_by ws ≤ length ws
spent-at-most [] = omega arith
spent-at-most (w ∷ ws) = go (has_spent w.phase) (spent-at-most ws)
  where
    go : (b : Bool) → sum_of spent_by ws ≤ length ws →
        cond b 1 0 + sum_of spent_by ws ≤ suc (length ws)
    go true l = omega (arith, l)
    go false l = omega (arith, l)

-- the number of tickets is far below the greatest of 64 bits
pub few-drawn : (c : CrewState) → IsReady c → c.core.shared.drawn + 1 < 2 ^ 64
few-drawn c ready =
    omega (arith, ready.nodes, ready.steady.drawn, ready.steady.few, spent-at-most c.core.workers)

pub queued-at : (c : CrewState) → IsReady c → (j : ℕ) →
    AllByRecursion (IsPathOf c.ranked) (deque c.core.shared j)
queued-at c ready j =
    all-get-or (AllByRecursion (IsPathOf c.ranked)) c.core.shared.deques j [] ready.steady.queued tt

-- what is so of one crew is so of another that goes by the same
pub same-ready : (b c : CrewState) (core : Core) → SameRun b c → c.core ≡ core →
    IsReady (record b { core = core }) → IsReady c
same-ready b c core same e ready = record {
  ranks = subst IsRanked (sym same.ranked) ready.ranks;
  nodes = omega (arith, ready.nodes, same.budget);
  steady =
      subst (λ (v : Core). IsSteady c.ranked c.charges c.budget v) (sym e)
      (subst (λ n. IsSteady c.ranked c.charges n core) (sym same.budget)
      (subst (λ x. IsSteady c.ranked x b.budget core) (sym same.charges)
      (subst (λ r. IsSteady r b.charges b.budget core) (sym same.ranked) ready.steady)));
}
