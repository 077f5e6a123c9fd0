-- The first state of a run: its workers have nothing, and deque 0 has the paths to close.
use Rattle.std.proofs.Common.{ℕ, zero, suc, ◌<◌, ◌≤◌, ◌≡◌, min, true, false, List, []}
use Rattle.std.proofs.Common.{length, set, get_or, replicate, Some, None, refl, sym, ap}
use Rattle.std.proofs.Common.{◌∙◌, subst, arith, inl, length-set}
use Rattle.std.specs.List.{AllByRecursion}
use Rattle.std.proofs.lemmas.List.{get_or-map, length-map, length-replicate}
use Rattle.list_laws.specs.Sets.{below, times, same_list}
use Rattle.list_laws.proofs.Lists.{length-below}
use Rattle.mill_model.specs.Charges.{ChargeTable}
use Rattle.order_symmetry.specs.Ranked.{RankedOrders}
use Rattle.search_step.specs.Honest.{IsHonest}
use Rattle.search_step.specs.Moves.{new_worker}
use Rattle.search_step.specs.Parts.{Parts}
use Rattle.search_step.specs.Serving.{IsPathOf}
use Rattle.search_step.specs.Steps.{IsSafe, task_at}
use Rattle.search_step.specs.declared.parts.Phase.TheVariants.{Ended}
use Rattle.search_step.proofs.Branches.{after-below, after-other}
use Rattle.search_step.proofs.StaysHonest.{new-honest}
use Rattle.core_machine.proofs.Lists.{all-of-map, all-replicate, all-set, sum-none}
use Rattle.core_machine.proofs.Plans.{get-below}
use Rattle.core_machine.specs.Core.{first_state, new_workers, no_worker}
use Rattle.core_machine.specs.Counts.{sum_of, own_count, split_count, tickets_of}
use Rattle.core_machine.specs.Kept.{IsFound, IsGood, Knows}
use Rattle.core_machine.specs.Steady.{EachWorker, IsSteady, has_spent}

module _ (ranked : RankedOrders) (charges : ChargeTable) (workers orders loss : ℕ) where
  abbrev new : ℕ → Parts
  new = new_worker workers orders loss

  pub workers-count : length (new_workers workers orders loss) ≡ workers
  workers-count = length-map (below workers) new ∙ length-below workers

  new-at : (i : ℕ) → i < workers → get_or (new_workers workers orders loss) i no_worker ≡ new i
  new-at i l =
      get_or-map new (below workers) i 0 no_worker (omega (arith, l, length-below workers))
      ∙ ap new (get-below workers i l)

  module _ (drawn : ℕ) (paths : List (List ℕ)) where
    each-new : (P : ℕ → Parts → Type 0) → ((i : ℕ) → i < workers → P i (new i)) →
        EachWorker (first_state workers orders loss drawn paths) P
    each-new P h i l =
        let e = workers-count in
        let k : i < workers = omega (arith, l, e) in
        subst (λ (w : Parts). P i w) (sym (new-at i k)) (h i k)

    none-each : (f : Parts → ℕ) → ((i : ℕ) → f (new i) ≡ 0) →
        sum_of f (new_workers workers orders loss) ≡ 0
    none-each f h =
        sum-none f (new_workers workers orders loss)
        (all-of-map (λ w. f w ≡ 0) new (below workers) h)

    new-safe : orders ≡ length ranked.placed → (i : ℕ) → i < workers →
        IsSafe ranked charges workers i (new i)
    new-safe long i l = record {
      held = λ path e. absurd (none-some path e);
      waiting = tt;
      victim = λ e. absurd (cc);
      next = λ several. (
        after-below workers i (omega (arith, several)),
        after-other workers i l several,
      );
      held_in = refl;
      waiting_in = refl;
      orders = long;
      stored = tt;
      room = refl;
    }
      where
        none-some : (path : List ℕ) → None ≡ Some path → ⊥
        none-some path e = cc

    false-true : false ≡ true → ⊥
    false-true e = cc

    pub steady-first : (budget : ℕ) → 0 < workers → workers ≤ 64 →
        orders ≡ length ranked.placed → drawn ≤ budget →
        AllByRecursion (IsPathOf ranked) paths →
        IsSteady ranked charges budget (first_state workers orders loss drawn paths)
    steady-first budget some few long within tree =
        let n = workers-count in
        record {
          some = omega (arith, n, some);
          few = omega (arith, n, few);
          full = length-set (replicate workers []) 0 paths ∙ length-replicate workers [] ∙ sym n;
          safe = subst (λ (k : ℕ). EachWorker (first_state workers orders loss drawn paths)
              (IsSafe ranked charges k)) (sym n)
              (each-new (IsSafe ranked charges workers) (new-safe long));
          queued = all-set (AllByRecursion (IsPathOf ranked)) (replicate workers []) 0 paths
              (all-replicate (AllByRecursion (IsPathOf ranked)) workers [] tt) tree;
          halted = λ e. absurd (false-true e);
          spent = each-new (λ i w. has_spent w.phase ≡ true → budget < drawn)
              (λ i l e. absurd (false-true e));
          ended = each-new (λ i w. w.phase ≡ Ended → false ≡ true) (λ i l e. absurd (cc));
          drawn = omega (arith, within);
        }

    first-deque : (x : List ℕ) (n : ℕ) → 0 < n →
        sum_of (times same_list x) (set (replicate n []) 0 paths) ≡ times same_list x paths
    first-deque x zero l = absurd (omega arith)
    first-deque x (suc n) l =
        let z : sum_of (times same_list x) (replicate n []) ≡ 0 =
        sum-none (times same_list x) (replicate n [])
        (all-replicate (λ d. times same_list x d ≡ 0) n [] refl) in
        omega arith

    pub good-first : (budget before : ℕ) → 0 < workers → before ≡ min drawn budget →
        IsGood ranked charges loss budget before paths
        (first_state workers orders loss drawn paths)
    good-first budget before some count = record {
      honest = each-new (λ i w. IsHonest ranked charges loss w)
          (λ i l. new-honest ranked charges workers orders loss i);
      conserved = λ x. (
          let a = none-each (own_count x) (λ i. refl) in
          let b = none-each (split_count (task_at ranked charges) x) (λ i. refl) in
          let d = first-deque x workers some in
          omega (arith, a, b, d));
      counted = (let a = none-each tickets_of (λ i. refl) in omega (arith, a, count));
    }

    pub found-first : IsFound loss (first_state workers orders loss drawn paths)
    found-first = record {
      each = each-new (λ i w. Knows loss w) (λ i l. record {
        known = λ n. omega arith;
        publishes = λ e. absurd (cc);
      });
      plan = inl refl;
    }
