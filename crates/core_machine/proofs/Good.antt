-- Each event keeps paths and tickets.
use Rattle.std.proofs.Common.{ℕ, zero, suc, ◌+◌, ◌<◌, ◌≤◌, ◌≡◌, min, Bool, true, false, ltb}
use Rattle.std.proofs.Common.{List, [], ◌∷◌, ◌++◌, length, set, get_or, Option, Some, None}
use Rattle.std.proofs.Common.{option_to_list, refl, sym, ap, ◌∙◌, arith, ltb-true, ltb-false}
use Rattle.list_laws.specs.Sets.{times, same_list}
use Rattle.list_laws.proofs.Times.{times-append}
use Rattle.mill_model.specs.Charges.{ChargeTable}
use Rattle.mill_model.specs.Log.{Task}
use Rattle.mill_model.specs.declared.limits.Draw.{Draw}
use Rattle.order_symmetry.specs.Ranked.{RankedOrders}
use Rattle.search_step.specs.Accounts.{came, went, tickets, ticket, DidMaybe}
use Rattle.search_step.specs.Honest.{IsHonest, KeepsHonest}
use Rattle.search_step.specs.Moves.{last_of, front}
use Rattle.search_step.specs.Parts.{Parts}
use Rattle.search_step.specs.Serving.{draw_at}
use Rattle.search_step.specs.Steps.{FitsMill, task_at}
use Rattle.search_step.specs.declared.event.Event.{Event}
use Rattle.search_step.specs.declared.event.Event.TheVariants.{Took, Stole, Pushed, Refused}
use Rattle.search_step.specs.declared.event.Event.TheVariants.{Drew as DrewEvent, Looked, Published}
use Rattle.search_step.specs.declared.event.Event.TheVariants.{Stopping, Stood}
use Rattle.search_step.proofs.StaysHonest.{steps-stay-honest}
use Rattle.core_machine.proofs.Lists.{sum-set}
use Rattle.core_machine.proofs.Steady.{each-with, event-is-step, event-keeps}
use Rattle.core_machine.specs.Calls.{called}
use Rattle.core_machine.specs.Core.{Core, Shared, any_busy, deque, event, first_of, no_worker, step}
use Rattle.core_machine.specs.Core.{tail_of, worker}
use Rattle.core_machine.specs.Counts.{sum_of, own_count, split_count, tickets_of}
use Rattle.core_machine.specs.Kept.{IsGood}
use Rattle.core_machine.specs.Steady.{IsSteady}

-- How often a path stands in the deques.
module _ (x : List ℕ) where
  abbrev t : List (List ℕ) → ℕ
  t paths = times same_list x paths

  loses : (ds : List (List (List ℕ))) (j a : ℕ) (paths : List (List ℕ)) →
      t (get_or ds j []) ≡ t paths + a → sum_of t (set ds j paths) + a ≡ sum_of t ds
  loses [] j a paths e = none a e
    where
      none : (a : ℕ) → 0 ≡ t paths + a → 0 + a ≡ 0
      none a e = omega arith
  loses (d ∷ ds) zero a paths e = omega (arith, e)
  loses (d ∷ ds) (suc j) a paths e =
      let ih : sum_of t (set ds j paths) + a ≡ sum_of t ds = loses ds j a paths e in omega arith

  gains : (ds : List (List (List ℕ))) (j a : ℕ) (paths : List (List ℕ)) → j < length ds →
      t paths ≡ t (get_or ds j []) + a → sum_of t (set ds j paths) ≡ sum_of t ds + a
  gains [] j a paths l e = absurd (omega arith)
  gains (d ∷ ds) zero a paths l e = omega (arith, e)
  gains (d ∷ ds) (suc j) a paths l e =
      let ih : sum_of t (set ds j paths) ≡ sum_of t ds + a =
      gains ds j a paths (omega arith) e in
      omega arith

  last-count : (d : List (List ℕ)) → t d ≡ t (front d) + t (option_to_list (last_of d))
  last-count [] = refl
  last-count (y ∷ []) = omega arith
  last-count (y ∷ z ∷ d) =
      let ih : t (z ∷ d) ≡ t (front (z ∷ d)) + t (option_to_list (last_of (z ∷ d))) =
      last-count (z ∷ d) in
      omega arith

  first-count : (d : List (List ℕ)) → t d ≡ t (tail_of d) + t (option_to_list (first_of d))
  first-count [] = refl
  first-count (y ∷ d) = omega arith

  zero-both : (a b : ℕ) → a ≡ b → a + t [] ≡ b + t []
  zero-both a b e = omega (arith, e)

  module _ (budget number : ℕ) (busy : Bool) (s s' : Shared) where
    abbrev all : Shared → ℕ
    all v = sum_of t v.deques

    same-deques : s' ≡ s → all s' + t [] ≡ all s + t []
    same-deques e = zero-both (all s') (all s) (ap all e)

    -- what came from the deques and what went into them
    pub deques-count : (e : Option Event) → number < length s.deques →
        DidMaybe (called budget number busy) s e s' → all s' + t (came e) ≡ all s + t (went e)
    deques-count None l d = same-deques d
    deques-count (Some (Took path)) l d =
        let rest : List (List ℕ) = front (deque s number) in
        let q : all s' ≡ sum_of t (set s.deques number rest) = ap all d.1 in
        let r : t (option_to_list path) ≡ t (option_to_list (last_of (deque s number))) =
        ap (λ o. t (option_to_list o)) d.0 in
        let k : sum_of t (set s.deques number rest) + t (option_to_list (last_of (deque s number)))
        ≡ all s = loses s.deques number _ rest (last-count (deque s number)) in
        omega (arith, zero-both 0 0 refl)
    deques-count (Some (Stole victim path)) l d =
        let rest : List (List ℕ) = tail_of (deque s victim) in
        let q : all s' ≡ sum_of t (set s.deques victim rest) = ap all d.1 in
        let r : t (option_to_list path) ≡ t (option_to_list (first_of (deque s victim))) =
        ap (λ o. t (option_to_list o)) d.0 in
        let k : sum_of t (set s.deques victim rest)
        + t (option_to_list (first_of (deque s victim))) ≡ all s =
        loses s.deques victim _ rest (first-count (deque s victim)) in
        omega (arith, zero-both 0 0 refl)
    deques-count (Some (Pushed path)) l d =
        let more : List (List ℕ) = deque s number ++ path ∷ [] in
        let q : all s' ≡ sum_of t (set s.deques number more) = ap all d in
        let k : sum_of t (set s.deques number more) ≡ all s + t (path ∷ []) =
        gains s.deques number _ more l (times-append same_list x (deque s number) (path ∷ [])) in
        omega (arith, zero-both 0 0 refl)
    deques-count (Some (Refused path)) l d = same-deques d
    deques-count (Some (DrewEvent draw)) l d = zero-both (all s') (all s) (ap all d.1)
    deques-count (Some (Looked least)) l d = same-deques d.1
    deques-count (Some (Published loss before)) l d = zero-both (all s') (all s) (ap all d.1)
    deques-count (Some Stopping) l d = zero-both (all s') (all s) (ap all d)
    deques-count (Some (Stood stands)) l d = same-deques d.1

-- How many tickets within the budget were drawn.
module _ (budget number : ℕ) (busy : Bool) (s s' : Shared) where
  abbrev within : Shared → ℕ
  within v = min v.drawn budget

  plus : within s' ≡ within s → within s' ≡ within s + 0
  plus e = omega (arith, e)

  one-more : min (s.drawn + 1) budget ≡ within s + ticket (draw_at budget s.drawn)
  one-more = go (ltb s.drawn budget) refl
    where
      go : (b : Bool) → ltb s.drawn budget ≡ b →
          min (s.drawn + 1) budget ≡ within s + ticket (draw_at budget s.drawn)
      go true e = let l : s.drawn < budget = ltb-true _ _ e in rw e (omega arith)
      go false e = let l : budget ≤ s.drawn = ltb-false _ _ e in rw e (omega arith)

  pub tickets-count : (e : Option Event) → DidMaybe (called budget number busy) s e s' →
      within s' ≡ within s + tickets e
  tickets-count None d = plus (ap within d)
  tickets-count (Some (Took path)) d = plus (ap within d.1)
  tickets-count (Some (Stole victim path)) d = plus (ap within d.1)
  tickets-count (Some (Pushed path)) d = plus (ap within d)
  tickets-count (Some (Refused path)) d = plus (ap within d)
  tickets-count (Some (DrewEvent draw)) d =
      ap within d.1 ∙ one-more ∙ ap (λ (v : Draw). within s + ticket v) (sym d.0)
  tickets-count (Some (Looked least)) d = plus (ap within d.1)
  tickets-count (Some (Published loss before)) d = plus (ap within d.1)
  tickets-count (Some Stopping) d = plus (ap within d)
  tickets-count (Some (Stood stands)) d = plus (ap within d.1)

module _ (ranked : RankedOrders) (charges : ChargeTable) (budget : ℕ)
    (fit : FitsMill ranked charges) where
  abbrev task : Task
  task = task_at ranked charges

  module _ (c : Core) (i : ℕ) (l : i < length c.workers)
      (steady : IsSteady ranked charges budget c) where
    abbrev w : Parts
    w = worker c i

    abbrev w' : Parts
    w' = (step ranked charges budget c i).1.0

    abbrev s' : Shared
    s' = (step ranked charges budget c i).0

    pub event-honest :
        KeepsHonest ranked charges (worker c i) (step ranked charges budget c i).1.0
    event-honest =
        steps-stay-honest (called budget i (any_busy c.workers)) ranked charges (length c.workers)
        i w c.shared s' l steady.few fit (steady.safe i l) (step ranked charges budget c i).1.1 w'
        (event-is-step ranked charges budget fit.of_instance c i l steady)

    pub good-event : (start before : ℕ) (owed : List (List ℕ)) →
        IsGood ranked charges start budget before owed c →
        IsGood ranked charges start budget before owed (event ranked charges budget c i).0
    good-event start before owed good =
        let keeps = event-keeps ranked charges budget fit.of_instance c i l steady in
        let place : i < length c.shared.deques =
        (let e : length c.shared.deques ≡ length c.workers = steady.full in omega arith) in
        record {
          honest = each-with (λ j v. IsHonest ranked charges start v)
              (λ j v. IsHonest ranked charges start v) c i s' (step ranked charges budget c i).1 l
              good.honest (λ j v h. h) (event-honest.keeps start (good.honest i l));
          conserved = λ x. (
              let a : own_count x w' + split_count task x w + times same_list x (went keeps.event)
              ≡ own_count x w + split_count task x w'
              + times same_list x (came keeps.event) = keeps.accounts.paths x in
              let b : sum_of (own_count x) (set c.workers i w') + own_count x w
              ≡ sum_of (own_count x) c.workers + own_count x w' =
              sum-set (own_count x) c.workers i w' no_worker l in
              let d : sum_of (split_count task x) (set c.workers i w') + split_count task x w
              ≡ sum_of (split_count task x) c.workers + split_count task x w' =
              sum-set (split_count task x) c.workers i w' no_worker l in
              let e : sum_of (times same_list x) s'.deques + times same_list x (came keeps.event)
              ≡ sum_of (times same_list x) c.shared.deques
              + times same_list x (went keeps.event) =
              deques-count x budget i (any_busy c.workers) c.shared s' keeps.event place
              keeps.happened in
              let f : sum_of (own_count x) c.workers + sum_of (times same_list x) c.shared.deques
              ≡ times same_list x owed + sum_of (split_count task x) c.workers =
              good.conserved x in
              omega arith);
          counted = (
              let a : tickets_of w' ≡ tickets_of w + tickets keeps.event =
              keeps.accounts.records in
              let b : sum_of tickets_of (set c.workers i w') + tickets_of w
              ≡ sum_of tickets_of c.workers + tickets_of w' =
              sum-set tickets_of c.workers i w' no_worker l in
              let d : min s'.drawn budget ≡ min c.shared.drawn budget + tickets keeps.event =
              tickets-count budget i (any_busy c.workers) c.shared s' keeps.event
              keeps.happened in
              let f : before + sum_of tickets_of c.workers ≡ min c.shared.drawn budget =
              good.counted in
              omega arith);
        }
