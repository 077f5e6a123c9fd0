-- Each event keeps a state steady, and so do a schedule and a round.
use Rattle.std.proofs.Common.{ℕ, ◌+◌, ◌<◌, ◌≤◌, ◌≡◌, ◌⊎◌, Bool, true, false, cond}
use Rattle.std.proofs.Common.{eqb, ltb, List, [], ◌∷◌, ◌++◌, length, set, get_or}
use Rattle.std.proofs.Common.{Option, Some, None, refl, sym, ap, ◌∙◌, subst, arith, inl, inr}
use Rattle.std.proofs.Common.{eqb-true, eq-eqb, ltb-true, ltb-false, length-set}
use Rattle.std.proofs.Common.{get_or-set_same, get_or-set_other}
use Rattle.std.specs.List.{AllByRecursion}
use Rattle.list_laws.proofs.Among.{each-append}
use Rattle.list_laws.proofs.Tests.{either, clash}
use Rattle.mill_model.specs.Charges.{ChargeTable}
use Rattle.mill_model.specs.declared.limits.Draw.TheVariants.{Ticket, Spent}
use Rattle.mill_model.specs.declared.limits.Standing.{Standing}
use Rattle.mill_model.specs.declared.limits.Standing.TheVariants.{Going, Halted, Drained}
use Rattle.order_symmetry.specs.Ranked.{RankedOrders, IsRanked}
use Rattle.search_step.specs.Accounts.{Keeps}
use Rattle.search_step.specs.Parts.{Parts}
use Rattle.search_step.specs.Moves.{Moves, rested, took, stole, drew, commits}
use Rattle.search_step.specs.Moves.{last_of, front, pushing_or_resting}
use Rattle.search_step.specs.Serving.{IsPathOf, draw_at}
use Rattle.search_step.specs.Steps.{IsSafe, Steps}
use Rattle.search_step.specs.declared.parts.Phase.{Phase}
use Rattle.search_step.specs.declared.parts.Phase.TheVariants.{Resting, Taking, Stealing, Holding}
use Rattle.search_step.specs.declared.parts.Phase.TheVariants.{Halting, Ended, Bounding}
use Rattle.search_step.specs.declared.parts.Phase.TheVariants.{Closing as ClosingNow, Publishing}
use Rattle.search_step.specs.declared.parts.Phase.TheVariants.{Pushing}
use Rattle.search_step.specs.declared.parts.Verdict.{Verdict}
use Rattle.search_step.specs.declared.parts.Verdict.TheVariants.{Better, Plain, ByPrices, ByOther}
use Rattle.search_step.specs.declared.parts.Verdict.TheVariants.{Open}
use Rattle.search_step.proofs.Kept.{steps-keep}
use Rattle.core_machine.proofs.Lists.{all-set, all-get-or, sum-set}
use Rattle.core_machine.proofs.Steps.{all-last, event-steps}
use Rattle.core_machine.specs.Calls.{called}
use Rattle.core_machine.specs.Core.{Core, Shared, any_busy, closed_held, deque, event, no_worker}
use Rattle.core_machine.specs.Core.{step, step_in, push_last, worker, with_draw, with_worker}
use Rattle.core_machine.specs.Core.{standing, tail_of}
use Rattle.core_machine.specs.Counts.{sum_of}
use Rattle.core_machine.specs.Steady.{EachWorker, IsSteady, has_spent, spent_by}

-- what is so of each worker, after one of them is replaced
pub each-with : (P Q : ℕ → Parts → Type 0) (c : Core) (i : ℕ) (s : Shared) (m : Moves) →
    i < length c.workers → EachWorker c P → ((j : ℕ) (w : Parts) → P j w → Q j w) → Q i m.0 →
    EachWorker (with_worker c i s m).0 Q
each-with P Q c i s m l each weaker new j k = elim (either (eqb j i)) [
  | inl e ↦ (let same : j ≡ i = eqb-true j i e in
      subst (λ (n : ℕ). Q n (get_or (set c.workers i m.0) n no_worker)) (sym same)
      (subst (λ (w : Parts). Q i w) (sym (get_or-set_same c.workers i m.0 no_worker l)) new))
  | inr e ↦ (let n : length (set c.workers i m.0) ≡ length c.workers =
      length-set c.workers i m.0 in
      subst (λ (w : Parts). Q j w) (sym (get_or-set_other c.workers i j m.0 no_worker
      (λ q. clash (eqb j i) (eq-eqb j i q) e))) (weaker j (worker c j) (each j (omega arith))))
]

pub taken-spent : (workers : ℕ) (w : Parts) (path : Option (List ℕ)) →
    has_spent (took workers w path).0.phase ≡ false
taken-spent workers w None = go (ltb 1 workers)
  where
    go : (b : Bool) → has_spent (cond b Stealing Resting) ≡ false
    go true = refl
    go false = refl
taken-spent workers w (Some path) = refl

pub stolen-spent : (workers i : ℕ) (w : Parts) (path : Option (List ℕ)) →
    has_spent (stole workers i w path).0.phase ≡ false
stolen-spent workers i w None = refl
stolen-spent workers i w (Some path) = refl

pub pushing-spent : (paths : List (List ℕ)) → has_spent (pushing_or_resting paths) ≡ false
pushing-spent [] = refl
pushing-spent (path ∷ paths) = refl

committed-spent : (path : List ℕ) (w : Parts) (v : Verdict) →
    has_spent (commits path w v).phase ≡ false
committed-spent path w (Better best) = refl
committed-spent path w Plain = refl
committed-spent path w (ByPrices prices) = refl
committed-spent path w (ByOther other) = refl
committed-spent path w (Open paths _) = pushing-spent paths

pub closed-spent : (ranked : RankedOrders) (charges : ChargeTable) (w : Parts)
    (held : Option (List ℕ)) → has_spent (closed_held ranked charges w held).0.phase ≡ false
closed-spent ranked charges w None = refl
closed-spent ranked charges w (Some path) = committed-spent path w _

rested-spent : (w : Parts) (stands : Standing) → w.phase ≡ Resting →
    has_spent (rested w stands).0.phase ≡ false
rested-spent w Going e = refl
rested-spent w Halted e = ap has_spent e
rested-spent w Drained e = ap has_spent e

front-passes : (P : List ℕ → Type 0) (paths : List (List ℕ)) → AllByRecursion P paths →
    AllByRecursion P (front paths)
front-passes P [] a = tt
front-passes P (x ∷ []) a = tt
front-passes P (x ∷ y ∷ paths) a = (a.0, front-passes P (y ∷ paths) a.1)

tail-passes : (P : List ℕ → Type 0) (paths : List (List ℕ)) → AllByRecursion P paths →
    AllByRecursion P (tail_of paths)
tail-passes P [] a = tt
tail-passes P (x ∷ paths) a = a.1

false-true : false ≡ true → ⊥
false-true e = cc

module _ (ranked : RankedOrders) (charges : ChargeTable) (budget : ℕ) where
  -- what an event does to halts and tickets
  record Draws (c : Core) (w : Parts) (m : Shared × Moves) : Type 0 where
    more : c.shared.drawn ≤ m.0.drawn
    stays : c.shared.halted ≡ true → m.0.halted ≡ true
    halted : m.0.halted ≡ true → budget < m.0.drawn
    spent : has_spent m.1.0.phase ≡ true → budget < m.0.drawn
    ended : m.1.0.phase ≡ Ended → m.0.halted ≡ true
    few : (m.0.drawn ≤ budget)
        ⊎ (m.0.drawn + spent_by w ≤ c.shared.drawn + spent_by m.1.0)

  module _ (c : Core) (i : ℕ) (w : Parts)
      (halts : c.shared.halted ≡ true → budget < c.shared.drawn)
      (over : has_spent w.phase ≡ true → budget < c.shared.drawn)
      (last : w.phase ≡ Ended → c.shared.halted ≡ true) where
    -- where nothing is drawn and no halt is called
    no-draw : (m : Shared × Moves) → has_spent w.phase ≡ false → m.0.drawn ≡ c.shared.drawn →
        m.0.halted ≡ c.shared.halted → has_spent m.1.0.phase ≡ false → Draws c w m
    no-draw m before same calls after = record {
      more = omega arith;
      stays = λ e. calls ∙ e;
      halted = λ e. (let a : budget < c.shared.drawn = halts (sym calls ∙ e) in omega arith);
      spent = λ e. absurd (clash (has_spent m.1.0.phase) e after);
      ended = λ e. absurd (clash (has_spent m.1.0.phase) (ap has_spent e) after);
      few = inr (let p : spent_by w ≡ 0 = ap (λ b. cond b 1 0) before in
          let q : spent_by m.1.0 ≡ 0 = ap (λ b. cond b 1 0) after in omega arith);
    }

    draws : w.phase ≡ Holding →
        Draws c w (with_draw c.shared, drew w (draw_at budget c.shared.drawn))
    draws is = go (ltb c.shared.drawn budget) refl
      where
        free : spent_by w ≡ 0
        free = ap (λ (p : Phase). cond (has_spent p) 1 0) is

        go : (b : Bool) → ltb c.shared.drawn budget ≡ b →
            Draws c w (
              with_draw c.shared,
              drew w (cond b (Ticket c.shared.drawn) (Spent c.shared.drawn)),
            )
        go true e =
            let l : c.shared.drawn < budget = ltb-true _ _ e in
            record {
              more = omega arith;
              stays = λ q. q;
              halted = λ q. (let a : budget < c.shared.drawn = halts q in omega arith);
              spent = λ q. absurd (false-true q);
              ended = λ q. absurd (cc);
              few = inl (omega arith);
            }
        go false e =
            let l : budget ≤ c.shared.drawn = ltb-false _ _ e in
            record {
              more = omega arith;
              stays = λ q. q;
              halted = λ q. (let a : budget < c.shared.drawn = halts q in omega arith);
              spent = λ q. omega arith;
              ended = λ q. absurd (cc);
              few = inr (let f = free in omega arith);
            }

    draws-pushed : w.phase ≡ Pushing → (path : Option (List ℕ)) → Draws c w (push_last c i w path)
    draws-pushed is None = no-draw (c.shared, _) (ap has_spent is) refl refl refl
    draws-pushed is (Some path) =
        no-draw (push_last c i w (Some path)) (ap has_spent is) refl refl
        (pushing-spent (front w.waiting))

    draws-at : (phase : Phase) → w.phase ≡ phase →
        Draws c w (step_in ranked charges budget phase c i w)
    draws-at Resting is =
        no-draw (step_in ranked charges budget Resting c i w) (ap has_spent is) refl refl
        (rested-spent w (standing (any_busy c.workers) c.shared) is)
    draws-at Taking is =
        no-draw (step_in ranked charges budget Taking c i w) (ap has_spent is) refl refl
        (taken-spent (length c.workers) w (last_of (deque c.shared i)))
    draws-at Stealing is =
        no-draw (step_in ranked charges budget Stealing c i w) (ap has_spent is) refl refl
        (stolen-spent (length c.workers) i w _)
    draws-at Holding is = draws is
    draws-at Halting is =
        let a : budget < c.shared.drawn = over (ap has_spent is) in
        record {
          more = omega arith;
          stays = λ q. refl;
          halted = λ q. a;
          spent = λ q. a;
          ended = λ q. refl;
          few = inr (let f : spent_by w ≡ 1 = ap (λ (p : Phase). cond (has_spent p) 1 0) is in
              omega arith);
        }
    draws-at Ended is =
        record {
          more = omega arith;
          stays = λ q. q;
          halted = halts;
          spent = over;
          ended = last;
          few = inr (omega arith);
        }
    draws-at Bounding is =
        no-draw (step_in ranked charges budget Bounding c i w) (ap has_spent is) refl refl refl
    draws-at ClosingNow is =
        no-draw (step_in ranked charges budget ClosingNow c i w) (ap has_spent is) refl refl
        (closed-spent ranked charges w w.held)
    draws-at Publishing is =
        no-draw (step_in ranked charges budget Publishing c i w) (ap has_spent is) refl refl refl
    draws-at Pushing is = draws-pushed is (last_of w.waiting)

  -- the deques after an event
  module _ (c : Core) (i : ℕ) (w : Parts)
      (queued : AllByRecursion (AllByRecursion (IsPathOf ranked)) c.shared.deques)
      (waiting : AllByRecursion (IsPathOf ranked) w.waiting) where
    abbrev Queues : List (List (List ℕ)) → Type 0
    Queues deques =
        (length deques ≡ length c.shared.deques)
        × AllByRecursion (AllByRecursion (IsPathOf ranked)) deques

    one-queue : (j : ℕ) (paths : List (List ℕ)) → AllByRecursion (IsPathOf ranked) paths →
        Queues (set c.shared.deques j paths)
    one-queue j paths a = (
      length-set c.shared.deques j paths,
      all-set (AllByRecursion (IsPathOf ranked)) c.shared.deques j paths queued a,
    )

    pub queue-at : (j : ℕ) → AllByRecursion (IsPathOf ranked) (deque c.shared j)
    queue-at j =
        all-get-or (AllByRecursion (IsPathOf ranked)) c.shared.deques j [] queued tt

    queues-pushed : (path : Option (List ℕ)) → last_of w.waiting ≡ path →
        Queues (push_last c i w path).0.deques
    queues-pushed None e = (refl, queued)
    queues-pushed (Some path) e =
        one-queue i (deque c.shared i ++ path ∷ [])
        (each-append (IsPathOf ranked) (deque c.shared i) (path ∷ []) (queue-at i)
        (all-last (IsPathOf ranked) w.waiting path waiting e, tt))

    queues-at : (phase : Phase) → Queues (step_in ranked charges budget phase c i w).0.deques
    queues-at Resting = (refl, queued)
    queues-at Taking =
        one-queue i (front (deque c.shared i))
        (front-passes (IsPathOf ranked) (deque c.shared i) (queue-at i))
    queues-at Stealing =
        one-queue w.victim (tail_of (deque c.shared w.victim))
        (tail-passes (IsPathOf ranked) (deque c.shared w.victim) (queue-at w.victim))
    queues-at Holding = (refl, queued)
    queues-at Halting = (refl, queued)
    queues-at Ended = (refl, queued)
    queues-at Bounding = (refl, queued)
    queues-at ClosingNow = (refl, queued)
    queues-at Publishing = (refl, queued)
    queues-at Pushing = queues-pushed (last_of w.waiting) refl

  module _ (ranks : IsRanked ranked) where
    abbrev Steady : Core → Type 0
    Steady c = IsSteady ranked charges budget c

    module _ (c : Core) (i : ℕ) (l : i < length c.workers) (steady : Steady c) where
      abbrev w : Parts
      w = worker c i

      abbrev m : Shared × Moves
      m = step ranked charges budget c i

      abbrev pub Stepped : Type 0
      Stepped =
          Steps (called budget i (any_busy c.workers)) ranked charges (length c.workers) i
          (worker c i) c.shared (step ranked charges budget c i).1.1
          (step ranked charges budget c i).1.0 (step ranked charges budget c i).0

      -- an event is a step of its worker
      pub event-is-step : Stepped
      event-is-step =
          let safe = steady.safe i l in
          event-steps ranked charges budget ranks c i (worker c i) safe.held_in safe.held
          (λ j. queue-at c i (worker c i) steady.queued safe.waiting j)

      pub event-keeps :
          Keeps (called budget i (any_busy c.workers)) ranked charges (length c.workers) i
          (worker c i) c.shared (step ranked charges budget c i).1.1
          (step ranked charges budget c i).1.0 (step ranked charges budget c i).0
      event-keeps =
          steps-keep (called budget i (any_busy c.workers)) ranked charges (length c.workers) i
          (worker c i) c.shared (step ranked charges budget c i).0 l (steady.safe i l)
          (step ranked charges budget c i).1.1 (step ranked charges budget c i).1.0 event-is-step

      pub event-draws : c.shared.drawn ≤ (event ranked charges budget c i).0.shared.drawn
      event-draws =
          (draws-at c i w steady.halted (steady.spent i l) (steady.ended i l) w.phase refl).more

      pub steady-event : Steady (event ranked charges budget c i).0
      steady-event =
          let d = draws-at c i w steady.halted (steady.spent i l) (steady.ended i l) w.phase refl
          in
          let q = queues-at c i w steady.queued (steady.safe i l).waiting w.phase in
          let n : length (set c.workers i m.1.0) ≡ length c.workers =
          length-set c.workers i m.1.0 in
          record {
            some = (let s = steady.some in omega arith);
            few = (let s = steady.few in omega arith);
            full = q.0 ∙ steady.full ∙ sym n;
            safe = subst (λ k. EachWorker (event ranked charges budget c i).0
                (IsSafe ranked charges k)) (sym n)
                (each-with (IsSafe ranked charges (length c.workers))
                (IsSafe ranked charges (length c.workers)) c i m.0 m.1 l steady.safe
                (λ j v s. s) event-keeps.safe);
            queued = q.1;
            halted = d.halted;
            spent = each-with (λ j v. has_spent v.phase ≡ true → budget < c.shared.drawn)
                (λ j v. has_spent v.phase ≡ true → budget < m.0.drawn) c i m.0 m.1 l
                steady.spent (λ j v s e. (let a : budget < c.shared.drawn = s e in
                let b : c.shared.drawn ≤ m.0.drawn = d.more in omega arith)) d.spent;
            ended = each-with (λ j v. v.phase ≡ Ended → c.shared.halted ≡ true)
                (λ j v. v.phase ≡ Ended → m.0.halted ≡ true) c i m.0 m.1 l steady.ended
                (λ j v s e. d.stays (s e)) d.ended;
            drawn = (let a : sum_of spent_by (set c.workers i m.1.0) + spent_by w
                ≡ sum_of spent_by c.workers + spent_by m.1.0 =
                sum-set spent_by c.workers i m.1.0 no_worker l in
                let b : c.shared.drawn ≤ budget + sum_of spent_by c.workers = steady.drawn in
                elim d.few [ inl f ↦ omega arith | inr f ↦ omega arith ]);
          }

spent-few : (ws : List Parts) → sum_of spent_by ws ≤ length ws
spent-few [] = omega arith
spent-few (w ∷ ws) = omega (arith, spent-few ws, one (has_spent w.phase))
  where
    one : (b : Bool) → cond b 1 0 ≤ 1
    one true = omega arith
    one false = omega arith

-- few tickets beyond the last are drawn
pub drawn-few : (ranked : RankedOrders) (charges : ChargeTable) (budget : ℕ) (c : Core) →
    IsSteady ranked charges budget c → c.shared.drawn ≤ budget + 64
drawn-few ranked charges budget c steady =
    omega (arith, steady.drawn, steady.few, spent-few c.workers)
