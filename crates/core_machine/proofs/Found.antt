-- The least loss over an event: no worker knows less but one that is to publish, and where it isn't
-- the loss at the start, a worker has a plan for it. That worker may find a better plan before it
-- publishes, so its plan loses no more than the least loss until the end.
use Rattle.std.proofs.Common.{ℕ, ◌<◌, ◌≤◌, ◌≡◌, ◌≢◌, ◌⊎◌, inl, inr, min, Bool, true, false, ltb}
use Rattle.std.proofs.Common.{eqb, List, length, Option, Some, None, refl, sym}
use Rattle.std.proofs.Common.{ap, ◌∙◌, subst, arith, ltb-true, ltb-false, length-set, eqb-true}
use Rattle.std.proofs.Common.{eq-eqb, get_or-set_same, get_or-set_other}
use Rattle.list_laws.proofs.Tests.{either, clash}
use Rattle.mill_model.specs.Charges.{ChargeTable}
use Rattle.mill_model.specs.declared.limits.Draw.{Draw}
use Rattle.mill_model.specs.declared.limits.Draw.TheVariants.{Ticket, Spent}
use Rattle.mill_model.specs.declared.limits.Standing.{Standing}
use Rattle.mill_model.specs.declared.limits.Standing.TheVariants.{Going, Halted, Drained}
use Rattle.mill_model.specs.declared.plan.Start.{Start}
use Rattle.order_symmetry.specs.Ranked.{RankedOrders}
use Rattle.search_step.specs.Honest.{KeepsHonest}
use Rattle.search_step.specs.Moves.{Moves, to, rested, took, stole, drew, commits}
use Rattle.search_step.specs.Moves.{last_of}
use Rattle.search_step.specs.Parts.{Parts}
use Rattle.search_step.specs.Serving.{draw_at}
use Rattle.search_step.specs.Steps.{FitsMill}
use Rattle.search_step.specs.declared.parts.Phase.{Phase}
use Rattle.search_step.specs.declared.parts.Phase.TheVariants.{Resting, Taking, Stealing, Holding}
use Rattle.search_step.specs.declared.parts.Phase.TheVariants.{Halting, Ended, Bounding}
use Rattle.search_step.specs.declared.parts.Phase.TheVariants.{Closing as ClosingNow, Publishing}
use Rattle.search_step.specs.declared.parts.Phase.TheVariants.{Pushing}
use Rattle.search_step.specs.declared.parts.Verdict.{Verdict}
use Rattle.search_step.specs.declared.parts.Verdict.TheVariants.{Better, Plain, ByPrices, ByOther}
use Rattle.search_step.specs.declared.parts.Verdict.TheVariants.{Open}
use Rattle.search_step.proofs.Phases.{is-publishing}
use Rattle.core_machine.proofs.Good.{event-honest}
use Rattle.core_machine.proofs.Steady.{each-with}
use Rattle.core_machine.specs.Core.{Core, Shared, closed_held, deque, event, no_worker, push_last}
use Rattle.core_machine.specs.Core.{step, step_in, worker}
use Rattle.core_machine.specs.Kept.{HasPlan, IsFound, IsGood, Knows}
use Rattle.core_machine.specs.Steady.{IsSteady}

-- what a step leaves of the least loss and of what its worker knows
record Leaves (c : Core) (w : Parts) (m : Shared × Moves) : Type 0 where
  least : m.0.least ≡ c.shared.least
  known :
      (m.1.0.phase ≡ Publishing) ⊎ (c.shared.least ≤ w.known → c.shared.least ≤ m.1.0.known)

module _ (ranked : RankedOrders) (charges : ChargeTable) (budget : ℕ) (c : Core) (i : ℕ)
    (w : Parts) where
  same-known : (m : Shared × Moves) → m.0.least ≡ c.shared.least → m.1.0.known ≡ w.known →
      Leaves c w m
  same-known m e q = record { least = e; known = inr (λ l. omega (arith, l, q)) }

  rests : (stands : Standing) → Leaves c w (c.shared, rested w stands)
  rests Going = same-known _ refl refl
  rests Halted = same-known _ refl refl
  rests Drained = same-known _ refl refl

  takes : (s : Shared) → s.least ≡ c.shared.least → (path : Option (List ℕ)) →
      Leaves c w (s, took (length c.workers) w path)
  takes s e None = same-known _ e refl
  takes s e (Some path) = same-known _ e refl

  steals : (s : Shared) → s.least ≡ c.shared.least → (path : Option (List ℕ)) →
      Leaves c w (s, stole (length c.workers) i w path)
  steals s e None = same-known _ e refl
  steals s e (Some path) = same-known _ e refl

  draws : (s : Shared) → s.least ≡ c.shared.least → (draw : Draw) → Leaves c w (s, drew w draw)
  draws s e (Ticket t) = same-known _ e refl
  draws s e (Spent t) = same-known _ e refl

  commits-leave : (path : List ℕ) (v : Verdict) (m : Shared × Moves) → m.0 ≡ c.shared →
      m.1.0 ≡ commits path w v → Leaves c w m
  commits-leave path (Better best) m e q =
      record { least = ap (λ (s : Shared). s.least) e; known = inl (ap (λ (v : Parts). v.phase) q) }
  commits-leave path Plain m e q =
      same-known m (ap (λ (s : Shared). s.least) e) (ap (λ (v : Parts). v.known) q)
  commits-leave path (ByPrices prices) m e q =
      same-known m (ap (λ (s : Shared). s.least) e) (ap (λ (v : Parts). v.known) q)
  commits-leave path (ByOther other) m e q =
      same-known m (ap (λ (s : Shared). s.least) e) (ap (λ (v : Parts). v.known) q)
  commits-leave path (Open paths _) m e q =
      same-known m (ap (λ (s : Shared). s.least) e) (ap (λ (v : Parts). v.known) q)

  closes-leave : (held : Option (List ℕ)) →
      Leaves c w (c.shared, closed_held ranked charges w held)
  closes-leave None = same-known _ refl refl
  closes-leave (Some path) = commits-leave path _ _ refl refl

  pushes-leave : (path : Option (List ℕ)) → Leaves c w (push_last c i w path)
  pushes-leave None = same-known _ refl refl
  pushes-leave (Some path) = same-known _ refl refl

  leaves-at : (phase : Phase) → phase ≢ Publishing →
      Leaves c w (step_in ranked charges budget phase c i w)
  leaves-at Resting n = rests _
  leaves-at Taking n = takes _ refl (last_of (deque c.shared i))
  leaves-at Stealing n = steals _ refl _
  leaves-at Holding n = draws _ refl (draw_at budget c.shared.drawn)
  leaves-at Halting n = same-known _ refl refl
  leaves-at Ended n = same-known _ refl refl
  leaves-at Bounding n = record { least = refl; known = inr (λ l. omega (arith, l)) }
  leaves-at ClosingNow n = closes-leave w.held
  leaves-at Publishing n = absurd (n refl)
  leaves-at Pushing n = pushes-leave (last_of w.waiting)

module _ (ranked : RankedOrders) (charges : ChargeTable) (budget : ℕ)
    (fit : FitsMill ranked charges) (c : Core) (i : ℕ) (l : i < length c.workers)
    (steady : IsSteady ranked charges budget c) where
  abbrev w : Parts
  w = worker c i

  abbrev m : Shared × Moves
  m = step ranked charges budget c i

  abbrev d : Core
  d = (event ranked charges budget c i).0

  same-count : length d.workers ≡ length c.workers
  same-count = length-set c.workers i m.1.0

  honest : KeepsHonest ranked charges (worker c i) (step ranked charges budget c i).1.0
  honest = event-honest ranked charges budget fit c i l steady

  -- a plan for a loss stays, or is bettered
  plan-stays : (start before : ℕ) (owed : List (List ℕ)) (loss : ℕ) →
      IsGood ranked charges start budget before owed c → HasPlan c loss → HasPlan d loss
  plan-stays start before owed loss good p = elim (either (eqb p.number i)) [
    | inl e ↦ (let same : p.number ≡ i = eqb-true _ _ e in
        let mine : w.best ≡ Some p.plan =
        subst (λ (j : ℕ). (worker c j).best ≡ Some p.plan) same p.keeps in
        let at = get_or-set_same c.workers i m.1.0 no_worker l in
        elim honest.plan [
          | inl q ↦ record {
            number = i;
            there = (let n = same-count in omega arith);
            plan = p.plan;
            keeps = ap (λ (v : Parts). v.best) at ∙ q ∙ mine;
            at_most = p.at_most;
          }
          | inr q ↦ record {
            number = i;
            there = (let n = same-count in omega arith);
            plan = q.0;
            keeps = ap (λ (v : Parts). v.best) at ∙ q.1.kept;
            at_most = (let a = q.1.less in
                let b = (good.honest i l).above p.plan mine in
                let f = p.at_most in omega (arith, a, b, f));
          }
        ])
    | inr e ↦ record {
      number = p.number;
      there = (let n = same-count in let k = p.there in omega arith);
      plan = p.plan;
      keeps = ap (λ (v : Parts). v.best) (get_or-set_other c.workers i p.number m.1.0 no_worker
          (λ q. clash (eqb p.number i) (eq-eqb p.number i q) e)) ∙ p.keeps;
      at_most = p.at_most;
    }
  ]

  -- a worker that is to publish has just found the plan
  publishes : m.1.0.phase ≡ Publishing →
      (kept : Start) × (m.1.0.best ≡ Some kept) × (kept.loss ≡ m.1.0.known)
  publishes e = let p = honest.publishes e in (p.0, p.1.kept, sym p.1.known)

  quiet-event : (start before : ℕ) (owed : List (List ℕ)) → w.phase ≢ Publishing →
      IsGood ranked charges start budget before owed c → IsFound start c → IsFound start d
  quiet-event start before owed n good found =
      let leaves = leaves-at ranked charges budget c i w w.phase n in
      let knows = found.each i l in
      record {
        each = each-with (λ j v. Knows c.shared.least v) (λ j v. Knows m.0.least v) c i m.0 m.1 l
            found.each (λ j v k. subst (λ (x : ℕ). Knows x v) (sym leaves.least) k) (record {
              known = λ q. elim leaves.known [
                | inl p ↦ absurd (q p)
                | inr h ↦ (let e = leaves.least in
                    let a = h (knows.known n) in omega (arith, e, a))
              ];
              publishes = publishes;
            });
        plan = elim found.plan [
          | inl q ↦ inl (leaves.least ∙ q)
          | inr p ↦ inr (subst (λ (x : ℕ). HasPlan d x) (sym leaves.least)
              (plan-stays start before owed c.shared.least good p))
        ];
      }

  module _ (is : w.phase ≡ Publishing) where
    told : m ≡ step_in ranked charges budget Publishing c i w
    told = ap (λ (p : Phase). step_in ranked charges budget p c i w) is

    least-told : m.0.least ≡ min w.known c.shared.least
    least-told = ap (λ (v : Shared × Moves). v.0.least) told

    worker-told : m.1.0 ≡ to Resting w
    worker-told = ap (λ (v : Shared × Moves). v.1.0) told

    publish-event : (start before : ℕ) (owed : List (List ℕ)) →
        IsGood ranked charges start budget before owed c → IsFound start c → IsFound start d
    publish-event start before owed good found =
        let kept = (found.each i l).publishes is in
        record {
          each = each-with (λ j v. Knows c.shared.least v) (λ j v. Knows m.0.least v) c i m.0 m.1
              l found.each (λ j v k. record {
                known = λ q. (let a = k.known q in let e = least-told in omega (arith, a, e));
                publishes = k.publishes;
              }) (record {
                known = λ q. (let a = least-told in
                    let e : m.1.0.known ≡ w.known = ap (λ (v : Parts). v.known) worker-told in
                    omega (arith, a, e));
                publishes = publishes;
              });
          plan = go (ltb w.known c.shared.least) refl kept;
        }
      where
        go : (b : Bool) → ltb w.known c.shared.least ≡ b →
            (kept : Start) × (w.best ≡ Some kept) × (kept.loss ≡ w.known) →
            (m.0.least ≡ start) ⊎ HasPlan d m.0.least
        go true e k =
            let a : w.known < c.shared.least = ltb-true _ _ e in
            let at = get_or-set_same c.workers i m.1.0 no_worker l in
            inr (record {
              number = i;
              there = (let n = same-count in omega arith);
              plan = k.0;
              keeps = ap (λ (v : Parts). v.best) (at ∙ worker-told) ∙ k.1;
              at_most = (let b = least-told in let f = k.2 in omega (arith, a, b, f));
            })
        go false e k =
            let a : c.shared.least ≤ w.known = ltb-false _ _ e in
            let b : m.0.least ≡ c.shared.least = (let f = least-told in omega (arith, a, f)) in
            elim found.plan [
              | inl q ↦ inl (b ∙ q)
              | inr p ↦ inr (subst (λ (x : ℕ). HasPlan d x) (sym b)
                  (plan-stays start before owed c.shared.least good p))
            ]

  pub found-event : (start before : ℕ) (owed : List (List ℕ)) →
      IsGood ranked charges start budget before owed c → IsFound start c →
      IsFound start (event ranked charges budget c i).0
  found-event start before owed good found = elim (is-publishing w.phase) [
    | inl is ↦ publish-event is start before owed good found
    | inr n ↦ quiet-event start before owed n good found
  ]
