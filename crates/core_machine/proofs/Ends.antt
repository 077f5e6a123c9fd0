-- Rounds end where every event answered Stopped: then no worker has a path in work or a plan to
-- publish, and a path is left only where more tickets were drawn than there are.
use Rattle.std.proofs.Common.{ℕ, zero, suc, ◌<◌, ◌≤◌, ◌≡◌, ◌⊎◌, inl, inr, Bool, true, false}
use Rattle.std.proofs.Common.{cond, not, ◌&&◌, List, length, Option, Some, None}
use Rattle.std.proofs.Common.{refl, sym, ap, ◌∙◌, subst, arith, get_or-set_same}
use Rattle.std.proofs.Common.{get_or-set_other}
use Rattle.std.proofs.lemmas.List.{set-get_or}
use Rattle.std.specs.List.{list_all}
use Rattle.list_laws.proofs.Tests.{and-left, and-right, clash, last-or-below}
use Rattle.mill_model.specs.Charges.{ChargeTable}
use Rattle.mill_model.specs.declared.limits.Draw.{Draw}
use Rattle.mill_model.specs.declared.limits.Draw.TheVariants.{Ticket, Spent}
use Rattle.mill_model.specs.declared.limits.Standing.TheVariants.{Going, Halted, Drained}
use Rattle.order_symmetry.specs.Ranked.{RankedOrders, IsRanked}
use Rattle.search_step.specs.Moves.{Moves, rested, took, stole, drew, last_of}
use Rattle.search_step.specs.Parts.{Parts}
use Rattle.search_step.specs.Serving.{draw_at}
use Rattle.search_step.specs.declared.parts.Phase.{Phase}
use Rattle.search_step.specs.declared.parts.Phase.TheVariants.{Resting, Taking, Stealing, Holding}
use Rattle.search_step.specs.declared.parts.Phase.TheVariants.{Halting, Ended, Bounding}
use Rattle.search_step.specs.declared.parts.Phase.TheVariants.{Closing as ClosingNow, Publishing}
use Rattle.search_step.specs.declared.parts.Phase.TheVariants.{Pushing}
use Rattle.core_machine.proofs.Runs.{round-count, round-keeps, whole-round-keeps}
use Rattle.core_machine.proofs.Steady.{steady-event}
use Rattle.core_machine.specs.Core.{Core, Shared, any_busy, closed_held, deque, event, is_empty}
use Rattle.core_machine.specs.Core.{is_stopped, no_worker, push_last, round, step, step_in}
use Rattle.core_machine.specs.Core.{whole_round, with_worker, worker, Rounds, Last, More}
use Rattle.core_machine.specs.Ends.{is_drained, is_calm, IsAtEnd}
use Rattle.core_machine.specs.Steady.{IsSteady, has_spent}

false-true : false ≡ true → ⊥
false-true e = cc

module _ (ranked : RankedOrders) (charges : ChargeTable) (budget : ℕ) where
  module _ (c : Core) (i : ℕ) where
    abbrev w : Parts
    w = worker c i

    -- a worker that answered Stopped is calm, and all is over
    record Quiet (m : Shared × Moves) : Type 0 where
      calm : is_calm m.1.0.phase ≡ true
      over : (budget < m.0.drawn) ⊎ (is_drained (with_worker c i m.0 m.1).0 ≡ true)

    module _ (halts : c.shared.halted ≡ true → budget < c.shared.drawn)
        (spent : has_spent w.phase ≡ true → budget < c.shared.drawn) where
      rest-quiet : w.phase ≡ Resting → (halted drained : Bool) → c.shared.halted ≡ halted →
          is_drained c ≡ drained →
          is_stopped (rested w (cond halted Halted (cond drained Drained Going))).1 ≡ true →
          Quiet (c.shared, rested w (cond halted Halted (cond drained Drained Going)))
      rest-quiet is true drained h d s =
          record { calm = ap is_calm is; over = inl (halts h) }
      rest-quiet is false true h d s = record {
        calm = ap is_calm is;
        over = inr (subst (λ (ws : List Parts).
            (list_all is_empty c.shared.deques && not (any_busy ws)) ≡ true)
            (sym (set-get_or c.workers i no_worker)) d);
      }
      rest-quiet is false false h d s = absurd (false-true s)

      took-moves : (workers : ℕ) (path : Option (List ℕ)) →
          is_stopped (took workers w path).1 ≡ false
      took-moves workers None = refl
      took-moves workers (Some path) = refl

      stole-moves : (workers : ℕ) (path : Option (List ℕ)) →
          is_stopped (stole workers i w path).1 ≡ false
      stole-moves workers None = refl
      stole-moves workers (Some path) = refl

      drew-moves : (draw : Draw) → is_stopped (drew w draw).1 ≡ false
      drew-moves (Ticket t) = refl
      drew-moves (Spent t) = refl

      closed-moves : (held : Option (List ℕ)) →
          is_stopped (closed_held ranked charges w held).1 ≡ false
      closed-moves None = refl
      closed-moves (Some path) = refl

      push-moves : (path : Option (List ℕ)) → is_stopped (push_last c i w path).1.1 ≡ false
      push-moves None = refl
      push-moves (Some path) = refl

      quiet-at : (phase : Phase) → w.phase ≡ phase →
          is_stopped (step_in ranked charges budget phase c i w).1.1 ≡ true →
          Quiet (step_in ranked charges budget phase c i w)
      quiet-at Resting is s = rest-quiet is c.shared.halted (is_drained c) refl refl s
      quiet-at Taking is s =
          absurd (clash _ s (took-moves (length c.workers) (last_of (deque c.shared i))))
      quiet-at Stealing is s = absurd (clash _ s (stole-moves (length c.workers) _))
      quiet-at Holding is s = absurd (clash _ s (drew-moves (draw_at budget c.shared.drawn)))
      quiet-at Halting is s = record { calm = refl; over = inl (spent (ap has_spent is)) }
      quiet-at Ended is s =
          record { calm = ap is_calm is; over = inl (spent (ap has_spent is)) }
      quiet-at Bounding is s = absurd (false-true s)
      quiet-at ClosingNow is s = absurd (clash _ s (closed-moves w.held))
      quiet-at Publishing is s = absurd (false-true s)
      quiet-at Pushing is s = absurd (clash _ s (push-moves (last_of w.waiting)))

  module _ (ranks : IsRanked ranked) where
    -- the first k workers are calm, and if there is one all is over
    record QuietUpTo (d : Core) (k : ℕ) : Type 0 where
      calm : (j : ℕ) → j < k → is_calm (worker d j).phase ≡ true
      over : (k ≡ 0) ⊎ ((budget < d.shared.drawn) ⊎ (is_drained d ≡ true))

    quiet-more : (c : Core) (k : ℕ) → k < length c.workers → QuietUpTo c k →
        Quiet c k (step ranked charges budget c k) →
        QuietUpTo (event ranked charges budget c k).0 (suc k)
    quiet-more c k l before q =
        record { calm = λ j m. one j (last-or-below j k m); over = inr q.over }
      where
        one : (j : ℕ) → (j ≡ k) ⊎ (j < k) →
            is_calm (worker (event ranked charges budget c k).0 j).phase ≡ true
        one j (inl e) =
            ap (λ n. is_calm (worker (event ranked charges budget c k).0 n).phase) e
            ∙ ap (λ (v : Parts). is_calm v.phase)
            (get_or-set_same c.workers k (step ranked charges budget c k).1.0 no_worker l) ∙ q.calm
        one j (inr m) =
            ap (λ (v : Parts). is_calm v.phase)
            (get_or-set_other c.workers k j (step ranked charges budget c k).1.0 no_worker
            (λ e. absurd (omega (arith, m, e)))) ∙ before.calm j m

    abbrev Steady : Core → Type 0
    Steady c = IsSteady ranked charges budget c

    quiet-round : (c : Core) (k : ℕ) → k ≤ length c.workers → Steady c →
        (round ranked charges budget c k).1 ≡ true →
        QuietUpTo (round ranked charges budget c k).0 k
    quiet-round c zero l steady s =
        record { calm = λ j m. absurd (omega arith); over = inl refl }
    quiet-round c (suc k) l steady s =
        let r = round ranked charges budget c k in
        let before : r.1 ≡ true =
        and-left r.1 (is_stopped (event ranked charges budget r.0 k).1) s in
        let now : is_stopped (event ranked charges budget r.0 k).1 ≡ true =
        and-right r.1 (is_stopped (event ranked charges budget r.0 k).1) s in
        let here : k < length r.0.workers =
        (let e : length (round ranked charges budget c k).0.workers ≡ length c.workers =
        round-count ranked charges budget c k in omega arith) in
        let then : Steady r.0 =
        round-keeps ranked charges budget Steady (steady-event ranked charges budget ranks) c k
        (omega arith) steady in
        quiet-more r.0 k here (quiet-round c k (omega arith) steady before)
        (quiet-at r.0 k then.halted (then.spent k here) (worker r.0 k).phase refl now)

    round-ends : (c d : Core) → Steady c → whole_round ranked charges budget c ≡ (d, true) →
        IsAtEnd budget d
    round-ends c d steady e =
        let s : (round ranked charges budget c (length c.workers)).1 ≡ true =
        ap (λ (r : Core × Bool). r.1) e in
        let v : (round ranked charges budget c (length c.workers)).0 ≡ d =
        ap (λ (r : Core × Bool). r.0) e in
        let n : length d.workers ≡ length c.workers =
        ap (λ (x : Core). length x.workers) (sym v)
        ∙ round-count ranked charges budget c (length c.workers) in
        let q : QuietUpTo d (length c.workers) =
        subst (λ (x : Core). QuietUpTo x (length c.workers)) v
        (quiet-round c (length c.workers) (omega arith) steady s) in
        record {
          calm = λ j l. q.calm j (omega (arith, l, n));
          over = elim q.over [
            | inl z ↦ (let p = steady.some in absurd (omega (arith, p, z)))
            | inr o ↦ o
          ];
        }

    -- the state that rounds end with
    pub rounds-end : (c d : Core) → Steady c → Rounds ranked charges budget c d → IsAtEnd budget d
    rounds-end c d steady (Last _ _ e) = round-ends c d steady e
    rounds-end c d steady (More _ m _ e r) =
        rounds-end m d (whole-round-keeps ranked charges budget Steady
        (steady-event ranked charges budget ranks) c m false e steady) r
