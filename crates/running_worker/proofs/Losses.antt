-- What a step over a running hand leaves of losses. Only a look and a publishing change what the
-- seat saw, only a look and a better plan change what the worker knows, and only the loss of its
-- own plan is published.
use Rattle.std.proofs.Common.{ℕ, ◌≤◌, ◌≡◌, ◌≢◌, ◌⊎◌, inl, inr, min, true, List, [], ◌∷◌}
use Rattle.std.proofs.Common.{◌++◌, Option, Some, None, refl, ap, ◌∙◌, arith}
use Rattle.mill_model.specs.Charges.{ChargeTable}
use Rattle.mill_model.specs.declared.limits.Draw.{Draw}
use Rattle.mill_model.specs.declared.limits.Draw.TheVariants.{Ticket, Spent}
use Rattle.mill_model.specs.declared.limits.Standing.{Standing}
use Rattle.mill_model.specs.declared.limits.Standing.TheVariants.{Going, Halted, Drained}
use Rattle.order_symmetry.specs.Ranked.{RankedOrders}
use Rattle.split_tree.specs.Keys.{Key}
use Rattle.search_step.specs.Moves.{closed, commits, drew, last_of, rested, stole, took, verdict}
use Rattle.search_step.specs.Parts.{Parts}
use Rattle.search_step.specs.Steps.{BecomesOrStays, Pushes, StepAt, task_at}
use Rattle.search_step.specs.declared.parts.Phase.{Phase}
use Rattle.search_step.specs.declared.parts.Phase.TheVariants.{Resting, Taking, Stealing, Holding}
use Rattle.search_step.specs.declared.parts.Phase.TheVariants.{Halting, Ended, Bounding}
use Rattle.search_step.specs.declared.parts.Phase.TheVariants.{Closing as ClosingNow, Publishing}
use Rattle.search_step.specs.declared.parts.Phase.TheVariants.{Pushing}
use Rattle.search_step.specs.declared.parts.Turn.{Turn}
use Rattle.search_step.specs.declared.parts.Turn.TheVariants.{Moved, Drew, Idle, Stopped}
use Rattle.search_step.specs.declared.parts.Turn.TheVariants.{OutOfMemory}
use Rattle.search_step.specs.declared.parts.Verdict.{Verdict}
use Rattle.search_step.specs.declared.parts.Verdict.TheVariants.{Better, Plain, ByPrices, ByOther}
use Rattle.search_step.specs.declared.parts.Verdict.TheVariants.{Open}
use Rattle.core_machine.specs.Ends.{is_calm}
use Rattle.running_worker.specs.Running.{Running, running_did}

-- what the seat saw and published, of a worker that isn't to publish
pub record LeavesLosses (w : Parts) (h : Running) (w' : Parts) (h' : Running) : Type 0 where
  pub mine : h'.loss_seat.mine ≡ h.loss_seat.mine
  pub knows :
      (w'.phase ≡ Publishing)
      ⊎ (h.loss_seat.seen ≤ w.known → h'.loss_seat.seen ≤ w'.known)

-- a worker that is to publish publishes what it knows, and then knows no less than its seat saw
pub record TellsLoss (w : Parts) (h : Running) (w' : Parts) (h' : Running) : Type 0 where
  pub mine : h'.loss_seat.mine ≡ h.loss_seat.mine ++ w.known ∷ []
  pub knows : h'.loss_seat.seen ≤ w'.known

module _ (w : Parts) where
  rested-known : (stands : Standing) → (rested w stands).0.known ≡ w.known
  rested-known Going = refl
  rested-known Halted = refl
  rested-known Drained = refl

  took-known : (workers : ℕ) (path : Option (List ℕ)) → (took workers w path).0.known ≡ w.known
  took-known workers None = refl
  took-known workers (Some path) = refl

  stole-known : (workers number : ℕ) (path : Option (List ℕ)) →
      (stole workers number w path).0.known ≡ w.known
  stole-known workers number None = refl
  stole-known workers number (Some path) = refl

  drew-known : (draw : Draw) → (drew w draw).0.known ≡ w.known
  drew-known (Ticket t) = refl
  drew-known (Spent t) = refl

  commits-known : (path : List ℕ) (v : Verdict) →
      ((commits path w v).phase ≡ Publishing) ⊎ ((commits path w v).known ≡ w.known)
  commits-known path (Better start) = inl refl
  commits-known path Plain = inr refl
  commits-known path (ByPrices prices) = inr refl
  commits-known path (ByOther other) = inr refl
  commits-known path (Open paths note) = inr refl

module _ (ranked : RankedOrders) (charges : ChargeTable) (workers number : ℕ) (w : Parts)
    (h : Running) (turn : Turn) (w' : Parts) (h' : Running) where
  abbrev Leaves : Type 0
  Leaves = LeavesLosses w h w' h'

  same-seat : h'.loss_seat ≡ h.loss_seat →
      (w'.phase ≡ Publishing) ⊎ (w'.known ≡ w.known) → Leaves
  same-seat seat known = record {
    mine = ap (λ s. s.mine) seat;
    knows = elim known [
      | inl q ↦ inl q
      | inr q ↦ inr (λ l.
          let seen : h'.loss_seat.seen ≡ h.loss_seat.seen = ap (λ s. s.seen) seat in
          omega (arith, l, seen, q))
    ];
  }

  became : {v : Parts} → w' ≡ v → v.known ≡ w.known →
      (w'.phase ≡ Publishing) ⊎ (w'.known ≡ w.known)
  became is known = inr (ap (λ (p : Parts). p.known) is ∙ known)

  closed-known : (key : Key) (plan : List ℕ) (held : Option (List ℕ)) →
      w' ≡ (closed (task_at ranked charges) key plan w held).0 →
      (w'.phase ≡ Publishing) ⊎ (w'.known ≡ w.known)
  closed-known key plan None is = became is refl
  closed-known key plan (Some path) is =
      elim (commits-known w path
      (verdict (task_at ranked charges) w.known w.store key plan path)) [
        | inl q ↦ inl (ap (λ (p : Parts). p.phase) is ∙ q)
        | inr q ↦ became is q
      ]

  closes-known : (t : Turn) (key : Key) (plan : List ℕ) →
      BecomesOrStays w w' t (closed (task_at ranked charges) key plan w w.held) →
      (w'.phase ≡ Publishing) ⊎ (w'.known ≡ w.known)
  closes-known Moved key plan b = closed-known key plan w.held b.0
  closes-known Drew key plan b = closed-known key plan w.held b.0
  closes-known Idle key plan b = closed-known key plan w.held b.0
  closes-known Stopped key plan b = closed-known key plan w.held b.0
  closes-known OutOfMemory key plan b = became b refl

  pushes-leave : (t : Turn) (path : Option (List ℕ)) → Pushes running_did path w h t w' h' →
      Leaves
  pushes-leave t None (same, becomes) =
      same-seat (ap (λ (g : Running). g.loss_seat) same) (became becomes.0 refl)
  pushes-leave OutOfMemory (Some path) (same, is) =
      same-seat (ap (λ (g : Running). g.loss_seat) same) (became is refl)
  pushes-leave Moved (Some path) (is, becomes) =
      same-seat (ap (λ (g : Running). g.loss_seat) is) (became becomes.0 refl)
  pushes-leave Drew (Some path) b = absurd b
  pushes-leave Idle (Some path) b = absurd b
  pushes-leave Stopped (Some path) b = absurd b

  pub leaves-at : (phase : Phase) → phase ≢ Publishing →
      StepAt running_did ranked charges workers number phase w h turn w' h' → Leaves
  leaves-at Resting n (stands, (hears, is), becomes) =
      same-seat (ap (λ (g : Running). g.loss_seat) is) (became becomes.0 (rested-known w stands))
  leaves-at Taking n (path, (pops, is), tree, becomes) =
      same-seat (ap (λ (g : Running). g.loss_seat) is)
      (became becomes.0 (took-known w workers path))
  leaves-at Stealing n (path, (steals, is), tree, becomes) =
      same-seat (ap (λ (g : Running). g.loss_seat) is)
      (became becomes.0 (stole-known w workers number path))
  leaves-at Holding n (draw, (answers, is), becomes) =
      same-seat (ap (λ (g : Running). g.loss_seat) is) (became becomes.0 (drew-known w draw))
  leaves-at Halting n (is, becomes) =
      same-seat (ap (λ (g : Running). g.loss_seat) is) (became becomes.0 refl)
  leaves-at Ended n (is, becomes) =
      same-seat (ap (λ (g : Running). g.loss_seat) is) (became becomes.0 refl)
  leaves-at Bounding n (least, (told, is), becomes) = record {
    mine = ap (λ (g : Running). g.loss_seat.mine) is;
    knows = inr (λ l.
        let seen : h'.loss_seat.seen ≡ least = ap (λ (g : Running). g.loss_seat.seen) is in
        let known : w'.known ≡ min w.known least =
        ap (λ (p : Parts). p.known) becomes.0 in
        let below = told.seen in omega (arith, l, seen, known, below));
  }
  leaves-at ClosingNow n (is, closes) =
      same-seat (ap (λ (g : Running). g.loss_seat) is)
      (closes-known turn closes.key closes.plan closes.becomes)
  leaves-at Publishing n step = absurd (n refl)
  leaves-at Pushing n step = pushes-leave turn (last_of w.waiting) step

  pub tells-at : StepAt running_did ranked charges workers number Publishing w h turn w' h' →
      TellsLoss w h w' h'
  tells-at (before, (told, is), becomes) = record {
    mine = ap (λ (g : Running). g.loss_seat.mine) is;
    knows =
        let seen : h'.loss_seat.seen ≡ min w.known before =
        ap (λ (g : Running). g.loss_seat.seen) is in
        let known : w'.known ≡ w.known = ap (λ (p : Parts). p.known) becomes.0 in
        omega (arith, seen, known);
  }

-- A worker that answers that it stopped is calm.
module _ (ranked : RankedOrders) (charges : ChargeTable) (workers number : ℕ) (w : Parts)
    (h : Running) (w' : Parts) (h' : Running) where
  calm-in : {phase : Phase} → w.phase ≡ phase → is_calm phase ≡ true → w' ≡ w →
      is_calm w'.phase ≡ true
  calm-in here calm is = ap (λ (p : Parts). is_calm p.phase) is ∙ ap is_calm here ∙ calm

  rested-calm : w.phase ≡ Resting → (stands : Standing) → w' ≡ (rested w stands).0 →
      Stopped ≡ (rested w stands).1 → is_calm w'.phase ≡ true
  rested-calm here Going is turn = absurd (cc)
  rested-calm here Halted is turn = calm-in here refl is
  rested-calm here Drained is turn = calm-in here refl is

  took-stays : (path : Option (List ℕ)) → Stopped ≡ (took workers w path).1 → ⊥
  took-stays None turn = absurd (cc)
  took-stays (Some path) turn = absurd (cc)

  stole-stays : (path : Option (List ℕ)) → Stopped ≡ (stole workers number w path).1 → ⊥
  stole-stays None turn = absurd (cc)
  stole-stays (Some path) turn = absurd (cc)

  drew-stays : (draw : Draw) → Stopped ≡ (drew w draw).1 → ⊥
  drew-stays (Ticket t) turn = absurd (cc)
  drew-stays (Spent t) turn = absurd (cc)

  closed-stays : (key : Key) (plan : List ℕ) (held : Option (List ℕ)) →
      Stopped ≡ (closed (task_at ranked charges) key plan w held).1 → ⊥
  closed-stays key plan None turn = absurd (cc)
  closed-stays key plan (Some path) turn = absurd (cc)

  pushes-stay : (path : Option (List ℕ)) → Pushes running_did path w h Stopped w' h' → ⊥
  pushes-stay None (same, becomes) = let turn = becomes.1 in absurd (cc)
  pushes-stay (Some path) b = b

  pub stopped-calm : (phase : Phase) → w.phase ≡ phase →
      StepAt running_did ranked charges workers number phase w h Stopped w' h' →
      is_calm w'.phase ≡ true
  stopped-calm Resting here (stands, did, becomes) =
      rested-calm here stands becomes.0 becomes.1
  stopped-calm Taking here (path, did, tree, becomes) = absurd (took-stays path becomes.1)
  stopped-calm Stealing here (path, did, tree, becomes) = absurd (stole-stays path becomes.1)
  stopped-calm Holding here (draw, did, becomes) = absurd (drew-stays draw becomes.1)
  stopped-calm Halting here (did, becomes) =
      ap (λ (p : Parts). is_calm p.phase) becomes.0
  stopped-calm Ended here (same, becomes) = calm-in here refl becomes.0
  stopped-calm Bounding here (least, did, becomes) = let turn = becomes.1 in absurd (cc)
  stopped-calm ClosingNow here (same, closes) =
      absurd (closed-stays closes.key closes.plan w.held closes.becomes.1)
  stopped-calm Publishing here (before, did, becomes) = let turn = becomes.1 in absurd (cc)
  stopped-calm Pushing here step = absurd (pushes-stay (last_of w.waiting) step)
