-- A step keeps a worker at work.
use Rattle.std.proofs.Common.{ℕ, ◌+◌, ◌≤◌, ◌≡◌, ◌≢◌, inl, inr, nat_lt, List, []}
use Rattle.std.proofs.Common.{All, count_by, sym, ap, ◌∙◌}
use Rattle.std.proofs.Common.{subst, arith}
use Rattle.std.proofs.lemmas.List.Elements.{All-push, All-weaker}
use Rattle.list_laws.specs.Sets.{times, same_list}
use Rattle.search_step.specs.Accounts.{Keeps, came, tickets, went}
use Rattle.search_step.specs.Honest.{KeepsHonest}
use Rattle.search_step.specs.Parts.{Parts}
use Rattle.search_step.specs.Steps.{Steps, StepAt, task_at}
use Rattle.search_step.specs.Worker.{WorkerParts}
use Rattle.search_step.specs.declared.parts.Phase.TheVariants.{Publishing}
use Rattle.search_step.specs.declared.parts.Turn.{Turn}
use Rattle.search_step.proofs.Phases.{is-publishing}
use Rattle.search_step.proofs.StaysFit.{steps-stay-fit}
use Rattle.shared_words.specs.Meter.{TicketMeter}
use Rattle.core_machine.specs.Counts.{own_count, split_count, tickets_of}
use Rattle.running_worker.proofs.Events.{Changes, did-changes, drawn_below, same-later}
use Rattle.running_worker.proofs.Losses.{LeavesLosses, TellsLoss, leaves-at, tells-at}
use Rattle.running_worker.specs.AtWork.{IsAtWork, StaysAtWork}
use Rattle.running_worker.specs.Running.{Running, running_did}
use Rattle.running_worker.specs.Worked.{HasDone, LosesAtMost, stolen_count}

module _ (start : ℕ) (first : Running) (w : WorkerParts) (h : Running)
    (at : IsAtWork start first w h) (turn : Turn) (became : Parts) (h' : Running)
    (step : Steps running_did w.ranked w.charges w.workers w.number w.parts h turn became h')
    (keeps : Keeps running_did w.ranked w.charges w.workers w.number w.parts h turn became h')
    (honest : KeepsHonest w.ranked w.charges w.parts became) where
  changes : (x : List ℕ) → Changes x keeps.event h h'
  changes x = did-changes x keeps.event h h' keeps.happened

  -- what the step leaves of losses, where the worker is to publish and where it isn't
  tells : w.parts.phase ≡ Publishing → TellsLoss w.parts h became h'
  tells is =
      tells-at w.ranked w.charges w.workers w.number w.parts h turn became h'
      (subst (λ p. StepAt running_did w.ranked w.charges w.workers w.number p w.parts h turn became
      h') is step)

  leaves : w.parts.phase ≢ Publishing → LeavesLosses w.parts h became h'
  leaves not =
      leaves-at w.ranked w.charges w.workers w.number w.parts h turn became h' w.parts.phase not
      step

  -- a kept plan that loses so little stays, or is bettered
  plan-stays : (loss : ℕ) → LosesAtMost w.parts.best loss → LosesAtMost became.best loss
  plan-stays loss p = elim honest.plan [
    | inl same ↦ record { kept = p.kept; is = same ∙ p.is; at_most = p.at_most }
    | inr better ↦ record {
      kept = better.0;
      is = better.1.kept;
      at_most = (let less = better.1.less in
          let above = at.has_done.honest.above p.kept p.is in
          let most = p.at_most in omega (arith, less, above, most));
    }
  ]

  published : All (LosesAtMost became.best) h'.loss_seat.mine
  published = elim (is-publishing w.parts.phase) [
    | inl is ↦ subst (All (LosesAtMost became.best)) (sym (tells is).mine)
        (All-push (LosesAtMost became.best) h.loss_seat.mine w.parts.known earlier
        (plan-stays w.parts.known (at.publishes is)))
    | inr not ↦ subst (All (LosesAtMost became.best)) (sym (leaves not).mine) earlier
  ]
    where
      earlier : All (LosesAtMost became.best) h.loss_seat.mine
      earlier =
          All-weaker (LosesAtMost w.parts.best) (LosesAtMost became.best) plan-stays
          h.loss_seat.mine at.has_done.published

  knows : became.phase ≢ Publishing → h'.loss_seat.seen ≤ became.known
  knows quiet = elim (is-publishing w.parts.phase) [
    | inl is ↦ (tells is).knows
    | inr not ↦ elim (leaves not).knows [
      | inl is ↦ absurd (quiet is)
      | inr later ↦ later (at.knows not)
    ]
  ]

  publishes : became.phase ≡ Publishing → LosesAtMost became.best became.known
  publishes is =
      let plan = honest.publishes is in
      record {
        kept = plan.0;
        is = plan.1.kept;
        at_most = (let known = plan.1.known in omega (arith, known));
      }

  paths : (x : List ℕ) →
      own_count x became + times same_list x h'.own.pushed
      ≡ times same_list x first.own.pushed + split_count (task_at w.ranked w.charges) x became
      + times same_list x h'.own.popped + stolen_count x h'.thieves
  paths x =
      let before : own_count x w.parts + times same_list x h.own.pushed
      ≡ times same_list x first.own.pushed + split_count (task_at w.ranked w.charges) x w.parts
      + times same_list x h.own.popped + stolen_count x h.thieves = at.has_done.paths x in
      let account : own_count x became + split_count (task_at w.ranked w.charges) x w.parts
      + times same_list x (went keeps.event)
      ≡ own_count x w.parts + split_count (task_at w.ranked w.charges) x became
      + times same_list x (came keeps.event) = keeps.accounts.paths x in
      let pushed = (changes x).pushed in
      let taken = (changes x).taken in omega arith

  counted : tickets_of became
      ≡ count_by (λ ticket. nat_lt ticket first.meter.nodes) h'.ticket_seat.tickets
  counted =
      let before = at.has_done.counted in
      let account : tickets_of became ≡ tickets_of w.parts + tickets keeps.event =
      keeps.accounts.records in
      let drawn : drawn_below first.meter.nodes h'.ticket_seat
      ≡ drawn_below first.meter.nodes h.ticket_seat + tickets keeps.event =
      subst (λ (m : TicketMeter). drawn_below m.nodes h'.ticket_seat
      ≡ drawn_below m.nodes h.ticket_seat + tickets keeps.event) at.same.meter (changes []).drawn in
      omega arith

  done : HasDone w.ranked w.charges start first.meter.nodes first.own.pushed became h'.own
      h'.thieves h'.loss_seat h'.ticket_seat
  done = record {
    paths = paths;
    counted = counted;
    honest = honest.keeps start at.has_done.honest;
    fit =
        steps-stay-fit running_did w.ranked w.charges w.workers w.number w.parts h h'
        at.worker.fits at.worker.safe turn became step at.has_done.fit;
    published = published;
  }

  pub a-step-keeps-it : IsAtWork start first (record w { parts = became }) h'
  a-step-keeps-it = record {
    worker = record {
      among = at.worker.among;
      few = at.worker.few;
      fits = at.worker.fits;
      safe = keeps.safe;
    };
    same = same-later first h h' at.same (changes []).same;
    has_done = done;
    knows = knows;
    publishes = publishes;
  }

-- a worker that goes by the same, with its parts
pub same-worker : (w w' : WorkerParts) → w'.ranked ≡ w.ranked → w'.charges ≡ w.charges →
    w'.number ≡ w.number → w'.workers ≡ w.workers → record w { parts = w'.parts } ≡ w'
same-worker w w' ranked charges number workers =
    sym (ap (λ r. record w' { ranked = r }) ranked
    ∙ ap (λ c. record w' { ranked = w.ranked; charges = c }) charges
    ∙ ap (λ n. record w' { ranked = w.ranked; charges = w.charges; number = n }) number
    ∙ ap (λ n. record w { parts = w'.parts; workers = n }) workers)

pub stays-at-work : (w w' : WorkerParts) (h h' : Running) (turn : Turn) →
    Steps running_did w.ranked w.charges w.workers w.number w.parts h turn w'.parts h' →
    Keeps running_did w.ranked w.charges w.workers w.number w.parts h turn w'.parts h' →
    KeepsHonest w.ranked w.charges w.parts w'.parts → w'.ranked ≡ w.ranked →
    w'.charges ≡ w.charges → w'.number ≡ w.number → w'.workers ≡ w.workers →
    StaysAtWork w h w' h'
stays-at-work w w' h h' turn step keeps honest ranked charges number workers start first at =
    subst (λ v. IsAtWork start first v h') (same-worker w w' ranked charges number workers)
    (a-step-keeps-it start first w h at turn w'.parts h' step keeps honest)

-- over two runs of steps, one after the other
pub still-at-work : (w v u : WorkerParts) (h g f : Running) → StaysAtWork w h v g →
    StaysAtWork v g u f → StaysAtWork w h u f
still-at-work w v u h g f once again start first at = again start first (once start first at)
