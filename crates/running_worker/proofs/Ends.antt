-- The worker of a job is at work before its first step, and what it leaves after its last one is
-- what the job has worked.
use Rattle.std.proofs.Common.{ℕ, ◌<◌, ◌≡◌, ◌≢◌, true, nat_lt, List, [], ◌∷◌, length}
use Rattle.std.proofs.Common.{All, Some, None, count_by, refl, sym, ap, ◌∙◌, subst, arith}
use Rattle.std.specs.List.{AllByRecursion}
use Rattle.std.proofs.lemmas.List.Elements.{All-nil}
use Rattle.list_laws.specs.Sets.{times, same_list}
use Rattle.mill_model.specs.Charges.{ChargeTable}
use Rattle.order_symmetry.specs.Ranked.{RankedOrders}
use Rattle.search_step.specs.Honest.{IsHonest}
use Rattle.search_step.specs.Moves.{new_worker}
use Rattle.search_step.specs.Parts.{Parts}
use Rattle.search_step.specs.Steps.{FitsMill, IsSafe}
use Rattle.search_step.specs.Worker.{WorkerParts}
use Rattle.search_step.specs.declared.parts.Phase.{Phase}
use Rattle.search_step.specs.declared.parts.Phase.TheVariants.{Publishing}
use Rattle.search_step.proofs.Branches.{after-below, after-other}
use Rattle.core_machine.specs.Ends.{is_calm}
use Rattle.shared_words.specs.Best.{LossSeat}
use Rattle.shared_words.specs.Meter.{TicketSeat}
use Rattle.steal_deques.specs.Deque.{DequeOwner, DequeThief}
use Rattle.running_worker.proofs.AtWork.{same-worker}
use Rattle.running_worker.proofs.Events.{same-hand}
use Rattle.running_worker.specs.AtWork.{IsAtWork}
use Rattle.running_worker.specs.Jobs.{IsJobOf, IsNewThief, hand_of}
use Rattle.running_worker.specs.Running.{Running}
use Rattle.running_worker.specs.Worked.{AreLeft, HasDone, HasWorked, LosesAtMost, SameLossSeat}
use Rattle.running_worker.specs.Worked.{SameOwner, SameThieves, SameTicketSeat, stolen_count}
use Rattle.running_worker.specs.declared.job.Job.{Job}
use Rattle.running_worker.specs.declared.job.JobEnd.{JobEnd}
use Rattle.running_worker.specs.declared.round.Round.{Round}

new-safe : (ranked : RankedOrders) (charges : ChargeTable) (workers loss i : ℕ) → i < workers →
    IsSafe ranked charges workers i (new_worker workers (length ranked.placed) loss i)
new-safe ranked charges workers loss i l = record {
  held = λ path e. absurd (none-some path e);
  waiting = tt;
  victim = λ e. absurd (cc);
  next = λ several. (
    after-below workers i (omega (arith, several)),
    after-other workers i l several,
  );
  held_in = refl;
  waiting_in = refl;
  orders = refl;
  stored = tt;
  room = refl;
}
  where
    none-some : (path : List ℕ) → None ≡ Some path → ⊥
    none-some path e = cc

none-stolen : (ranked : RankedOrders) (x : List ℕ) (ts : List DequeThief) →
    AllByRecursion (IsNewThief ranked) ts → stolen_count x ts ≡ 0
none-stolen ranked x [] new = refl
none-stolen ranked x (t ∷ ts) new =
    let here : times same_list x t.stolen ≡ 0 = ap (times same_list x) new.0.stolen in
    let rest : stolen_count x ts ≡ 0 = none-stolen ranked x ts new.1 in omega arith

module _ (ranked : RankedOrders) (charges : ChargeTable) (round : Round) (job : Job)
    (is : IsJobOf ranked round job) where
  abbrev new : Parts
  new = new_worker round.workers (length ranked.placed) round.loss job.number

  abbrev worker : Parts → WorkerParts
  worker parts = record {
    ranked = ranked;
    charges = charges;
    number = job.number;
    workers = round.workers;
    parts = parts;
  }

  begun : IsHonest ranked charges round.loss new →
      HasDone ranked charges round.loss round.meter.nodes job.own.pushed new job.own
      job.thieves.items job.loss_seat job.ticket_seat
  begun honest = record {
    paths = λ x.
        let popped : times same_list x job.own.popped ≡ 0 = ap (times same_list x) is.popped in
        let stolen = none-stolen ranked x job.thieves.items is.thieves in
        omega (arith, popped, stolen);
    counted =
        sym (ap (count_by (λ ticket. nat_lt ticket round.meter.nodes)) is.tickets);
    honest = honest;
    fit = tt;
    published =
        subst (All (LosesAtMost new.best)) (sym is.published) (All-nil (LosesAtMost new.best));
  }

  begins-new : FitsMill ranked charges → IsHonest ranked charges round.loss new →
      IsAtWork round.loss (hand_of ranked round job) (worker new) (hand_of ranked round job)
  begins-new mill honest = record {
    worker = record {
      among = is.among;
      few = is.few;
      fits = mill;
      safe = new-safe ranked charges round.workers round.loss job.number is.among;
    };
    same = same-hand (hand_of ranked round job);
    has_done = begun honest;
    knows = λ quiet. is.seen;
    publishes = λ e. absurd (cc);
  }

  pub begins : FitsMill ranked charges → (w : WorkerParts) → w.ranked ≡ ranked →
      w.charges ≡ charges → w.number ≡ job.number → w.workers ≡ round.workers → w.parts ≡ new →
      IsHonest ranked charges round.loss w.parts → (h : Running) →
      h ≡ hand_of ranked round job →
      IsAtWork round.loss (hand_of ranked round job) w h
  begins mill w same_orders same_charges number workers parts honest h hand =
      subst (λ v. IsAtWork round.loss (hand_of ranked round job) v h) made
      (subst (IsAtWork round.loss (hand_of ranked round job) (worker new)) (sym hand)
      (begins-new mill (subst (IsHonest ranked charges round.loss) parts honest)))
    where
      made : worker new ≡ w
      made =
          sym (same-worker w (worker new) (sym same_orders) (sym same_charges) (sym number)
          (sym workers)) ∙ ap (λ (p : Parts). record w { parts = p }) (sym parts)

  pub has-worked : (w : WorkerParts) (h : Running) (done : JobEnd) →
      IsAtWork round.loss (hand_of ranked round job) w h → w.ranked ≡ ranked →
      w.charges ≡ charges → is_calm w.parts.phase ≡ true → AreLeft w.parts done.left →
      done.number ≡ h.number → done.loss_seat ≡ h.loss_seat → done.ticket_seat ≡ h.ticket_seat →
      done.own ≡ h.own → done.thieves.items ≡ h.thieves →
      HasWorked ranked charges round job done
  has-worked w h done at same_orders same_charges calm left number losses tickets own thieves =
      record {
        ends = record {
          number = number ∙ at.same.number;
          loss_seat = subst (SameLossSeat job.loss_seat) (sym losses) at.same.loss_seat;
          ticket_seat = subst (SameTicketSeat job.ticket_seat) (sym tickets) at.same.ticket_seat;
          own = subst (SameOwner job.own) (sym own) at.same.own;
          thieves = subst (SameThieves job.thieves.items) (sym thieves) at.same.thieves;
        };
        parts = w.parts;
        left = left;
        has_done =
            subst (λ r. Done r charges done.own done.thieves.items done.loss_seat done.ticket_seat)
            same_orders
            (subst (λ c. Done w.ranked c done.own done.thieves.items done.loss_seat
            done.ticket_seat) same_charges
            (subst (λ o. Done w.ranked w.charges o done.thieves.items done.loss_seat
            done.ticket_seat) (sym own)
            (subst (λ ts. Done w.ranked w.charges h.own ts done.loss_seat done.ticket_seat)
            (sym thieves)
            (subst (λ s. Done w.ranked w.charges h.own h.thieves s done.ticket_seat) (sym losses)
            (subst (Done w.ranked w.charges h.own h.thieves h.loss_seat) (sym tickets)
            at.has_done)))));
        calm = calm;
        known =
            let seen = at.knows (calm-quiet w.parts.phase calm) in
            let same : done.loss_seat.seen ≡ h.loss_seat.seen =
            ap (λ (s : LossSeat). s.seen) losses in omega (arith, seen, same);
      }
    where
      Done : RankedOrders → ChargeTable → DequeOwner → List DequeThief → LossSeat → TicketSeat →
          Type 0
      Done r c o ts s t = HasDone r c round.loss round.meter.nodes job.own.pushed w.parts o ts s t

      calm-quiet : (phase : Phase) → is_calm phase ≡ true → phase ≢ Publishing
      calm-quiet phase calm is = let e : is_calm Publishing ≡ true =
          subst (λ p. is_calm p ≡ true) is calm in absurd (cc)
