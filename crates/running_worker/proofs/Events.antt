-- What each call on a running hand changes. The seats and ends stay the same ones, what came to the
-- worker was popped or stolen, what went from it was pushed, and each ticket is one more number
-- below the budget.
use Rattle.std.proofs.Common.{ℕ, zero, suc, ◌+◌, ◌<◌, ◌≡◌, Bool, true, false, cond, nat_lt}
use Rattle.std.proofs.Common.{List, [], ◌∷◌, ◌++◌, length, set, get_or, count_by, Option, Some}
use Rattle.std.proofs.Common.{None, inl, inr, refl, sym, ap, ◌∙◌, subst, arith}
use Rattle.std.proofs.lemmas.List.Sums.{sum_by_push}
use Rattle.list_laws.specs.Sets.{times, same_list}
use Rattle.list_laws.proofs.Times.{times-append}
use Rattle.mill_model.specs.declared.limits.Draw.{Draw}
use Rattle.mill_model.specs.declared.limits.Draw.TheVariants.{Ticket, Spent}
use Rattle.search_step.specs.Accounts.{DidMaybe, came, ticket, tickets, went}
use Rattle.search_step.specs.declared.event.Event.{Event}
use Rattle.search_step.specs.declared.event.Event.TheVariants.{Took, Stole, Pushed, Refused}
use Rattle.search_step.specs.declared.event.Event.TheVariants.{Drew as DrewEvent, Looked, Published}
use Rattle.search_step.specs.declared.event.Event.TheVariants.{Stopping, Stood}
use Rattle.core_machine.specs.Counts.{sum_of}
use Rattle.core_machine.proofs.Lists.{sum-set}
use Rattle.shared_words.specs.Best.{LossSeat}
use Rattle.shared_words.specs.Meter.{TicketSeat, draw_at, number_of}
use Rattle.steal_deques.specs.Deque.{DequeOwner, DequeThief}
use Rattle.running_worker.specs.AtWork.{SameHand}
use Rattle.running_worker.specs.Running.{Pops, Running, Steals, Tries, place_of, running_did}
use Rattle.running_worker.specs.Running.{with_losses, with_own, with_thieves, with_tickets}
use Rattle.running_worker.specs.Worked.{SameLossSeat, SameOwner, SameThief, SameThieves}
use Rattle.running_worker.specs.Worked.{SameTicketSeat, stolen_count}

-- how many of the numbers that a seat drew are below the budget
abbrev pub drawn_below : ℕ → TicketSeat → ℕ
drawn_below nodes seat = count_by (λ number. nat_lt number nodes) seat.tickets

same-losses : (s : LossSeat) → SameLossSeat s s
same-losses s = record { table = refl; start = refl; shares = refl }

same-tickets : (s : TicketSeat) → SameTicketSeat s s
same-tickets s = record { table = refl; nodes = refl; shares = refl }

same-owner : (o : DequeOwner) → SameOwner o o
same-owner o =
    record { deque = refl; ranked = refl; all = refl; shares = refl; stolen = refl }

same-thieves : (ts : List DequeThief) → SameThieves ts ts
same-thieves [] = tt
same-thieves (t ∷ ts) = (record { deque = refl; ranked = refl }, same-thieves ts)

pub same-hand : (h : Running) → SameHand h h
same-hand h = record {
  number = refl;
  meter = refl;
  loss_seat = same-losses h.loss_seat;
  ticket_seat = same-tickets h.ticket_seat;
  own = same-owner h.own;
  thieves = same-thieves h.thieves;
}

thieves-later : (ts us vs : List DequeThief) → SameThieves ts us → SameThieves us vs →
    SameThieves ts vs
thieves-later [] [] [] a b = tt
thieves-later [] [] (v ∷ vs) a b = absurd b
thieves-later [] (u ∷ us) vs a b = absurd a
thieves-later (t ∷ ts) [] vs a b = absurd a
thieves-later (t ∷ ts) (u ∷ us) [] a b = absurd b
thieves-later (t ∷ ts) (u ∷ us) (v ∷ vs) a b = (
  record { deque = b.0.deque ∙ a.0.deque; ranked = b.0.ranked ∙ a.0.ranked },
  thieves-later ts us vs a.1 b.1,
)

pub same-later : (h g f : Running) → SameHand h g → SameHand g f → SameHand h f
same-later h g f a b = record {
  number = b.number ∙ a.number;
  meter = b.meter ∙ a.meter;
  loss_seat = record {
    table = b.loss_seat.table ∙ a.loss_seat.table;
    start = b.loss_seat.start ∙ a.loss_seat.start;
    shares = b.loss_seat.shares ∙ a.loss_seat.shares;
  };
  ticket_seat = record {
    table = b.ticket_seat.table ∙ a.ticket_seat.table;
    nodes = b.ticket_seat.nodes ∙ a.ticket_seat.nodes;
    shares = b.ticket_seat.shares ∙ a.ticket_seat.shares;
  };
  own = record {
    deque = b.own.deque ∙ a.own.deque;
    ranked = b.own.ranked ∙ a.own.ranked;
    all = b.own.all ∙ a.own.all;
    shares = b.own.shares ∙ a.own.shares;
    stolen = b.own.stolen ∙ a.own.stolen;
  };
  thieves = thieves-later h.thieves g.thieves f.thieves a.thieves b.thieves;
}

-- a try leaves the thief the same
try-same : (t : DequeThief) (path : Option (List ℕ)) (u : DequeThief) → Tries t path u →
    SameThief t u
try-same t None u (inl nothing) = subst (SameThief t) (sym nothing.1)
    (record { deque = refl; ranked = refl })
try-same t None u (inr lost) = subst (SameThief t) (sym lost)
    (record { deque = refl; ranked = refl })
try-same t (Some path) u won = subst (SameThief t) (sym won)
    (record { deque = refl; ranked = refl })

replaced-same : (ts : List DequeThief) (k : ℕ) (t u : DequeThief) → k < length ts →
    get_or ts k t ≡ t → SameThief t u → SameThieves ts (set ts k u)
replaced-same [] k t u l e s = absurd (omega arith)
replaced-same (v ∷ ts) zero t u l e s =
    (subst (λ (v : DequeThief). SameThief v u) (sym e) s, same-thieves ts)
replaced-same (v ∷ ts) (suc k) t u l e s =
    (record { deque = refl; ranked = refl }, replaced-same ts k t u (omega arith) e s)

module _ (x : List ℕ) where
  abbrev count : List (List ℕ) → ℕ
  count = times same_list x

  one-more : (xs : List (List ℕ)) (path : List ℕ) →
      count (xs ++ path ∷ []) ≡ count xs + count (path ∷ [])
  one-more xs path = times-append same_list x xs (path ∷ [])

  -- what a thief stole, after a try
  try-stole : (t : DequeThief) (path : Option (List ℕ)) (u : DequeThief) (victim : ℕ) →
      Tries t path u → count u.stolen ≡ count t.stolen + count (came (Some (Stole victim path)))
  try-stole t None u victim (inl nothing) =
      let no_came : count (came (Some (Stole victim None))) ≡ 0 = refl in
      let e : count u.stolen ≡ count t.stolen =
      ap (λ (t : DequeThief). count t.stolen) nothing.1 in omega arith
  try-stole t None u victim (inr lost) =
      let no_came : count (came (Some (Stole victim None))) ≡ 0 = refl in
      let e : count u.stolen ≡ count t.stolen = ap (λ (t : DequeThief). count t.stolen) lost in
      omega arith
  try-stole t (Some path) u victim won =
      ap (λ (t : DequeThief). count t.stolen) won ∙ one-more t.stolen path

  -- what an event changes
  pub record Changes (e : Option Event) (h h' : Running) : Type 0 where
    pub same : SameHand h h'
    pub pushed : count h'.own.pushed ≡ count h.own.pushed + count (went e)
    pub taken :
        count h'.own.popped + stolen_count x h'.thieves
        ≡ count h.own.popped + stolen_count x h.thieves + count (came e)
    pub drawn :
        drawn_below h.meter.nodes h'.ticket_seat
        ≡ drawn_below h.meter.nodes h.ticket_seat + tickets e

  module _ (h : Running) where
    still : Changes None h h
    still =
        let no_went : count (went None) ≡ 0 = refl in
        let no_came : count (came None) ≡ 0 = refl in
        let no_ticket : tickets None ≡ 0 = refl in
        record {
          same = same-hand h;
          pushed = omega arith;
          taken = omega arith;
          drawn = omega arith;
        }

    with-losses : (e : Option Event) (seat : LossSeat) → SameLossSeat h.loss_seat seat →
        went e ≡ [] → came e ≡ [] → tickets e ≡ 0 → Changes e h (with_losses h seat)
    with-losses e seat same w c t =
        let no_went : count (went e) ≡ 0 = ap count w in
        let no_came : count (came e) ≡ 0 = ap count c in
        record {
          same = record {
            number = refl;
            meter = refl;
            loss_seat = same;
            ticket_seat = same-tickets h.ticket_seat;
            own = same-owner h.own;
            thieves = same-thieves h.thieves;
          };
          pushed = omega arith;
          taken = omega arith;
          drawn = omega (arith, t);
        }

    with-tickets : (e : Option Event) (seat : TicketSeat) → SameTicketSeat h.ticket_seat seat →
        went e ≡ [] → came e ≡ [] → drawn_below h.meter.nodes seat
        ≡ drawn_below h.meter.nodes h.ticket_seat + tickets e →
        Changes e h (with_tickets h seat)
    with-tickets e seat same w c t =
        let no_went : count (went e) ≡ 0 = ap count w in
        let no_came : count (came e) ≡ 0 = ap count c in
        record {
          same = record {
            number = refl;
            meter = refl;
            loss_seat = same-losses h.loss_seat;
            ticket_seat = same;
            own = same-owner h.own;
            thieves = same-thieves h.thieves;
          };
          pushed = omega arith;
          taken = omega arith;
          drawn = t;
        }

    with-own : (e : Option Event) (own : DequeOwner) → SameOwner h.own own → tickets e ≡ 0 →
        count own.pushed ≡ count h.own.pushed + count (went e) →
        count own.popped ≡ count h.own.popped + count (came e) → Changes e h (with_own h own)
    with-own e own same t w c = record {
      same = record {
        number = refl;
        meter = refl;
        loss_seat = same-losses h.loss_seat;
        ticket_seat = same-tickets h.ticket_seat;
        own = same;
        thieves = same-thieves h.thieves;
      };
      pushed = w;
      taken = omega (arith, c);
      drawn = omega (arith, t);
    }

    pop-changes : (path : Option (List ℕ)) (own : DequeOwner) → Pops h.own path own →
        Changes (Some (Took path)) h (with_own h own)
    pop-changes None own pops =
        with-own (Some (Took None)) own
        (subst (SameOwner h.own) (sym pops.0) (same-owner h.own)) refl
        (let e : count own.pushed ≡ count h.own.pushed =
        ap (λ (o : DequeOwner). count o.pushed) pops.0 in
        let no_went : count (went (Some (Took None))) ≡ 0 = refl in omega arith)
        (let e : count own.popped ≡ count h.own.popped =
        ap (λ (o : DequeOwner). count o.popped) pops.0 in
        let no_came : count (came (Some (Took None))) ≡ 0 = refl in omega arith)
    pop-changes (Some path) own pops =
        with-own (Some (Took (Some path))) own
        (subst (SameOwner h.own) (sym pops.0)
        (record { deque = refl; ranked = refl; all = refl; shares = refl; stolen = refl })) refl
        (let e : count own.pushed ≡ count h.own.pushed =
        ap (λ (o : DequeOwner). count o.pushed) pops.0 in
        let no_went : count (went (Some (Took (Some path)))) ≡ 0 = refl in omega arith)
        (ap (λ (o : DequeOwner). count o.popped) pops.0 ∙ one-more h.own.popped path)

    steal-changes : (victim : ℕ) (path : Option (List ℕ)) (thieves : List DequeThief) →
        Steals h.thieves (place_of h.number victim) path thieves →
        Changes (Some (Stole victim path)) h (with_thieves h thieves)
    steal-changes victim path thieves steals =
        let place = place_of h.number victim in
        let stole = try-stole steals.thief path steals.next victim steals.tries in
        let sums : sum_of (λ (t : DequeThief). count t.stolen) (set h.thieves place steals.next)
        + count (get_or h.thieves place steals.thief).stolen
        ≡ sum_of (λ (t : DequeThief). count t.stolen) h.thieves + count steals.next.stolen =
        sum-set (λ (t : DequeThief). count t.stolen) h.thieves place steals.next steals.thief
        steals.there in
        let here : count (get_or h.thieves place steals.thief).stolen
        ≡ count steals.thief.stolen =
        ap (λ (t : DequeThief). count t.stolen) steals.is in
        let became : stolen_count x thieves ≡ stolen_count x (set h.thieves place steals.next) =
        ap (stolen_count x) steals.became in
        let no_went : count (went (Some (Stole victim path))) ≡ 0 = refl in
        let no_ticket : tickets (Some (Stole victim path)) ≡ 0 = refl in
        record {
          same = record {
            number = refl;
            meter = refl;
            loss_seat = same-losses h.loss_seat;
            ticket_seat = same-tickets h.ticket_seat;
            own = same-owner h.own;
            thieves = subst (SameThieves h.thieves) (sym steals.became)
                (replaced-same h.thieves place steals.thief steals.next steals.there steals.is
                (try-same steals.thief path steals.next steals.tries));
          };
          pushed = omega arith;
          taken = omega arith;
          drawn = omega arith;
        }

    draw-below : (draw : Draw) → draw ≡ draw_at h.meter.nodes (number_of draw) →
        cond (nat_lt (number_of draw) h.meter.nodes) 1 0 ≡ ticket draw
    draw-below draw e = go (nat_lt (number_of draw) h.meter.nodes) draw refl e
      where
        go : (b : Bool) (d : Draw) → nat_lt (number_of d) h.meter.nodes ≡ b →
            d ≡ draw_at h.meter.nodes (number_of d) →
            cond (nat_lt (number_of d) h.meter.nodes) 1 0 ≡ ticket d
        go true (Ticket t) below is = rw below refl
        go true (Spent t) below is = absurd (cc)
        go false (Ticket t) below is = absurd (cc)
        go false (Spent t) below is = rw below refl

    draw-changes : (draw : Draw) (spends : ℕ) →
        draw ≡ draw_at h.meter.nodes (number_of draw) → Changes (Some (DrewEvent draw)) h
        (with_tickets h (record h.ticket_seat {
          spends = spends;
          tickets = h.ticket_seat.tickets ++ number_of draw ∷ [];
        }))
    draw-changes draw spends e =
        with-tickets (Some (DrewEvent draw)) _
        (record { table = refl; nodes = refl; shares = refl }) refl refl
        (sum_by_push (λ number. cond (nat_lt number h.meter.nodes) 1 0) h.ticket_seat.tickets
        (number_of draw) ∙ ap (λ n. drawn_below h.meter.nodes h.ticket_seat + n)
        (draw-below draw e))

  -- each event that the hand did, or none
  pub did-changes : (e : Option Event) (h h' : Running) → DidMaybe running_did h e h' →
      Changes e h h'
  did-changes None h h' same = subst (Changes None h) (sym same) (still h)
  did-changes (Some (Took path)) h h' (pops, is) =
      subst (Changes (Some (Took path)) h) (sym is) (pop-changes h path h'.own pops)
  did-changes (Some (Stole victim path)) h h' (steals, is) =
      subst (Changes (Some (Stole victim path)) h) (sym is)
      (steal-changes h victim path h'.thieves steals)
  did-changes (Some (Pushed path)) h h' is =
      subst (Changes (Some (Pushed path)) h) (sym is)
      (with-own h (Some (Pushed path)) _
      (record { deque = refl; ranked = refl; all = refl; shares = refl; stolen = refl }) refl
      (one-more h.own.pushed path)
      (let no_came : count (came (Some (Pushed path))) ≡ 0 = refl in omega arith))
  did-changes (Some (Refused path)) h h' is =
      subst (Changes (Some (Refused path)) h) (sym is)
      (with-losses h (Some (Refused path)) h.loss_seat (same-losses h.loss_seat) refl refl refl)
  did-changes (Some (DrewEvent draw)) h h' (answers, is) =
      subst (Changes (Some (DrewEvent draw)) h) (sym is) (draw-changes h draw _ answers)
  did-changes (Some (Looked least)) h h' (told, is) =
      subst (Changes (Some (Looked least)) h) (sym is)
      (with-losses h (Some (Looked least)) _
      (record { table = refl; start = refl; shares = refl }) refl refl refl)
  did-changes (Some (Published loss before)) h h' (told, is) =
      subst (Changes (Some (Published loss before)) h) (sym is)
      (with-losses h (Some (Published loss before)) _
      (record { table = refl; start = refl; shares = refl }) refl refl refl)
  did-changes (Some Stopping) h h' is =
      subst (Changes (Some Stopping) h) (sym is)
      (with-tickets h (Some Stopping) _ (record { table = refl; nodes = refl; shares = refl }) refl
      refl (let no_ticket : tickets (Some Stopping) ≡ 0 = refl in omega arith))
  did-changes (Some (Stood answer)) h h' (hears, is) =
      subst (Changes (Some (Stood answer)) h) (sym is)
      (with-tickets h (Some (Stood answer)) _
      (record { table = refl; nodes = refl; shares = refl }) refl refl
      (let no_ticket : tickets (Some (Stood answer)) ≡ 0 = refl in omega arith))
