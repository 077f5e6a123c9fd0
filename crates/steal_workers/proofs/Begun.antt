-- What a round begins with: from new deques, of which the first has got some paths, and new seats.
use Rattle.std.proofs.Common.{◌≡◌, ℕ, zero, suc, ◌<◌, ◌≤◌, ◌+◌, ◌++◌, List, [], ◌∷◌, length, map}
use Rattle.std.proofs.Common.{get_or, refl, sym, ap, ◌∙◌, subst, arith, All, append_assoc}
use Rattle.std.proofs.Common.{length-append}
use Rattle.std.proofs.lemmas.List.{get_or-map, length-map, map_push}
use Rattle.std.proofs.lemmas.List.Elements.{All-cons, All-head, All-push, All-same}
use Rattle.std.proofs.lemmas.List.Elements.{All-tail, All-weaker}
use Rattle.std.specs.List.{AllByRecursion}
use Rattle.list_laws.specs.Sets.{times, same_list}
use Rattle.order_symmetry.specs.Ranked.{RankedOrders}
use Rattle.shared_words.specs.Best.{LossSeat}
use Rattle.shared_words.specs.Meter.{TicketSeat}
use Rattle.steal_deques.specs.Deque.{DequeOwner, DequeThief}
use Rattle.running_worker.specs.Jobs.{IsJobOf, IsNewThief}
use Rattle.running_worker.specs.declared.job.Job.{Job}
use Rattle.running_worker.specs.declared.round.Round.{Round}
use Rattle.steal_workers.specs.Deques.{AreDealt, IsLent, IsNewOwner, all_but, all_pushed, home_of}
use Rattle.steal_workers.specs.Deques.{homes_of, new_thief, thieves_in, thieves_of}
use Rattle.steal_workers.specs.Rounds.{Begins, job_owners, job_seats, job_thieves, with_first}
use Rattle.steal_workers.specs.Seats.{AreNew, AreSeatsOf}
use Rattle.steal_workers.specs.Words.{IsOpened}
use Rattle.steal_workers.specs.declared.lending.Dealt.{Dealt}
use Rattle.steal_workers.specs.declared.seats.Seats.{Seats}

module _ {X Y : Type 0} where
  all-but-map : (f : X → Y) (i : ℕ) (xs : List X) →
      map f (all_but i xs) ≡ all_but i (map f xs)
  all-but-map f i [] = refl
  all-but-map f zero (x ∷ xs) = refl
  all-but-map f (suc i) (x ∷ xs) = ap (λ l. f x ∷ l) (all-but-map f i xs)

  all-of-mapped : (P : Y → Type 0) (f : X → Y) (xs : List X) → All P (map f xs) →
      All (λ x. P (f x)) xs
  all-of-mapped P f xs all k d l =
      subst P (get_or-map f xs k d (f d) l) (all k (f d) (omega (arith, l, length-map xs f)))

all-but-short : {X : Type 0} (i : ℕ) (xs : List X) → i < length xs →
    length (all_but i xs) + 1 ≡ length xs
all-but-short i [] l = absurd (omega arith)
all-but-short zero (x ∷ xs) l = omega arith
all-but-short (suc i) (x ∷ xs) l = omega (arith, all-but-short i xs (omega arith))

-- the first deque has got some paths

module _ (ranked : RankedOrders) (workers : ℕ) where
  -- a deque that nobody popped from or stole from, and that the thieves have shares of
  record IsReady (own : DequeOwner) : Type 0 where
    pub lent : IsLent workers own
    pub orders : own.ranked ≡ ranked
    pub popped : own.popped ≡ []

  is-ready : (own : DequeOwner) → IsNewOwner ranked workers own → IsReady own
  is-ready own new = record {
    lent = record { all = new.all; shares = new.shares; stolen = new.stolen };
    orders = new.orders;
    popped = new.popped;
  }

  all-ready : (paths : List (List ℕ)) (owns : List DequeOwner) →
      All (IsNewOwner ranked workers) owns → All IsReady (with_first paths owns)
  all-ready paths [] new = λ k d l. absurd (omega (arith, l))
  all-ready paths (own ∷ owns) new =
      let first = All-head (IsNewOwner ranked workers) own owns new in
      All-cons IsReady (record own { pushed = own.pushed ++ paths }) owns
      (record {
        lent = record { all = first.all; shares = first.shares; stolen = first.stolen };
        orders = first.orders;
        popped = first.popped;
      })
      (All-weaker (IsNewOwner ranked workers) IsReady is-ready owns
      (All-tail (IsNewOwner ranked workers) own owns new))

  none-pushed : (x : List ℕ) (owns : List DequeOwner) → All (IsNewOwner ranked workers) owns →
      all_pushed x owns ≡ 0
  none-pushed x [] new = refl
  none-pushed x (own ∷ owns) new =
      omega (
        arith,
        ap (times same_list x) (All-head (IsNewOwner ranked workers) own owns new).pushed,
        none-pushed x owns (All-tail (IsNewOwner ranked workers) own owns new),
      )

  first-pushed : (x : List ℕ) (paths : List (List ℕ)) (owns : List DequeOwner) →
      0 < length owns → All (IsNewOwner ranked workers) owns →
      all_pushed x (with_first paths owns) ≡ times same_list x paths
  first-pushed x paths [] l new = absurd (omega (arith, l))
  first-pushed x paths (own ∷ owns) l new =
      let first =
      ap (λ (ps : List (List ℕ)). times same_list x (ps ++ paths))
      (All-head (IsNewOwner ranked workers) own owns new).pushed in
      omega (
        arith,
        first,
        none-pushed x owns (All-tail (IsNewOwner ranked workers) own owns new),
      )

  new-thieves : (owns : List DequeOwner) → All (IsNewOwner ranked workers) owns →
      AllByRecursion (IsNewThief ranked) (map new_thief owns)
  new-thieves [] new = tt
  new-thieves (own ∷ owns) new = (
    record {
      orders = (All-head (IsNewOwner ranked workers) own owns new).orders;
      stolen = refl;
    },
    new-thieves owns (All-tail (IsNewOwner ranked workers) own owns new),
  )

first-homes : (paths : List (List ℕ)) (owns : List DequeOwner) →
    map home_of (with_first paths owns) ≡ map home_of owns
first-homes paths [] = refl
first-homes paths (own ∷ owns) = refl

first-count : (paths : List (List ℕ)) (owns : List DequeOwner) →
    length (with_first paths owns) ≡ length owns
first-count paths [] = refl
first-count paths (own ∷ owns) = refl

new-homes : (owns : List DequeOwner) → homes_of (map new_thief owns) ≡ map home_of owns
new-homes [] = refl
new-homes (own ∷ owns) = ap (λ l. home_of own ∷ l) (new-homes owns)

all-but-all : (P : DequeThief → Type 0) (i : ℕ) (ts : List DequeThief) → AllByRecursion P ts →
    AllByRecursion P (all_but i ts)
all-but-all P i [] a = tt
all-but-all P zero (t ∷ ts) a = a.1
all-but-all P (suc i) (t ∷ ts) a = (a.0, all-but-all P i ts a.1)

-- new seats are seats of the round
are-seats : (round : Round) (seats : Seats) → AreNew round.best round.meter seats →
    AreSeatsOf round.best round.meter seats
are-seats round seats new = record {
  loss = (
    ap (λ (s : LossSeat). s.table) new.loss,
    ap (λ (s : LossSeat). s.start) new.loss,
  );
  loss_share = ap (λ (s : LossSeat). s.shares) new.loss;
  ticket = (
    ap (λ (s : TicketSeat). s.table) new.ticket,
    ap (λ (s : TicketSeat). s.nodes) new.ticket,
  );
  ticket_share = ap (λ (s : TicketSeat). s.shares) new.ticket;
}

module _ (ranked : RankedOrders) (workers loss nodes : ℕ) (paths : List (List ℕ)) (round : Round)
    (dealt : Dealt) (owns : List DequeOwner) (seats : List Seats) (jobs : List Job)
    (some : 1 ≤ workers) (few : workers ≤ 64) (opened : IsOpened workers loss nodes round)
    (are : AreDealt ranked workers dealt) (given : owns ≡ with_first paths dealt.owns.items)
    (new : All (AreNew round.best round.meter) seats)
    (numbers : All (λ (job : Job). job.number < length owns) jobs)
    (their_owns : job_owners jobs ≡ owns)
    (their_thieves : job_thieves jobs ≡ thieves_in dealt.all_thieves.items)
    (their_seats : map job_seats jobs ≡ seats) where
  owns-count : length owns ≡ workers
  owns-count = ap length given ∙ first-count paths dealt.owns.items ∙ are.owners

  count : length jobs ≡ workers
  count =
      sym (length-map jobs (λ (job : Job). job.own)) ∙ ap length their_owns ∙ owns-count

  ready : All (IsReady ranked workers) (job_owners jobs)
  ready =
      All-same (IsReady ranked workers) (job_owners jobs) (with_first paths dealt.owns.items)
      (their_owns ∙ given) (all-ready ranked workers paths dealt.owns.items are.new)

  new-seats : All (AreNew round.best round.meter) (map job_seats jobs)
  new-seats =
      All-same (AreNew round.best round.meter) (map job_seats jobs) seats their_seats new

  dealt-thieves : (i : ℕ) → i < workers →
      thieves_of (job_thieves jobs) i ≡ all_but i (map new_thief dealt.owns.items)
  dealt-thieves i l =
      ap (λ h. thieves_of h i) their_thieves ∙ are.thieves i (omega (arith, l, are.takers))

  thieves-at : (k : ℕ) (d : Job) → k < length jobs →
      (get_or jobs k d).thieves.items ≡ all_but k (map new_thief dealt.owns.items)
  thieves-at k d l =
      sym (get_or-map (λ (job : Job). job.thieves.items) jobs k d [] l)
      ∙ dealt-thieves k (omega (arith, l, count))

  is-job : All (IsJobOf ranked round) jobs
  is-job k d l =
      let job = get_or jobs k d in
      let own =
      all-of-mapped (IsReady ranked workers) (λ (j : Job). j.own) jobs ready k d l in
      let seat =
      all-of-mapped (AreNew round.best round.meter) job_seats jobs new-seats k d l in
      let of-round = are-seats round (job_seats job) seat in
      let thieves = thieves-at k d l in
      record {
        among = omega (arith, numbers k d l, owns-count, opened.workers_are);
        few = omega (arith, few, opened.workers_are);
        loss_seat = of-round.loss;
        ticket_seat = of-round.ticket;
        own = own.orders;
        others = omega (
          arith,
          ap length thieves,
          all-but-short k (map new_thief dealt.owns.items)
              (omega (arith, l, count, length-map dealt.owns.items new_thief, are.owners)),
          length-map dealt.owns.items new_thief,
          are.owners,
          opened.workers_are,
        );
        thieves = subst (AllByRecursion (IsNewThief ranked)) (sym thieves)
            (all-but-all (IsNewThief ranked) k (map new_thief dealt.owns.items)
            (new-thieves ranked workers dealt.owns.items are.new));
        seen = omega (
          arith,
          ap (λ (s : LossSeat). s.seen) seat.loss,
          opened.start,
          opened.loss_is,
        );
        published = ap (λ (s : LossSeat). s.mine) seat.loss;
        tickets = ap (λ (s : TicketSeat). s.tickets) seat.ticket;
        draws = omega (arith, ap (λ (s : TicketSeat). s.spends) seat.ticket);
        popped = own.popped;
      }

  pub begins : Begins ranked workers paths round jobs
  begins = record {
    count = count;
    each = is-job;
    seats = All-weaker (AreNew round.best round.meter) (AreSeatsOf round.best round.meter)
        (are-seats round) (map job_seats jobs) new-seats;
    lent = All-weaker (IsReady ranked workers) (IsLent workers) (λ own r. r.lent)
        (job_owners jobs) ready;
    thieves = λ i l.
        ap homes_of (dealt-thieves i (omega (
          arith,
          l,
          count,
          length-map jobs (λ (job : Job). job.thieves.items),
        )))
        ∙ all-but-map (λ (t : DequeThief). (t.deque, t.ranked)) i
        (map new_thief dealt.owns.items)
        ∙ ap (all_but i)
        (new-homes dealt.owns.items
        ∙ sym (first-homes paths dealt.owns.items)
        ∙ ap (map home_of) (sym (their_owns ∙ given)));
    pushed = λ x.
        ap (all_pushed x) (their_owns ∙ given)
        ∙ first-pushed ranked workers x paths dealt.owns.items
        (omega (arith, some, are.owners)) are.new;
  }

-- One job after another is made.

pub mapped-more : {X Y : Type 0} (f : X → Y) (xs xs' : List X) (x : X) (ys rest all : List Y) →
    xs' ≡ xs ++ x ∷ [] → map f xs ++ ys ≡ all → ys ≡ f x ∷ rest → map f xs' ++ rest ≡ all
mapped-more f xs xs' x ys rest all e so first =
    ap (λ l. map f l ++ rest) e ∙ ap (λ l. l ++ rest) (map_push f xs x)
    ∙ append_assoc (map f xs) (f x ∷ []) rest ∙ ap (λ l. map f xs ++ l) (sym first) ∙ so

-- its number is below their number
pub number-fits : (number : ℕ) (jobs : List Job) (own : DequeOwner)
    (owns rest all : List DequeOwner) → number ≡ length jobs → job_owners jobs ++ owns ≡ all →
    owns ≡ own ∷ rest → number < length all
number-fits number jobs own owns rest all e so first =
    omega (
      arith,
      e,
      ap length so,
      ap length first,
      length-append (job_owners jobs) owns,
      length-map jobs (λ (job : Job). job.own),
    )

pub all-numbered : (n : ℕ) (jobs jobs' : List Job) (job : Job) → jobs' ≡ jobs ++ job ∷ [] →
    All (λ (j : Job). j.number < n) jobs → job.number < n → All (λ (j : Job). j.number < n) jobs'
all-numbered n jobs jobs' job e all l =
    All-same (λ (j : Job). j.number < n) jobs' (jobs ++ job ∷ []) e
    (All-push (λ (j : Job). j.number < n) jobs job all l)
