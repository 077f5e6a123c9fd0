-- What the jobs of a round come to at their ends, job by job.
use Rattle.std.proofs.Common.{◌≡◌, ℕ, zero, suc, ◌<◌, ◌≤◌, ◌+◌, ◌++◌, List, [], ◌∷◌, length}
use Rattle.std.proofs.Common.{map, flat_map, get_or, option_to_list, refl, sym, ap, ap₂, ◌∙◌, subst}
use Rattle.std.proofs.Common.{arith, All, Contains, IfOk, Ok, Result}
use Rattle.std.proofs.lemmas.List.{length-map}
use Rattle.std.proofs.lemmas.List.Elements.{All-contains, All-cons, All-head, All-tail}
use Rattle.std.specs.List.{AllByRecursion, AllZip}
use Rattle.mill_model.specs.Charges.{ChargeTable}
use Rattle.mill_model.specs.declared.closing.Entry.{Entry}
use Rattle.mill_model.specs.declared.memory.OutOfMemory.{OutOfMemory}
use Rattle.mill_model.specs.declared.plan.Start.{Start}
use Rattle.order_symmetry.specs.Ranked.{RankedOrders}
use Rattle.search_step.specs.Leaving.{better_of, paths_left}
use Rattle.search_step.specs.Parts.{Parts}
use Rattle.search_step.specs.Promise.{AllFit}
use Rattle.search_step.specs.Steps.{task_at}
use Rattle.core_machine.specs.Core.{unclosed_by}
use Rattle.core_machine.specs.Counts.{own_count, split_count, sum_of, tickets_of}
use Rattle.core_machine.specs.Kept.{best_of}
use Rattle.core_machine.proofs.Bests.{best-at-most-kept}
use Rattle.steal_deques.specs.Deque.{DequeOwner, DequeThief}
use Rattle.running_worker.specs.Worked.{HasWorked, LosesAtMost, SameThieves}
use Rattle.running_worker.specs.declared.job.Job.{Job}
use Rattle.running_worker.specs.declared.job.JobEnd.{JobEnd}
use Rattle.running_worker.specs.declared.round.Round.{Round}
use Rattle.steal_workers.specs.Deques.{IsLent, all_but, all_popped, all_pushed}
use Rattle.steal_workers.specs.Deques.{all_stolen, home_of, homes_of, thieves_of}
use Rattle.steal_workers.specs.Rounds.{Begins, MayEnd, best_left, end_owners, end_seats}
use Rattle.steal_workers.specs.Rounds.{end_thieves, job_owners, job_seats, job_thieves, work_left}
use Rattle.steal_workers.specs.Seats.{AreSeatsOf}
use Rattle.steal_workers.specs.Words.{IsOpened, tickets_below}
use Rattle.steal_workers.specs.declared.seats.Seats.{Seats}

abbrev pub ended : JobEnd → Result JobEnd OutOfMemory
ended end = Ok end

module _ (ranked : RankedOrders) (charges : ChargeTable) (round : Round) where
  abbrev pub Worked : List Job → List JobEnd → Type 0
  Worked = AllZip (HasWorked ranked charges round)

  -- the workers that the ends of jobs are of
  abbrev pub workers_of : (jobs : List Job) (ends : List JobEnd) → Worked jobs ends → List Parts
  workers_of [] [] h = []
  workers_of [] (end ∷ ends) h = []
  workers_of (job ∷ jobs) [] h = []
  workers_of (job ∷ jobs) (end ∷ ends) h = h.0.parts ∷ workers_of jobs ends h.1

  -- the ends of all jobs, from the results of the calls that ran them
  pub all-worked : (jobs : List Job) (ends : List JobEnd) → length ends ≡ length jobs →
      ((i : ℕ) (d : Job) (r : Result JobEnd OutOfMemory) → i < length jobs →
      IfOk (get_or (map ended ends) i r) (HasWorked ranked charges round (get_or jobs i d))) →
      Worked jobs ends
  all-worked [] [] long h = tt
  all-worked [] (end ∷ ends) long h = absurd (omega (arith, long))
  all-worked (job ∷ jobs) [] long h = absurd (omega (arith, long))
  all-worked (job ∷ jobs) (end ∷ ends) long h = (
    h 0 job (Ok end) (omega arith),
    all-worked jobs ends (omega (arith, long)) (λ i d r l. h (suc i) d r (omega (arith, l))),
  )

  pub as-many : (jobs : List Job) (ends : List JobEnd) → Worked jobs ends →
      length ends ≡ length jobs
  as-many [] [] h = refl
  as-many [] (end ∷ ends) h = absurd h
  as-many (job ∷ jobs) [] h = absurd h
  as-many (job ∷ jobs) (end ∷ ends) h = ap suc (as-many jobs ends h.1)

  pub workers-count : (jobs : List Job) (ends : List JobEnd) (h : Worked jobs ends) →
      length (workers_of jobs ends h) ≡ length ends
  workers-count [] [] h = refl
  workers-count [] (end ∷ ends) h = absurd h
  workers-count (job ∷ jobs) [] h = absurd h
  workers-count (job ∷ jobs) (end ∷ ends) h = ap suc (workers-count jobs ends h.1)

  -- what is so of each worker that has worked
  pub each-worker : (P : Parts → Type 0) →
      ((job : Job) (end : JobEnd) (w : HasWorked ranked charges round job end) → P w.parts) →
      (jobs : List Job) (ends : List JobEnd) (h : Worked jobs ends) →
      AllByRecursion P (workers_of jobs ends h)
  each-worker P so [] [] h = tt
  each-worker P so [] (end ∷ ends) h = absurd h
  each-worker P so (job ∷ jobs) [] h = absurd h
  each-worker P so (job ∷ jobs) (end ∷ ends) h = (so job end h.0, each-worker P so jobs ends h.1)

  pub all-fit : (jobs : List Job) (ends : List JobEnd) (h : Worked jobs ends) →
      AllByRecursion (AllFit ranked) (map (λ (w : Parts). w.piece) (workers_of jobs ends h))
  all-fit [] [] h = tt
  all-fit [] (end ∷ ends) h = absurd h
  all-fit (job ∷ jobs) [] h = absurd h
  all-fit (job ∷ jobs) (end ∷ ends) h = (h.0.has_done.fit, all-fit jobs ends h.1)

  -- none knows less than what no seat saw less than
  pub all-know : (least : ℕ) (jobs : List Job) (ends : List JobEnd) (h : Worked jobs ends) →
      All (λ (seats : Seats). least ≤ seats.loss.seen) (map end_seats ends) →
      AllByRecursion (λ (w : Parts). least ≤ w.known) (workers_of jobs ends h)
  all-know least [] [] h seen = tt
  all-know least [] (end ∷ ends) h seen = absurd h
  all-know least (job ∷ jobs) [] h seen = absurd h
  all-know least (job ∷ jobs) (end ∷ ends) h seen =
      let here =
      All-head (λ (seats : Seats). least ≤ seats.loss.seen) (end_seats end) (map end_seats ends)
      seen in
      let rest =
      All-tail (λ (seats : Seats). least ≤ seats.loss.seen) (end_seats end) (map end_seats ends)
      seen in (omega (arith, here, h.0.known), all-know least jobs ends h.1 rest)

  pub pieces-left : (jobs : List Job) (ends : List JobEnd) (h : Worked jobs ends) →
      map (λ end. end.piece.entries) (work_left ends)
      ≡ map (λ (w : Parts). w.piece) (workers_of jobs ends h)
  pieces-left [] [] h = refl
  pieces-left [] (end ∷ ends) h = absurd h
  pieces-left (job ∷ jobs) [] h = absurd h
  pieces-left (job ∷ jobs) (end ∷ ends) h =
      ap₂ (λ (p : List Entry) (l : List (List Entry)). p ∷ l) h.0.left.piece
      (pieces-left jobs ends h.1)

  pub paths-left : (jobs : List Job) (ends : List JobEnd) (h : Worked jobs ends) →
      flat_map paths_left (work_left ends) ≡ flat_map unclosed_by (workers_of jobs ends h)
  paths-left [] [] h = refl
  paths-left [] (end ∷ ends) h = absurd h
  paths-left (job ∷ jobs) [] h = absurd h
  paths-left (job ∷ jobs) (end ∷ ends) h =
      let held = h.0.left.held in
      let waiting = h.0.left.waiting in
      let rest = paths-left jobs ends h.1 in
      λ i. (option_to_list (held i) ++ waiting i) ++ rest i

  pub bests-left : (start : Start) (jobs : List Job) (ends : List JobEnd) (h : Worked jobs ends) →
      best_left start (work_left ends) ≡ best_of start (workers_of jobs ends h)
  bests-left start [] [] h = refl
  bests-left start [] (end ∷ ends) h = absurd h
  bests-left start (job ∷ jobs) [] h = absurd h
  bests-left start (job ∷ jobs) (end ∷ ends) h =
      ap (λ b. best_left (better_of start b) (work_left ends)) h.0.left.best
      ∙ bests-left (better_of start h.0.parts.best) jobs ends h.1

  -- the paths of all workers
  pub all-paths : (x : List ℕ) (jobs : List Job) (ends : List JobEnd) (h : Worked jobs ends) →
      sum_of (own_count x) (workers_of jobs ends h) + all_pushed x (end_owners ends)
      ≡ all_pushed x (job_owners jobs)
      + sum_of (split_count (task_at ranked charges) x) (workers_of jobs ends h)
      + all_popped x (end_owners ends) + all_stolen x (end_thieves ends)
  all-paths x [] [] h = omega arith
  all-paths x [] (end ∷ ends) h = absurd h
  all-paths x (job ∷ jobs) [] h = absurd h
  all-paths x (job ∷ jobs) (end ∷ ends) h =
      omega (arith, h.0.has_done.paths x, all-paths x jobs ends h.1)

  -- and their tickets
  pub all-tickets : (jobs : List Job) (ends : List JobEnd) (h : Worked jobs ends) →
      sum_of tickets_of (workers_of jobs ends h)
      ≡ sum_of (tickets_below round.meter.nodes) (map end_seats ends)
  all-tickets [] [] h = refl
  all-tickets [] (end ∷ ends) h = absurd h
  all-tickets (job ∷ jobs) [] h = absurd h
  all-tickets (job ∷ jobs) (end ∷ ends) h =
      omega (arith, h.0.has_done.counted, all-tickets jobs ends h.1)

  -- the best plan loses no more than what some worker published
  pub published-kept : (start : Start) (loss number : ℕ) (jobs : List Job) (ends : List JobEnd)
      (h : Worked jobs ends) → number < length ends →
      ((d : Seats) → Contains (get_or (map end_seats ends) number d).loss.mine loss) →
      (best_of start (workers_of jobs ends h)).loss ≤ loss
  published-kept start loss number [] [] h l by = absurd (omega (arith, l))
  published-kept start loss number [] (end ∷ ends) h l by = absurd h
  published-kept start loss number (job ∷ jobs) [] h l by = absurd h
  published-kept start loss zero (job ∷ jobs) (end ∷ ends) h l by =
      let kept : LosesAtMost h.0.parts.best loss =
      All-contains (LosesAtMost h.0.parts.best) end.loss_seat.mine loss h.0.has_done.published
      (by (end_seats end)) in
      omega (
        arith,
        kept.at_most,
        best-at-most-kept start (h.0.parts ∷ workers_of jobs ends h.1) 0 kept.kept (omega arith)
            kept.is,
      )
  published-kept start loss (suc number) (job ∷ jobs) (end ∷ ends) h l by =
      published-kept (better_of start h.0.parts.best) loss number jobs ends h.1 (omega (arith, l))
      by

  -- The ends are those that the jobs began with.

  seats-kept : (jobs : List Job) (ends : List JobEnd) → Worked jobs ends →
      All (AreSeatsOf round.best round.meter) (map job_seats jobs) →
      All (AreSeatsOf round.best round.meter) (map end_seats ends)
  seats-kept [] [] h seats = seats
  seats-kept [] (end ∷ ends) h seats = absurd h
  seats-kept (job ∷ jobs) [] h seats = absurd h
  seats-kept (job ∷ jobs) (end ∷ ends) h seats =
      let was =
      All-head (AreSeatsOf round.best round.meter) (job_seats job) (map job_seats jobs) seats in
      let loss = h.0.ends.loss_seat in
      let ticket = h.0.ends.ticket_seat in
      All-cons (AreSeatsOf round.best round.meter) (end_seats end) (map end_seats ends)
      (record {
        loss = (loss.table ∙ was.loss.0, loss.start ∙ was.loss.1);
        loss_share = loss.shares ∙ was.loss_share;
        ticket = (ticket.table ∙ was.ticket.0, ticket.nodes ∙ was.ticket.1);
        ticket_share = ticket.shares ∙ was.ticket_share;
      })
      (seats-kept jobs ends h.1
      (All-tail (AreSeatsOf round.best round.meter) (job_seats job) (map job_seats jobs) seats))

  lent-kept : (n : ℕ) (jobs : List Job) (ends : List JobEnd) → Worked jobs ends →
      All (IsLent n) (job_owners jobs) → All (IsLent n) (end_owners ends)
  lent-kept n [] [] h lent = lent
  lent-kept n [] (end ∷ ends) h lent = absurd h
  lent-kept n (job ∷ jobs) [] h lent = absurd h
  lent-kept n (job ∷ jobs) (end ∷ ends) h lent =
      let was = All-head (IsLent n) job.own (job_owners jobs) lent in
      let own = h.0.ends.own in
      All-cons (IsLent n) end.own (end_owners ends)
      (record {
        all = own.all ∙ was.all;
        shares = own.shares ∙ was.shares;
        stolen = own.stolen ∙ was.stolen;
      }) (lent-kept n jobs ends h.1 (All-tail (IsLent n) job.own (job_owners jobs) lent))

  owner-homes : (jobs : List Job) (ends : List JobEnd) → Worked jobs ends →
      map home_of (end_owners ends) ≡ map home_of (job_owners jobs)
  owner-homes [] [] h = refl
  owner-homes [] (end ∷ ends) h = absurd h
  owner-homes (job ∷ jobs) [] h = absurd h
  owner-homes (job ∷ jobs) (end ∷ ends) h =
      let deque = h.0.ends.own.deque in
      let orders = h.0.ends.own.ranked in
      let rest = owner-homes jobs ends h.1 in
      λ i. (deque i, orders i) ∷ rest i

  thief-homes : (ts us : List DequeThief) → SameThieves ts us → homes_of us ≡ homes_of ts
  thief-homes [] [] h = refl
  thief-homes [] (u ∷ us) h = absurd h
  thief-homes (t ∷ ts) [] h = absurd h
  thief-homes (t ∷ ts) (u ∷ us) h =
      let deque = h.0.deque in
      let orders = h.0.ranked in
      let rest = thief-homes ts us h.1 in
      λ i. (deque i, orders i) ∷ rest i

  homes-at : (jobs : List Job) (ends : List JobEnd) → Worked jobs ends → (i : ℕ) →
      homes_of (thieves_of (end_thieves ends) i) ≡ homes_of (thieves_of (job_thieves jobs) i)
  homes-at [] [] h i = refl
  homes-at [] (end ∷ ends) h i = absurd h
  homes-at (job ∷ jobs) [] h i = absurd h
  homes-at (job ∷ jobs) (end ∷ ends) h zero =
      thief-homes job.thieves.items end.thieves.items h.0.ends.thieves
  homes-at (job ∷ jobs) (end ∷ ends) h (suc i) = homes-at jobs ends h.1 i

  -- so the round may end
  pub may-end : (workers loss nodes : ℕ) (paths : List (List ℕ)) (jobs : List Job)
      (ends : List JobEnd) → 1 ≤ workers → IsOpened workers loss nodes round →
      Begins ranked workers paths round jobs → Worked jobs ends → MayEnd round ends
  may-end workers loss nodes paths jobs ends some opened begins h =
      let long : length ends ≡ workers = as-many jobs ends h ∙ begins.count in record {
        some = omega (arith, some, long);
        seats = seats-kept jobs ends h begins.seats;
        loss_shares = opened.loss_shares ∙ sym long;
        ticket_shares = opened.ticket_shares ∙ sym long;
        lent = lent-kept (length ends) jobs ends h
            (subst (λ n. All (IsLent n) (job_owners jobs)) (sym long) begins.lent);
        thieves = λ i l.
            homes-at jobs ends h i
            ∙ begins.thieves i (omega (
              arith,
              l,
              length-map ends (λ (end : JobEnd). end.thieves.items),
              length-map jobs (λ (job : Job). job.thieves.items),
              long,
              begins.count,
            ))
            ∙ ap (all_but i) (sym (owner-homes jobs ends h));
      }

-- the owners' shares, where they are counted by the owners
pub lent-again : (ends : List JobEnd) (owns : List DequeOwner) → owns ≡ end_owners ends →
    All (IsLent (length ends)) (end_owners ends) → All (IsLent (length owns)) owns
lent-again ends owns e lent =
    subst (λ os. All (IsLent (length os)) os) (sym e)
    (subst (λ n. All (IsLent n) (end_owners ends))
    (sym (length-map ends (λ (end : JobEnd). end.own))) lent)
