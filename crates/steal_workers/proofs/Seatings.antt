-- What the seats of all workers know together.
use Rattle.std.proofs.Common.{◌≡◌, ℕ, zero, suc, ◌≤◌, ◌+◌, ◌⊎◌, List, [], ◌∷◌, ◌++◌}
use Rattle.std.proofs.Common.{min, refl, sym, ◌∙◌, subst, arith, All, Contains}
use Rattle.std.proofs.Common.{count_by}
use Rattle.std.proofs.Common.{cond, inl, inr, Some, nat_eq, nat_lt}
use Rattle.std.proofs.lemmas.Bool.Decides.{nat_tests}
use Rattle.std.proofs.lemmas.List.Elements.{All-cons, All-nil, All-pop, All-weaker}
use Rattle.std.proofs.lemmas.List.Elements.{Contains-append_cases}
use Rattle.std.proofs.lemmas.List.Sums.{sum_by-append, sum_by-cons}
use Rattle.shared_words.specs.Best.{LeastLoss}
use Rattle.shared_words.specs.Meter.{AreNumbersBelow, TicketMeter}
use Rattle.steal_workers.specs.Seats.{AreJoined, AreSeatsOf, IsPublished, both_seats}
use Rattle.steal_workers.specs.Words.{IsClosed}
use Rattle.steal_workers.specs.declared.seats.Seats.{Seats}

-- published by a later one
later : (seats : Seats) (all : List Seats) (loss : ℕ) → IsPublished all loss →
    IsPublished (seats ∷ all) loss
later seats all loss p =
    record { number = suc p.number; there = omega (arith, p.there); by = λ d. p.by d }

pub joins-one : (best : LeastLoss) (meter : TicketMeter) (seats : Seats) →
    AreSeatsOf best meter seats → AreJoined best meter (seats ∷ []) seats
joins-one best meter seats is = record {
  loss = is.loss;
  loss_shares = is.loss_share;
  ticket = is.ticket;
  ticket_shares = is.ticket_share;
  seen = All-cons (λ (s : Seats). seats.loss.seen ≤ s.loss.seen) seats [] (omega arith)
      (All-nil (λ (s : Seats). seats.loss.seen ≤ s.loss.seen));
  published = λ loss has. record { number = 0; there = omega arith; by = λ d. has };
  tickets = λ test. omega arith;
}

pub joins-more : (best : LeastLoss) (meter : TicketMeter) (other : Seats) (all : List Seats)
    (whole whole' : Seats) → AreSeatsOf best meter other → AreJoined best meter all whole →
    whole' ≡ both_seats whole other → AreJoined best meter (other ∷ all) whole'
joins-more best meter other all whole whole' is joined e =
    subst (AreJoined best meter (other ∷ all)) (sym e)
    (record {
      loss = joined.loss;
      loss_shares = omega (arith, joined.loss_shares, is.loss_share);
      ticket = joined.ticket;
      ticket_shares = omega (arith, joined.ticket_shares, is.ticket_share);
      seen = All-cons (λ (s : Seats). min whole.loss.seen other.loss.seen ≤ s.loss.seen) other all
          (omega arith)
          (All-weaker (λ (s : Seats). whole.loss.seen ≤ s.loss.seen)
          (λ (s : Seats). min whole.loss.seen other.loss.seen ≤ s.loss.seen)
          (λ s l. omega (arith, l)) all joined.seen);
      published = λ loss has.
          elim (Contains-append_cases whole.loss.mine other.loss.mine loss has) [
            | inl before ↦ later other all loss (joined.published loss before)
            | inr here ↦ record { number = 0; there = omega arith; by = λ d. here }
          ];
      tickets = λ test. omega (
        arith,
        joined.tickets test,
        sum_by-append (λ n. cond (test n) 1 0) whole.ticket.tickets other.ticket.tickets,
      );
    })

-- the last of the seats comes first, and then one after another before it
pub starts-joined : (best : LeastLoss) (meter : TicketMeter) (all rest : List Seats)
    (last : Seats) → all ≡ rest ++ last ∷ [] → All (AreSeatsOf best meter) all →
    All (AreSeatsOf best meter) rest × AreSeatsOf best meter last
starts-joined best meter all rest last is each =
    All-pop (AreSeatsOf best meter) all rest (Some last) is each

-- Of the numbers below t, each once, as many are below a budget as the lesser of both.

none-below : (numbers : List ℕ) → count_by (λ x. nat_lt x 0) numbers ≡ 0
none-below [] = refl
none-below (x ∷ xs) =
    let one : ◌≡◌ {A = ℕ} (cond (nat_lt x 0) 1 0) 0 = grind (arith, nat_tests) in
    omega (arith, sum_by-cons (λ y. cond (nat_lt y 0) 1 0) x xs, none-below xs, one)

one-more-below : (n : ℕ) (numbers : List ℕ) →
    count_by (λ x. nat_lt x (suc n)) numbers
    ≡ count_by (λ x. nat_lt x n) numbers + count_by (nat_eq n) numbers
one-more-below n [] = refl
one-more-below n (x ∷ xs) =
    let one : ◌≡◌ {A = ℕ} (cond (nat_lt x (suc n)) 1 0)
    (cond (nat_lt x n) 1 0 + cond (nat_eq n x) 1 0) =
    grind (arith, nat_tests) in
    omega (
      arith,
      sum_by-cons (λ y. cond (nat_lt y (suc n)) 1 0) x xs,
      sum_by-cons (λ y. cond (nat_lt y n) 1 0) x xs,
      sum_by-cons (λ y. cond (nat_eq n y) 1 0) x xs,
      one-more-below n xs,
      one,
    )

count-below : (t : ℕ) (numbers : List ℕ) → AreNumbersBelow t numbers → (nodes : ℕ) →
    count_by (λ x. nat_lt x nodes) numbers ≡ min t nodes
count-below t numbers are zero = omega (arith, none-below numbers)
count-below t numbers are (suc n) =
    let once = are n in
    let last : ◌≡◌ {A = ℕ} (min t n + cond (nat_lt n t) 1 0) (min t (suc n)) =
    grind (arith, nat_tests) in
    omega (arith, one-more-below n numbers, count-below t numbers are n, once, last)

-- the words end
pub closes : (start nodes : ℕ) (best : LeastLoss) (meter : TicketMeter) (all : List Seats)
    (whole : Seats) (least drawn : ℕ) → AreJoined best meter all whole →
    (least ≡ start) ⊎ Contains whole.loss.mine least → least ≤ whole.loss.seen →
    AreNumbersBelow drawn whole.ticket.tickets → IsClosed start nodes all drawn
closes start nodes best meter all whole least drawn joined from seen are = record {
  least = least;
  from = elim from [ inl e ↦ inl e | inr has ↦ inr (joined.published least has) ];
  seen = All-weaker (λ (s : Seats). whole.loss.seen ≤ s.loss.seen)
      (λ (s : Seats). least ≤ s.loss.seen) (λ s l. omega (arith, l, seen)) all joined.seen;
  tickets = sym (joined.tickets (λ ticket. nat_lt ticket nodes))
      ∙ count-below drawn whole.ticket.tickets are nodes;
}
