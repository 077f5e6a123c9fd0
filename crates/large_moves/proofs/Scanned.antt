-- Scans, pair by pair.
use Rattle.std.proofs.Common.{ℕ, zero, suc, ◌+◌, ◌-◌, ◌*◌, ◌/◌, ◌<◌, ◌≤◌, ◌≡◌, Bool, true, false}
use Rattle.std.proofs.Common.{cond, ◌&&◌, List, [], ◌∷◌, ◌++◌, length, take, leb, refl, sym, ap}
use Rattle.std.proofs.Common.{◌∙◌, arith, inl, inr, subst, leb-true, leb-false, mul-le-mul_right}
use Rattle.std.specs.List.{list_all}
use Rattle.list_laws.specs.Sets.{holds}
use Rattle.mill_model.specs.Pairs.{closed_pair, pair_loss, pair_orders, pair_at, pairs_with}
use Rattle.mill_model.specs.Pairs.{pairs_below, pairs_of, first_closed, all_closed, sure_tries}
use Rattle.list_laws.proofs.Tests.{and-left, and-right, either, last-or-below}
use Rattle.pair_split.proofs.CheapestSplit.{splits-from}
use Rattle.large_moves.specs.Laid.{Laid, laid_loss}
use Rattle.large_moves.specs.Scans.{is_pair, AreClosed, IsSpent, ClosesPairs, tries_left}
use Rattle.large_moves.specs.declared.closed.Closed.TheVariants.{Yes, Spent}

abbrev Pairs : Type 0
Pairs = List (ℕ × ℕ)

assoc : (xs ys zs : Pairs) → (xs ++ ys) ++ zs ≡ xs ++ (ys ++ zs)
assoc [] ys zs = refl
assoc (x ∷ xs) ys zs = ap (λ l. x ∷ l) (assoc xs ys zs)

pub length-append : (xs ys : Pairs) → length (xs ++ ys) ≡ length xs + length ys
length-append [] ys = omega arith
length-append (x ∷ xs) ys =
    let ih : length (xs ++ ys) ≡ length xs + length ys = length-append xs ys in omega (arith, ih)

all-append : (p : ℕ × ℕ → Bool) (xs ys : Pairs) → list_all p xs ≡ true → list_all p ys ≡ true →
    list_all p (xs ++ ys) ≡ true
all-append p [] ys a b = b
all-append p (x ∷ xs) ys a b =
    let h = and-left (p x) (list_all p xs) a in
    rw h (all-append p xs ys (and-right (p x) (list_all p xs) a) b)

all-left : (p : ℕ × ℕ → Bool) (xs ys : Pairs) → list_all p (xs ++ ys) ≡ true →
    list_all p xs ≡ true
all-left p [] ys h = refl
all-left p (x ∷ xs) ys h =
    let here = and-left (p x) (list_all p (xs ++ ys)) h in
    rw here (all-left p xs ys (and-right (p x) (list_all p (xs ++ ys)) h))

all-right : (p : ℕ × ℕ → Bool) (xs ys : Pairs) → list_all p (xs ++ ys) ≡ true →
    list_all p ys ≡ true
all-right p [] ys h = h
all-right p (x ∷ xs) ys h = all-right p xs ys (and-right (p x) (list_all p (xs ++ ys)) h)

all-take : (p : ℕ × ℕ → Bool) (r : ℕ) (xs ys : Pairs) → list_all p xs ≡ true → r ≤ length xs →
    list_all p (take r (xs ++ ys)) ≡ true
all-take p zero xs ys h l = refl
all-take p (suc r) [] ys h l = absurd (omega arith)
all-take p (suc r) (x ∷ xs) ys h l =
    let a = and-left (p x) (list_all p xs) h in
    rw a (all-take p r xs ys (and-right (p x) (list_all p xs) h) (omega (arith, l)))

pub all-take-any : (p : ℕ × ℕ → Bool) (r : ℕ) (xs : Pairs) → list_all p xs ≡ true →
    list_all p (take r xs) ≡ true
all-take-any p zero xs h = refl
all-take-any p (suc r) [] h = refl
all-take-any p (suc r) (x ∷ xs) h =
    let a = and-left (p x) (list_all p xs) h in
    rw a (all-take-any p r xs (and-right (p x) (list_all p xs) h))

pub with-prefix : (plan : List ℕ) (a n b : ℕ) → b ≤ n →
    (rest : List (ℕ × ℕ)) × (pairs_with plan a n ≡ pairs_with plan a b ++ rest)
with-prefix plan a zero zero h = ([], refl)
with-prefix plan a zero (suc b) h = absurd (omega arith)
with-prefix plan a (suc n) b h = elim (either (leb b n)) [
  | inl l ↦ (let r = with-prefix plan a n b (leb-true _ _ l) in
      let more = assoc (pairs_with plan a b) r.0 (pair_at plan a n) in
      (r.0 ++ pair_at plan a n, ap (λ l. l ++ pair_at plan a n) r.1 ∙ more))
  | inr l ↦ (let f : n < b = leb-false _ _ l in
      let e : b ≡ suc n = omega (arith, f, h) in
      subst
      (λ b. (rest : List (ℕ × ℕ)) × (pairs_with plan a (suc n) ≡ pairs_with plan a b ++ rest))
      (sym e) ([], sym (append-none (pairs_with plan a (suc n)))))
]
  where
    append-none : (xs : Pairs) → xs ++ [] ≡ xs
    append-none [] = refl
    append-none (x ∷ xs) = ap (λ l. x ∷ l) (append-none xs)

pub below-prefix : (plan : List ℕ) (m n b : ℕ) → b ≤ n →
    (rest : List (ℕ × ℕ)) × (pairs_below plan m n ≡ pairs_below plan m b ++ rest)
below-prefix plan m zero zero h = ([], refl)
below-prefix plan m zero (suc b) h = absurd (omega arith)
below-prefix plan m (suc n) b h = elim (either (leb b n)) [
  | inl l ↦ (let r = below-prefix plan m n b (leb-true _ _ l) in
      let more = assoc (pairs_below plan m b) r.0 (pairs_with plan n m) in
      (r.0 ++ pairs_with plan n m, ap (λ l. l ++ pairs_with plan n m) r.1 ∙ more))
  | inr l ↦ (let f : n < b = leb-false _ _ l in
      let e : b ≡ suc n = omega (arith, f, h) in
      subst
      (λ b. (rest : List (ℕ × ℕ)) × (pairs_below plan m (suc n) ≡ pairs_below plan m b ++ rest))
      (sym e) ([], sym (append-none (pairs_below plan m (suc n)))))
]
  where
    append-none : (xs : Pairs) → xs ++ [] ≡ xs
    append-none [] = refl
    append-none (x ∷ xs) = ap (λ l. x ∷ l) (append-none xs)

-- a slab that is not used has no pairs, and no slab has one with a lower slab
pub unused-row : (plan : List ℕ) (a n : ℕ) → holds a plan ≡ false → pairs_with plan a n ≡ []
unused-row plan a zero h = refl
unused-row plan a (suc n) h = elim (either (leb a n)) [
  | inl e ↦ rw (unused-row plan a n h, e, h) refl
  | inr e ↦ rw (unused-row plan a n h, e) refl
]

pub low-row : (plan : List ℕ) (a n : ℕ) → n ≤ a → pairs_with plan a n ≡ []
low-row plan a zero h = refl
low-row plan a (suc n) h = elim (either (leb a n)) [
  | inl e ↦ (let l : a ≤ n = leb-true _ _ e in absurd (omega (arith, l, h)))
  | inr e ↦ rw (low-row plan a n (omega (arith, h)), e) refl
]

module _ (charge : ℕ → ℕ) (laid : Laid) where
  -- more pairs before and after those where the tries were spent
  pub spent-between : (all xs ys zs : List (ℕ × ℕ)) (before middle : ℕ) → all ≡ (xs ++ ys) ++ zs →
      AreClosed charge laid xs → before ≤ middle + length xs → IsSpent charge laid ys middle →
      IsSpent charge laid all before
  spent-between all xs ys zs before middle e h t s =
      let l : length (xs ++ s.front) ≡ length xs + length s.front = length-append xs s.front in
      let m : length (s.rest ++ zs) ≡ length s.rest + length zs = length-append s.rest zs in
      record {
        front = xs ++ s.front;
        rest = s.rest ++ zs;
        is =
            e
            ∙ ap (λ y. (xs ++ y) ++ zs) s.is
            ∙ ap (λ l. l ++ zs) (sym (assoc xs s.front s.rest))
            ∙ assoc (xs ++ s.front) s.rest zs;
        closed =
            all-append (λ p. closed_pair laid.mill charge laid.orders laid.plan p.0 p.1) xs s.front
            h s.closed;
        tries = omega (arith, t, s.tries, l);
        more = omega (arith, s.more, m);
      }

  pub tries-between : (all xs ys zs : List (ℕ × ℕ)) (before middle after : ℕ) →
      all ≡ (xs ++ ys) ++ zs → before ≤ middle + length xs → middle ≤ after + length ys →
      before ≤ after + length all
  tries-between all xs ys zs before middle after e t u =
      let a : length all ≡ length ((xs ++ ys) ++ zs) = ap length e in
      let b : length ((xs ++ ys) ++ zs) ≡ length (xs ++ ys) + length zs =
      length-append (xs ++ ys) zs in
      let d : length (xs ++ ys) ≡ length xs + length ys = length-append xs ys in
      omega (arith, a, b, d, t, u)

  -- a pair without charge is closed
  pub free-closed : (a b : ℕ) → pair_loss charge laid.orders laid.plan a b ≡ 0 →
      closed_pair laid.mill charge laid.orders laid.plan a b ≡ true
  free-closed a b none = splits-from laid.mill charge (pair_loss charge laid.orders laid.plan a b)
      (pair_orders laid.orders laid.plan a b) (λ marks whole first second. omega (arith, none))

  pub pair-closed : (a b : ℕ) → closed_pair laid.mill charge laid.orders laid.plan a b ≡ true →
      AreClosed charge laid (pair_at laid.plan a b)
  pair-closed a b h = go (leb a b && (holds a laid.plan && holds b laid.plan))
    where
      go : (c : Bool) →
          all_closed laid.mill charge laid.orders laid.plan (cond c ((a, b) ∷ []) []) ≡ true
      go true = rw h refl
      go false = refl

  -- a pair of a row that is closed
  pub closed-in-row : (a b n : ℕ) → AreClosed charge laid (pairs_with laid.plan a n) → b < n →
      is_pair laid.plan a b ≡ true → closed_pair laid.mill charge laid.orders laid.plan a b ≡ true
  closed-in-row a b zero closed within pair = absurd (omega arith)
  closed-in-row a b (suc n) closed within pair = elim (last-or-below b n within) [
    | inl e ↦ subst (λ k. closed_pair laid.mill charge laid.orders laid.plan a k ≡ true) (sym e)
        (only n (is_pair laid.plan a n) (subst (λ k. is_pair laid.plan a k ≡ true) e pair)
        (all-right (λ p. closed_pair laid.mill charge laid.orders laid.plan p.0 p.1)
        (pairs_with laid.plan a n) (pair_at laid.plan a n) closed))
    | inr l ↦ closed-in-row a b n (all-left (λ p. closed_pair laid.mill charge laid.orders
        laid.plan p.0 p.1) (pairs_with laid.plan a n) (pair_at laid.plan a n) closed) l pair
  ]
    where
      only : (k : ℕ) (pair : Bool) → pair ≡ true →
          all_closed laid.mill charge laid.orders laid.plan (cond pair ((a, k) ∷ []) []) ≡ true →
          closed_pair laid.mill charge laid.orders laid.plan a k ≡ true
      only k true is h = and-left (closed_pair laid.mill charge laid.orders laid.plan a k) true h
      only k false is h = absurd (cc)

  -- the first pairs are closed
  pub first-of-all : (r : ℕ) →
      all_closed laid.mill charge laid.orders laid.plan (pairs_of laid.plan) ≡ true →
      first_closed laid.mill charge laid.orders laid.plan r ≡ true
  first-of-all r h =
      all-take-any (λ p. closed_pair laid.mill charge laid.orders laid.plan p.0 p.1) r
      (pairs_of laid.plan) h

  pub first-of-spent : (r left : ℕ) → IsSpent charge laid (pairs_of laid.plan) left → r ≤ left →
      (first_closed laid.mill charge laid.orders laid.plan r ≡ true)
      × (r < length (pairs_of laid.plan))
  first-of-spent r left s h =
      let e : length (pairs_of laid.plan) ≡ length (s.front ++ s.rest) = ap length s.is in
      let l : length (s.front ++ s.rest) ≡ length s.front + length s.rest =
      length-append s.front s.rest in (
        subst (λ pairs. list_all (λ p. closed_pair laid.mill charge laid.orders laid.plan p.0 p.1)
            (take r pairs) ≡ true) (sym s.is)
            (all-take (λ p. closed_pair laid.mill charge laid.orders laid.plan p.0 p.1) r s.front
            s.rest s.closed (omega (arith, s.tries, h))),
        omega (arith, e, l, s.tries, s.more, h),
      )

  -- a pair more, and a row more
  pub row-more : (a b before middle after : ℕ) →
      AreClosed charge laid (pairs_with laid.plan a b) →
      before ≤ middle + length (pairs_with laid.plan a b) →
      AreClosed charge laid (pair_at laid.plan a b) →
      middle ≤ after + length (pair_at laid.plan a b) →
      AreClosed charge laid (pairs_with laid.plan a (b + 1))
      × (before ≤ after + length (pairs_with laid.plan a (b + 1)))
  row-more a b before middle after closed tries here more =
      let e : suc b ≡ b + 1 = omega arith in
      let sum = length-append (pairs_with laid.plan a b) (pair_at laid.plan a b) in
      subst (λ n. AreClosed charge laid (pairs_with laid.plan a n)
      × (before ≤ after + length (pairs_with laid.plan a n))) e (
        all-append (λ p. closed_pair laid.mill charge laid.orders laid.plan p.0 p.1)
            (pairs_with laid.plan a b) (pair_at laid.plan a b) closed here,
        omega (arith, sum, tries, more),
      )

  pub plan-more : (a before middle after : ℕ) →
      AreClosed charge laid (pairs_below laid.plan (length laid.plan) a) →
      before ≤ middle + length (pairs_below laid.plan (length laid.plan) a) →
      AreClosed charge laid (pairs_with laid.plan a (length laid.plan)) →
      middle ≤ after + length (pairs_with laid.plan a (length laid.plan)) →
      AreClosed charge laid (pairs_below laid.plan (length laid.plan) (a + 1))
      × (before ≤ after + length (pairs_below laid.plan (length laid.plan) (a + 1)))
  plan-more a before middle after closed tries here more =
      let e : suc a ≡ a + 1 = omega arith in
      let sum = length-append (pairs_below laid.plan (length laid.plan) a)
      (pairs_with laid.plan a (length laid.plan)) in
      subst (λ n. AreClosed charge laid (pairs_below laid.plan (length laid.plan) n)
      × (before ≤ after + length (pairs_below laid.plan (length laid.plan) n))) e (
        all-append (λ p. closed_pair laid.mill charge laid.orders laid.plan p.0 p.1)
            (pairs_below laid.plan (length laid.plan) a)
            (pairs_with laid.plan a (length laid.plan)) closed here,
        omega (arith, sum, tries, more),
      )

-- how many pairs there are
abbrev pub triangle : ℕ → ℕ
triangle zero = 0
triangle (suc n) = triangle n + suc n

with-few : (plan : List ℕ) (a b : ℕ) → length (pairs_with plan a b) ≤ b - a
with-few plan a zero = omega arith
with-few plan a (suc b) =
    let ih : length (pairs_with plan a b) ≤ b - a = with-few plan a b in
    let l : length (pairs_with plan a b ++ pair_at plan a b)
    ≡ length (pairs_with plan a b) + length (pair_at plan a b) =
    length-append (pairs_with plan a b) (pair_at plan a b) in
    elim (either (leb a b)) [
      | inl h ↦ (let k : a ≤ b = leb-true _ _ h in
          let m : length (pair_at plan a b) ≤ 1 =
          one (leb a b && (holds a plan && holds b plan)) in
          omega (arith, ih, l, k, m))
      | inr h ↦ (let m : length (pair_at plan a b) ≡ 0 = rw h refl in omega (arith, ih, l, m))
    ]
  where
    one : (c : Bool) → length {A = ℕ × ℕ} (cond c ((a, b) ∷ []) []) ≤ 1
    one true = omega arith
    one false = omega arith

below-few : (plan : List ℕ) (n a : ℕ) → a ≤ n →
    length (pairs_below plan n a) + triangle (n - a) ≤ triangle n
below-few plan n zero h =
    let e : n - 0 ≡ n = omega arith in
    let t : triangle (n - 0) ≡ triangle n = ap triangle e in
    omega (arith, t)
below-few plan n (suc a) h =
    let ih : length (pairs_below plan n a) + triangle (n - a) ≤ triangle n =
    below-few plan n a (omega (arith, h)) in
    let e : n - a ≡ suc (n - suc a) = omega (arith, h) in
    let t : triangle (n - a) ≡ triangle (n - suc a) + suc (n - suc a) = ap triangle e in
    let l : length (pairs_below plan n a ++ pairs_with plan a n)
    ≡ length (pairs_below plan n a) + length (pairs_with plan a n) =
    length-append (pairs_below plan n a) (pairs_with plan a n) in
    let w : length (pairs_with plan a n) ≤ n - a = with-few plan a n in
    omega (arith, ih, e, t, l, w)

pub pairs-few : (plan : List ℕ) → length (pairs_of plan) ≤ triangle (length plan)
pairs-few plan =
    let h : length (pairs_below plan (length plan) (length plan))
    + triangle (length plan - length plan) ≤ triangle (length plan) =
    below-few plan (length plan) (length plan) (omega arith) in
    omega (arith, h)

two-triangle : (n : ℕ) → n * suc n ≡ 2 * triangle n
two-triangle zero = omega arith
two-triangle (suc n) =
    let ih : n * suc n ≡ 2 * triangle n = two-triangle n in
    let e : suc n * suc (suc n) ≡ n * suc n + 2 * suc n = grind arith in
    omega (arith, ih, e)

pub half-is : (gain n : ℕ) → gain * n * suc n / 2 ≡ gain * triangle n
half-is gain n =
    let e : n * suc n ≡ 2 * triangle n = two-triangle n in
    let a : gain * n * suc n ≡ gain * (n * suc n) = grind arith in
    let b : gain * (n * suc n) ≡ gain * (2 * triangle n) = ap (λ x. gain * x) e in
    let d : gain * (2 * triangle n) ≡ 2 * (gain * triangle n) = grind arith in
    omega (arith, a, b, d)

pub sure-is : (moves gain n : ℕ) → sure_tries moves gain n ≡ moves - gain * triangle n
sure-is moves gain n = ap (λ x. moves - x) (half-is gain n)

-- one try more of a plan that loses less
pub tries-more : (moves left now start old new n pairs : ℕ) →
    moves ≤ left + (start - old) * triangle n → left ≤ now + pairs → pairs ≤ triangle n →
    new < old → old ≤ start → moves ≤ now + (start - new) * triangle n
tries-more moves left now start old new n pairs a b c l h =
    let x : start - old + 1 ≤ start - new = omega (arith, l, h) in
    let y : (start - old + 1) * triangle n ≤ (start - new) * triangle n =
    mul-le-mul_right (triangle n) x in
    let z : (start - old + 1) * triangle n ≡ (start - old) * triangle n + triangle n =
    grind arith in
    omega (arith, a, b, c, y, z)

-- the tries that are sure are left
sure-left : (moves left start now n : ℕ) → moves ≤ left + (start - now) * triangle n →
    sure_tries moves (start - now) n ≤ left
sure-left moves left start now n h =
    let e = sure-is moves (start - now) n in omega (arith, h, e)

-- how a run of scans ends
module _ (charge : ℕ → ℕ) (old new : Laid) (moves : ℕ)
    (no_more : laid_loss charge new ≤ laid_loss charge old)
    (kept : laid_loss charge new ≡ laid_loss charge old → new ≡ old) where
  pub all-closed : AreClosed charge new (pairs_of new.plan) →
      ClosesPairs charge old new moves Yes
  all-closed closed = record {
    no_more = no_more;
    kept = kept;
    first = first-of-all charge new (tries_left charge old new moves) closed;
    all = λ e. closed;
    spent = λ e. absurd (yes-spent e);
  }
    where
      yes-spent : Yes ≡ Spent → ⊥
      yes-spent e = absurd (cc)

  pub closed-spent : (left : ℕ) → moves ≤ left
      + (laid_loss charge old - laid_loss charge new) * triangle (length new.orders) →
      IsSpent charge new (pairs_of new.plan) left → ClosesPairs charge old new moves Spent
  closed-spent left tries spent =
      let first = first-of-spent charge new (tries_left charge old new moves) left spent
      (sure-left moves left (laid_loss charge old) (laid_loss charge new)
      (length new.orders) tries) in
      record {
        no_more = no_more;
        kept = kept;
        first = first.0;
        all = λ e. absurd (spent-yes e);
        spent = λ e. first.1;
      }
    where
      spent-yes : Spent ≡ Yes → ⊥
      spent-yes e = absurd (cc)
