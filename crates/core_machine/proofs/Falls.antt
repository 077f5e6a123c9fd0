-- A round in which not every event answers Stopped lowers the measure: were every event idle and
-- none nearer, then either all is over and each answers Stopped, or each deque is empty and no
-- worker busy, and all is over after all.
use Rattle.std.proofs.Common.{ℕ, zero, suc, ◌+◌, ◌*◌, ◌-◌, ◌<◌, ◌≤◌, ◌≡◌, ◌≢◌, ◌⊎◌, inl, inr}
use Rattle.std.proofs.Common.{Bool, true, false, not, ◌&&◌, ◌||◌, eqb, List, [], ◌∷◌, length, set}
use Rattle.std.proofs.Common.{get_or, refl, sym, ap, ◌∙◌, subst, arith, length-set, eqb-true}
use Rattle.std.proofs.Common.{eq-eqb, get_or-set_same, get_or-set_other, mul-le-mul_right}
use Rattle.std.specs.List.{list_all}
use Rattle.list_laws.specs.Sets.{total}
use Rattle.list_laws.proofs.Sums.{total-cong}
use Rattle.list_laws.proofs.Tests.{either, clash, last-or-below}
use Rattle.mill_model.specs.Charges.{ChargeTable}
use Rattle.order_symmetry.specs.Ranked.{RankedOrders, IsRanked}
use Rattle.search_step.specs.Parts.{Parts}
use Rattle.search_step.specs.declared.parts.Phase.{Phase}
use Rattle.core_machine.proofs.Lists.{sum-set}
use Rattle.core_machine.proofs.Runs.{event-count, round-count, round-keeps}
use Rattle.core_machine.proofs.Steady.{steady-event}
use Rattle.core_machine.proofs.Work.{IsIdle, LowersOrIdles, event-lowers-or-idles}
use Rattle.core_machine.specs.Core.{Core, Shared, any_busy, deque, event, is_busy, is_empty}
use Rattle.core_machine.specs.Core.{is_stopped, no_worker, round, step, whole_round, worker}
use Rattle.core_machine.specs.Counts.{sum_of}
use Rattle.core_machine.specs.Ends.{distance, far_from, is_over, left_to_do, measure}
use Rattle.core_machine.specs.Ends.{weight}
use Rattle.core_machine.specs.Steady.{IsSteady}

at-most-three : (over empty : Bool) (phase : Phase) → distance over empty phase ≤ 3
at-most-three over empty phase = grind arith

total-three : (n : ℕ) (f : ℕ → ℕ) → ((j : ℕ) → f j ≤ 3) → total n f ≤ 3 * n
total-three zero f h = omega arith
total-three (suc n) f h = omega (arith, total-three n f h, h n)

-- totals of functions that differ at one number
total-at : (n i : ℕ) (f g : ℕ → ℕ) → i < n → ((j : ℕ) → j ≢ i → f j ≡ g j) →
    total n f + g i ≡ total n g + f i
total-at zero i f g l h = absurd (omega arith)
total-at (suc n) i f g l h = go (last-or-below i n l) (λ k. total-at n i f g k h)
  where
    go : (i ≡ n) ⊎ (i < n) → (i < n → total n f + g i ≡ total n g + f i) →
        total n f + f n + g i ≡ total n g + g n + f i
    go (inl e) ih =
        let a : total n f ≡ total n g =
        total-cong n f g (λ s k. h s (λ q. absurd (omega (arith, k, q, e)))) in
        let b : f i ≡ f n = ap f e in
        let c : g i ≡ g n = ap g e in
        omega arith
    go (inr k) ih =
        let a = ih k in
        let b : f n ≡ g n = h n (λ q. absurd (omega (arith, k, q))) in
        omega (arith, a, b)

any-set : (ws : List Parts) (i : ℕ) (w : Parts) → is_busy w ≡ is_busy (get_or ws i no_worker) →
    any_busy (set ws i w) ≡ any_busy ws
any-set [] i w e = refl
any-set (v ∷ ws) zero w e = ap (λ b. b || any_busy ws) e
any-set (v ∷ ws) (suc i) w e = ap (λ b. is_busy v || b) (any-set ws i w e)

all-empty : (ds : List (List (List ℕ))) →
    ((j : ℕ) → j < length ds → is_empty (get_or ds j []) ≡ true) → list_all is_empty ds ≡ true
all-empty [] h = refl
all-empty (d ∷ ds) h =
    rw (h 0 (omega arith)) (all-empty ds (λ j l. h (suc j) (omega arith)))

none-busy : (ws : List Parts) →
    ((j : ℕ) → j < length ws → is_busy (get_or ws j no_worker) ≡ false) → any_busy ws ≡ false
none-busy [] h = refl
none-busy (w ∷ ws) h =
    ap (λ b. b || any_busy ws) (h 0 (omega arith))
    ∙ none-busy ws (λ j l. h (suc j) (omega arith))

module _ (ranked : RankedOrders) (charges : ChargeTable) (budget : ℕ) where
  abbrev n : ℕ
  n = length ranked.placed

  abbrev M : Core → ℕ
  M c = measure n budget c

  abbrev next : Core → ℕ → Core
  next c i = (event ranked charges budget c i).0

  falls : (c d : Core) → length d.workers ≡ length c.workers →
      left_to_do n budget d < left_to_do n budget c → M d < M c
  falls c d e l =
      let k : ℕ = 3 * length c.workers + 1 in
      let a : suc (left_to_do n budget d) * (3 * length c.workers + 1)
      ≤ left_to_do n budget c * (3 * length c.workers + 1) =
      mul-le-mul_right (3 * length c.workers + 1) l in
      let b : total (length d.workers) (far_from d) ≤ 3 * length d.workers =
      total-three (length d.workers) (far_from d) (λ j. at-most-three _ _ _) in
      let s : suc (left_to_do n budget d) * (3 * length c.workers + 1)
      ≡ left_to_do n budget d * (3 * length c.workers + 1) + (3 * length c.workers + 1) =
      omega arith in
      let q : left_to_do n budget d * (3 * length d.workers + 1)
      ≡ left_to_do n budget d * (3 * length c.workers + 1) =
      ap (λ k. left_to_do n budget d * (3 * k + 1)) e in
      omega arith

  -- what an idle event leaves as it is
  record IsLazy (c : Core) (i : ℕ) : Type 0 where
    measured : M (next c i) ≡ M c
    shared : (next c i).shared ≡ c.shared
    over : is_over (next c i) ≡ is_over c
    busy : (j : ℕ) → is_busy (worker (next c i) j) ≡ is_busy (worker c j)
    stops : is_over c ≡ true → is_stopped (event ranked charges budget c i).1 ≡ true
    empty :
        is_over c ≡ false →
        (is_empty (deque c.shared i) ≡ true) × (is_busy (worker c i) ≡ false)

  module _ (c : Core) (i : ℕ) (l : i < length c.workers)
      (idle : IsIdle ranked charges budget c i (step ranked charges budget c i)) where
    abbrev w' : Parts
    w' = (step ranked charges budget c i).1.0

    at-i : worker (next c i) i ≡ w'
    at-i = get_or-set_same c.workers i w' no_worker l

    at-other : (j : ℕ) → j ≢ i → worker (next c i) j ≡ worker c j
    at-other j k = get_or-set_other c.workers i j w' no_worker k

    same-count : length (next c i).workers ≡ length c.workers
    same-count = length-set c.workers i w'

    same-over : is_over (next c i) ≡ is_over c
    same-over =
        ap (λ (s : Shared).
        s.halted || (list_all is_empty s.deques && not (any_busy (next c i).workers))) idle.shared
        ∙ ap (λ b. c.shared.halted || (list_all is_empty c.shared.deques && not b))
        (any-set c.workers i w' idle.busy)

    same-left : left_to_do n budget (next c i) ≡ left_to_do n budget c
    same-left =
        let a : sum_of (weight n) (set c.workers i w') + weight n (worker c i)
        ≡ sum_of (weight n) c.workers + weight n w' =
        sum-set (weight n) c.workers i w' no_worker l in
        let b : weight n w' ≡ weight n (worker c i) = idle.same in
        let s : (n + 5) * (budget - (next c i).shared.drawn)
        ≡ (n + 5) * (budget - c.shared.drawn) =
        ap (λ (v : Shared). (n + 5) * (budget - v.drawn)) idle.shared in
        omega arith

    far-at : (j : ℕ) → far_from (next c i) j
        ≡ distance (is_over c) (is_empty (deque c.shared j)) (worker (next c i) j).phase
    far-at j =
        ap (λ o. distance o (is_empty (deque (next c i).shared j)) (worker (next c i) j).phase)
        same-over
        ∙ ap (λ (s : Shared).
        distance (is_over c) (is_empty (deque s j)) (worker (next c i) j).phase) idle.shared

    far-other : (j : ℕ) → j ≢ i → far_from (next c i) j ≡ far_from c j
    far-other j k =
        far-at j ∙ ap (λ (v : Parts). distance (is_over c) (is_empty (deque c.shared j)) v.phase)
        (at-other j k)

    far-i : far_from (next c i) i ≡ distance (is_over c) (is_empty (deque c.shared i)) w'.phase
    far-i =
        far-at i ∙ ap (λ (v : Parts). distance (is_over c) (is_empty (deque c.shared i)) v.phase)
        at-i

    all-far : total (length (next c i).workers) (far_from (next c i)) + far_from c i
        ≡ total (length c.workers) (far_from c) + far_from (next c i) i
    all-far =
        ap (λ k. total k (far_from (next c i)) + far_from c i) same-count
        ∙ total-at (length c.workers) i (far_from (next c i)) (far_from c) l far-other

    same-first : left_to_do n budget (next c i) * (3 * length (next c i).workers + 1)
        ≡ left_to_do n budget c * (3 * length c.workers + 1)
    same-first =
        ap (λ k. left_to_do n budget (next c i) * (3 * k + 1)) same-count
        ∙ ap (λ t. t * (3 * length c.workers + 1)) same-left

    same-busy : (j : ℕ) → is_busy (worker (next c i) j) ≡ is_busy (worker c j)
    same-busy j = elim (either (eqb j i)) [
      | inl t ↦ (let q : j ≡ i = eqb-true j i t in
          ap (λ k. is_busy (worker (next c i) k)) q ∙ ap is_busy at-i ∙ idle.busy
          ∙ ap (λ k. is_busy (worker c k)) (sym q))
      | inr f ↦ ap is_busy (at-other j (λ q. clash (eqb j i) (eq-eqb j i q) f))
    ]

    idle-lowers : (M (next c i) < M c) ⊎ IsLazy c i
    idle-lowers = elim idle.nearer [
      | inl s ↦ inl (let f = far-i in let a = all-far in let b = same-first in omega (arith, s))
      | inr s ↦ inr (record {
        measured = (let f = far-i in let a = all-far in let b = same-first in
            let g = s.0 in omega arith);
        shared = idle.shared;
        over = same-over;
        busy = same-busy;
        stops = s.1;
        empty = s.2;
      })
    ]

  event-lowers : (c : Core) (i : ℕ) → i < length c.workers →
      LowersOrIdles ranked charges budget c i (step ranked charges budget c i) →
      (M (next c i) < M c) ⊎ IsLazy c i
  event-lowers c i l (inl t) = inl (falls c (next c i) (event-count ranked charges budget c i) t)
  event-lowers c i l (inr idle) = idle-lowers c i l idle

  -- what idle events of the first k workers leave as it is
  record AllLazy (c : Core) (k : ℕ) (r : Core × Bool) : Type 0 where
    measured : M r.0 ≡ M c
    shared : r.0.shared ≡ c.shared
    over : is_over r.0 ≡ is_over c
    busy : (j : ℕ) → is_busy (worker r.0 j) ≡ is_busy (worker c j)
    stops : is_over c ≡ true → r.1 ≡ true
    empty :
        is_over c ≡ false → (j : ℕ) → j < k →
        (is_empty (deque c.shared j) ≡ true) × (is_busy (worker c j) ≡ false)

  module _ (ranks : IsRanked ranked) where
    event-falls : (c : Core) (i : ℕ) → i < length c.workers → IsSteady ranked charges budget c →
        (M (next c i) < M c) ⊎ IsLazy c i
    event-falls c i l steady =
        event-lowers c i l (event-lowers-or-idles ranked charges budget c i l (length c.workers)
        (steady.safe i l) (steady.ended i l))

    abbrev rounded : Core → ℕ → Core × Bool
    rounded c k = round ranked charges budget c k

    both : (x y : Bool) → x ≡ true → y ≡ true → (x && y) ≡ true
    both x y p q = rw (p, q) refl

    round-falls : (c : Core) (k : ℕ) → k ≤ length c.workers → IsSteady ranked charges budget c →
        (M (rounded c k).0 < M c) ⊎ AllLazy c k (rounded c k)
    round-falls c zero l steady = inr (record {
      measured = refl;
      shared = refl;
      over = refl;
      busy = λ j. refl;
      stops = λ q. refl;
      empty = λ q j m. absurd (omega arith);
    })
    round-falls c (suc k) l steady =
        go (round-falls c k (omega arith) steady)
        (event-falls d k here (round-keeps ranked charges budget
        (IsSteady ranked charges budget) (steady-event ranked charges budget ranks) c k
        (omega arith) steady))
      where
        d : Core
        d = (rounded c k).0

        here : k < length (rounded c k).0.workers
        here = (let e : length (rounded c k).0.workers ≡ length c.workers =
            round-count ranked charges budget c k in omega arith)

        go : (M (rounded c k).0 < M c) ⊎ AllLazy c k (rounded c k) →
            (M (next (rounded c k).0 k) < M (rounded c k).0) ⊎ IsLazy (rounded c k).0 k →
            (M (rounded c (suc k)).0 < M c) ⊎ AllLazy c (suc k) (rounded c (suc k))
        go (inl s) (inl t) = inl (omega (arith, s, t))
        go (inl s) (inr z) = inl (omega (arith, s, z.measured))
        go (inr a) (inl t) = inl (omega (arith, t, a.measured))
        go (inr a) (inr z) = inr (record {
          measured = z.measured ∙ a.measured;
          shared = z.shared ∙ a.shared;
          over = z.over ∙ a.over;
          busy = λ j. z.busy j ∙ a.busy j;
          stops = λ q. both _ _ (a.stops q) (z.stops (a.over ∙ q));
          empty = λ q j m. elim (last-or-below j k m) [
            | inl e ↦ (let x = z.empty (a.over ∙ q) in (
              ap (λ i. is_empty (deque c.shared i)) e
                  ∙ ap (λ (s : Shared). is_empty (deque s k)) (sym a.shared) ∙ x.0,
              ap (λ i. is_busy (worker c i)) e ∙ sym (a.busy k) ∙ x.1,
            ))
            | inr f ↦ a.empty q j f
          ];
        })

    -- a round in which not every event answers Stopped
    pub round-lowers : (c d : Core) → IsSteady ranked charges budget c →
        whole_round ranked charges budget c ≡ (d, false) →
        measure (length ranked.placed) budget d < measure (length ranked.placed) budget c
    round-lowers c d steady e =
        let s : (rounded c (length c.workers)).1 ≡ false = ap (λ (r : Core × Bool). r.1) e in
        let v : (rounded c (length c.workers)).0 ≡ d = ap (λ (r : Core × Bool). r.0) e in
        elim (round-falls c (length c.workers) (omega arith) steady) [
          | inl t ↦ subst (λ (x : Core). M x < M c) v t
          | inr a ↦ absurd (never a s (either (is_over c)))
        ]
      where
        never : AllLazy c (length c.workers) (rounded c (length c.workers)) →
            (rounded c (length c.workers)).1 ≡ false →
            (is_over c ≡ true) ⊎ (is_over c ≡ false) → ⊥
        never a s (inl o) = clash (rounded c (length c.workers)).1 (a.stops o) s
        never a s (inr o) =
            let full : length c.shared.deques ≡ length c.workers = steady.full in
            let x : list_all is_empty c.shared.deques ≡ true =
            all-empty c.shared.deques (λ j l. (a.empty o j (omega arith)).0) in
            let y : any_busy c.workers ≡ false =
            none-busy c.workers (λ j l. (a.empty o j l).1) in
            clash (is_over c) (rw (x, y) (or-true c.shared.halted)) o
          where
            or-true : (h : Bool) → (h || true) ≡ true
            or-true true = refl
            or-true false = refl
