-- Plans whose orders on two slabs lie anew.
use Rattle.std.proofs.Common.{ℕ, zero, suc, ◌+◌, ◌<◌, ◌≡◌, ◌≢◌, ◌⊎◌, Bool, true, false, cond, ◌||◌}
use Rattle.std.proofs.Common.{List, [], ◌∷◌, map, length, eqb, ltb, refl, sym, ap, ◌∙◌}
use Rattle.std.proofs.Common.{arith, inl, inr, subst, eq-eqb, ne_eqb, lt-ltb, false-eqb}
use Rattle.std.specs.List.{list_all}
use Rattle.list_laws.specs.Sets.{chosen, holds, total}
use Rattle.mill_model.specs.Plan.{slab}
use Rattle.mill_model.specs.Pairs.{complement}
use Rattle.mill_model.specs.declared.order.Order.{Order}
use Rattle.list_laws.proofs.Tests.{and-left, and-right, last-or-below, either}
use Rattle.list_laws.proofs.Sums.{total-cong}
use Rattle.large_moves.specs.Moves.{first_mark, further, split_plan}

other-than : (kind : ℕ → Bool) (s t : ℕ) → kind s ≡ true → kind t ≡ false → eqb s t ≡ false
other-than kind s t h k = ne_eqb s t (λ e. apart (subst (λ z. kind z ≡ true) e h) k)
  where
    apart : kind t ≡ true → kind t ≡ false → ⊥
    apart x y = absurd (cc)

-- the orders that are put on a
pub slab-first : (kind : ℕ → Bool) (a c : ℕ) → kind a ≡ true → a ≢ c →
    (set : List Bool) (plan : List ℕ) (orders : List Order) →
    slab a (split_plan kind set a c plan) orders ≡ chosen set (chosen (map kind plan) orders)
slab-first kind a c ka n set [] orders = none set
  where
    none : (set : List Bool) → [] ≡ chosen {X = Order} set []
    none [] = refl
    none (m ∷ set) = refl
slab-first kind a c ka n set (t ∷ plan) [] = one (kind t) set
  where
    one : (b : Bool) (set : List Bool) →
        slab a (cond b
        (cond (first_mark set) a c ∷ split_plan kind (further set) a c plan)
        (t ∷ split_plan kind set a c plan)) [] ≡ chosen {X = Order} set []
    one true [] = refl
    one true (m ∷ set) = refl
    one false [] = refl
    one false (m ∷ set) = refl
slab-first kind a c ka n set (t ∷ plan) (o ∷ orders) = elim (either (kind t)) [
  | inl k ↦ rw k (go set (λ set. slab-first kind a c ka n set plan orders))
  | inr k ↦ (let e : eqb a t ≡ false = other-than kind a t ka k in
      rw (k, e) (slab-first kind a c ka n set plan orders))
]
  where
    here : eqb a a ≡ true
    here = eq-eqb a a refl

    there : eqb a c ≡ false
    there = ne_eqb a c n

    go : (set : List Bool) →
        ((set : List Bool) →
        slab a (split_plan kind set a c plan) orders
        ≡ chosen set (chosen (map kind plan) orders)) →
        slab a (cond (first_mark set) a c ∷ split_plan kind (further set) a c plan) (o ∷ orders)
        ≡ chosen set (o ∷ chosen (map kind plan) orders)
    go [] ih = rw there (ih [] ∙ empty (chosen (map kind plan) orders))
      where
        empty : (xs : List Order) → chosen [] xs ≡ []
        empty xs = refl
    go (true ∷ set) ih = rw here (ap (λ l. o ∷ l) (ih set))
    go (false ∷ set) ih = rw there (ih set)

-- the orders that are put on c
pub slab-second : (kind : ℕ → Bool) (a c : ℕ) → a ≢ c →
    (set : List Bool) (plan : List ℕ) (orders : List Order) → length plan ≡ length orders →
    length set ≡ length (chosen (map kind plan) orders) →
    (kind c ≡ true) ⊎ (holds c plan ≡ false) →
    slab c (split_plan kind set a c plan) orders
    ≡ chosen (complement set) (chosen (map kind plan) orders)
slab-second kind a c n [] [] orders e l h = refl
slab-second kind a c n (m ∷ set) [] orders e l h = absurd (omega arith)
slab-second kind a c n set (t ∷ plan) [] e l h = absurd (omega arith)
slab-second kind a c n set (t ∷ plan) (o ∷ orders) e l h = elim (either (kind t)) [
  | inl k ↦ (let l2 : length set ≡ suc (length (chosen (map kind plan) orders)) = rw k at l in
      rw k (go set l2 (λ set l. slab-second kind a c n set plan orders (omega arith) l later)))
  | inr k ↦ (let d : eqb c t ≡ false = differs k h in
      let l2 : length set ≡ length (chosen (map kind plan) orders) = rw k at l in
      rw (k, d) (slab-second kind a c n set plan orders (omega arith) l2 later))
]
  where
    later : (kind c ≡ true) ⊎ (holds c plan ≡ false)
    later = elim h [ inl x ↦ inl x | inr x ↦ inr (second (eqb c t) (holds c plan) x) ]
      where
        second : (x y : Bool) → (x || y) ≡ false → y ≡ false
        second x y h = grind arith

    differs : kind t ≡ false → (kind c ≡ true) ⊎ (holds c (t ∷ plan) ≡ false) → eqb c t ≡ false
    differs k (inl x) = other-than kind c t x k
    differs k (inr x) = first (eqb c t) (holds c plan) x
      where
        first : (x y : Bool) → (x || y) ≡ false → x ≡ false
        first x y h = grind arith

    here : eqb c c ≡ true
    here = eq-eqb c c refl

    there : eqb c a ≡ false
    there = ne_eqb c a (λ q. n (sym q))

    go : (set : List Bool) → length set ≡ suc (length (chosen (map kind plan) orders)) →
        ((set : List Bool) → length set ≡ length (chosen (map kind plan) orders) →
        slab c (split_plan kind set a c plan) orders
        ≡ chosen (complement set) (chosen (map kind plan) orders)) →
        slab c (cond (first_mark set) a c ∷ split_plan kind (further set) a c plan) (o ∷ orders)
        ≡ chosen (complement set) (o ∷ chosen (map kind plan) orders)
    go [] l ih = absurd (omega arith)
    go (true ∷ set) l ih = rw there (ih set (omega arith))
    go (false ∷ set) l ih = rw here (ap (λ l. o ∷ l) (ih set (omega arith)))

-- the other slabs stay
pub marks-other : (kind : ℕ → Bool) (a c s : ℕ) → kind s ≡ false → s ≢ a → s ≢ c →
    (set : List Bool) (plan : List ℕ) →
    map (λ t. eqb s t) (split_plan kind set a c plan) ≡ map (λ t. eqb s t) plan
marks-other kind a c s k x y set [] = refl
marks-other kind a c s k x y set (t ∷ plan) = elim (either (kind t)) [
  | inl q ↦ (let d : eqb s t ≡ false =
      ne_eqb s t (λ e. apart (subst (λ z. kind z ≡ false) e k) q) in
      let z : eqb s (cond (first_mark set) a c) ≡ false = put (first_mark set) in
      rw (q, d, z) (ap (λ l. false ∷ l) (marks-other kind a c s k x y (further set) plan)))
  | inr q ↦ rw q (ap (λ l. eqb s t ∷ l) (marks-other kind a c s k x y set plan))
]
  where
    apart : kind t ≡ false → kind t ≡ true → ⊥
    apart x y = absurd (cc)

    put : (b : Bool) → eqb s (cond b a c) ≡ false
    put true = ne_eqb s a x
    put false = ne_eqb s c y

pub slab-other : (kind : ℕ → Bool) (a c s : ℕ) → kind s ≡ false → s ≢ a → s ≢ c →
    (set : List Bool) (plan : List ℕ) (orders : List Order) →
    slab s (split_plan kind set a c plan) orders ≡ slab s plan orders
slab-other kind a c s k x y set plan orders =
    ap (λ marks. chosen marks orders) (marks-other kind a c s k x y set plan)

pub split-length : (kind : ℕ → Bool) (a c : ℕ) (set : List Bool) (plan : List ℕ) →
    length (split_plan kind set a c plan) ≡ length plan
split-length kind a c set [] = refl
split-length kind a c set (t ∷ plan) = elim (either (kind t)) [
  | inl e ↦ rw e (ap suc (split-length kind a c (further set) plan))
  | inr e ↦ rw e (ap suc (split-length kind a c set plan))
]

pub split-below : (kind : ℕ → Bool) (a c n : ℕ) → a < n → c < n →
    (set : List Bool) (plan : List ℕ) → list_all (λ s. ltb s n) plan ≡ true →
    list_all (λ s. ltb s n) (split_plan kind set a c plan) ≡ true
split-below kind a c n x y set [] h = refl
split-below kind a c n x y set (t ∷ plan) h =
    let z : ltb (cond (first_mark set) a c) n ≡ true = put (first_mark set) in
    let w : ltb t n ≡ true = and-left (ltb t n) _ h in
    elim (either (kind t)) [
      | inl e ↦ rw (e, z) (split-below kind a c n x y (further set) plan (and-right (ltb t n) _ h))
      | inr e ↦ rw (e, w) (split-below kind a c n x y set plan (and-right (ltb t n) _ h))
    ]
  where
    put : (b : Bool) → ltb (cond b a c) n ≡ true
    put true = lt-ltb a n x
    put false = lt-ltb c n y

-- sums that differ at one or two places
total-one : (n : ℕ) (f g : ℕ → ℕ) (a : ℕ) → a < n → ((s : ℕ) → s < n → s ≢ a → f s ≡ g s) →
    total n f + g a ≡ total n g + f a
total-one zero f g a l h = absurd (omega arith)
total-one (suc n) f g a l h = elim (last-or-below a n l) [
  | inl e ↦ (let t : total n f ≡ total n g =
      total-cong n f g (λ s k. h s (omega arith) (λ q. absurd (same s k q e))) in
      rw e (omega (arith, t)))
  | inr k ↦ (let ih : total n f + g a ≡ total n g + f a =
      total-one n f g a k (λ s q. h s (omega arith)) in
      let e : f n ≡ g n = h n (omega arith) (λ q. absurd (larger q k)) in
      omega (arith, ih, e))
]
  where
    same : (s : ℕ) → s < n → s ≡ a → a ≡ n → ⊥
    same s k q e = absurd (omega arith)

    larger : n ≡ a → a < n → ⊥
    larger q k = absurd (omega arith)

pub total-two : (n : ℕ) (f g : ℕ → ℕ) (a c : ℕ) → a < n → c < n → a ≢ c →
    ((s : ℕ) → s < n → s ≢ a → s ≢ c → f s ≡ g s) →
    total n f + (g a + g c) ≡ total n g + (f a + f c)
total-two n f g a c x y ne h =
    let m : ℕ → ℕ = λ s. cond (eqb s a) (g s) (f s) in
    let here : eqb a a ≡ true = eq-eqb a a refl in
    let there : eqb c a ≡ false = ne_eqb c a (λ q. ne (sym q)) in
    let ma : cond (eqb a a) (g a) (f a) ≡ g a = rw here refl in
    let mc : cond (eqb c a) (g c) (f c) ≡ f c = rw there refl in
    let one : total n f + cond (eqb a a) (g a) (f a)
    ≡ total n (λ s. cond (eqb s a) (g s) (f s)) + f a =
    total-one n f (λ s. cond (eqb s a) (g s) (f s)) a x
    (λ s l q. (let e : eqb s a ≡ false = ne_eqb s a q in rw e refl)) in
    let two : total n (λ s. cond (eqb s a) (g s) (f s)) + g c
    ≡ total n g + cond (eqb c a) (g c) (f c) =
    total-one n (λ s. cond (eqb s a) (g s) (f s)) g c y (λ s l q. mid s l q (either (eqb s a))) in
    omega (arith, one, two, ma, mc)
  where
    mid : (s : ℕ) → s < n → s ≢ c → (eqb s a ≡ true) ⊎ (eqb s a ≡ false) →
        cond (eqb s a) (g s) (f s) ≡ g s
    mid s l q (inl e) = rw e refl
    mid s l q (inr e) = rw e (h s l (λ z. false-eqb s a (sym e) z) q)
