-- Two lists of numbers whose keys are one multiset can be matched, number by number: the first
-- number takes a mate with its key out of the other list, and so on.
use Rattle.std.proofs.Common.{ℕ, zero, suc, ◌+◌, ◌≡◌, ◌≢◌, eqb, Bool, true, false, cond, List, []}
use Rattle.std.proofs.Common.{◌∷◌, ◌++◌, map, filter, length, refl, sym, ap, ap₂, ◌∙◌, arith, inl}
use Rattle.std.proofs.Common.{inr, subst, eqb-true, eq-eqb, ne_eqb, length-append, append-nil}
use Rattle.std.proofs.lemmas.List.{map-append}
use Rattle.std.proofs.lemmas.List.Elements.{filter-append}
use Rattle.list_laws.specs.Sets.{holds, different, below, total, SameTimes}
use Rattle.list_laws.proofs.Tests.{either, or-cases, or-left, or-right}
use Rattle.list_laws.proofs.Lists.{length-push}
use Rattle.list_laws.proofs.Among.{Among}
use Rattle.list_laws.proofs.Different.{Within, different-mono, holds-append, different-length}
use Rattle.list_laws.proofs.Different.{different-push, holds-unfilter, holds-below-lt}
use Rattle.list_laws.proofs.Times.{times-append, times-pos, times-among}

-- the sum of f over a list
abbrev pub sum_of : (ℕ → ℕ) → List ℕ → ℕ
sum_of f [] = 0
sum_of f (x ∷ xs) = f x + sum_of f xs

pub sum_of-append : (f : ℕ → ℕ) (xs ys : List ℕ) → sum_of f (xs ++ ys) ≡ sum_of f xs + sum_of f ys
sum_of-append f [] ys = omega arith
sum_of-append f (x ∷ xs) ys = omega (arith, sum_of-append f xs ys)

-- of values that are told by keys
pub sum-keys : {X : Type 0} (kx ky : ℕ → X) (value : X → ℕ) (xs zs : List ℕ) →
    map kx xs ≡ map ky zs → sum_of (λ g. value (kx g)) xs ≡ sum_of (λ g. value (ky g)) zs
sum-keys kx ky value [] [] e = refl
sum-keys kx ky value [] (z ∷ zs) e = absurd (cc)
sum-keys kx ky value (x ∷ xs) [] e = absurd (cc)
sum-keys kx ky value (x ∷ xs) (z ∷ zs) e =
    let head : kx x ≡ ky z = cc in
    let tail : map kx xs ≡ map ky zs = cc in
    ap₂ (λ a b. a + b) (ap value head) (sum-keys kx ky value xs zs tail)

-- no number stands twice
abbrev pub AllApart : List ℕ → Type 0
AllApart xs = different xs ≡ length xs

pub apart-head : (x : ℕ) (xs : List ℕ) → AllApart (x ∷ xs) → (holds x xs ≡ false) × AllApart xs
apart-head x xs h = elim (either (holds x xs)) [
  | inl e ↦ (let k : different xs ≡ suc (length xs) = rw e at h in
      absurd (omega (arith, different-length xs)))
  | inr e ↦ (let k : suc (different xs) ≡ suc (length xs) = rw e at h in (e, omega arith))
]

pub apart-cons : (x : ℕ) (xs : List ℕ) → holds x xs ≡ false → AllApart xs → AllApart (x ∷ xs)
apart-cons x xs h a = rw h (ap suc a)

-- none stands twice
pub filter-apart : (p : ℕ → Bool) (n : ℕ) → AllApart (filter p (below n))
filter-apart p zero = refl
filter-apart p (suc n) = rw (filter-append p (below n) (n ∷ [])) (elim (either (p n)) [
  | inl e ↦ rw e (different-push n (filter p (below n)) ∙ rw (fresh _ refl)
      (ap suc (filter-apart p n) ∙ sym (length-push (filter p (below n)) n)))
  | inr e ↦ rw (e, append-nil) (filter-apart p n)
])
  where
    fresh : (b : Bool) → holds n (filter p (below n)) ≡ b → holds n (filter p (below n)) ≡ false
    fresh true h =
        absurd (omega (arith, holds-below-lt n n (holds-unfilter p n (below n) h)))
    fresh false h = h

-- a total over all is that over those that fail and the sum of those that pass
pub split-live : (p : ℕ → Bool) (f : ℕ → ℕ) (n : ℕ) →
    total n f ≡ total n (λ s. cond (p s) 0 (f s)) + sum_of f (filter p (below n))
split-live p f zero = refl
split-live p f (suc n) =
    let sum = sum_of-append f (filter p (below n)) (filter p (n ∷ [])) in
    rw (filter-append p (below n) (n ∷ [])) (elim (either (p n)) [
      | inl e ↦ rw e (omega (arith, split-live p f n, rw e at sum))
      | inr e ↦ rw e (omega (arith, split-live p f n, rw e at sum))
    ])

-- A number may be brought to the front.

pub middle-to-front : (x : ℕ) (xs ys : List ℕ) → Within (xs ++ x ∷ ys) (x ∷ (xs ++ ys))
middle-to-front x xs ys z h = grind (arith, holds-append z xs ys, holds-append z xs (x ∷ ys))

pub front-to-middle : (x : ℕ) (xs ys : List ℕ) → Within (x ∷ (xs ++ ys)) (xs ++ x ∷ ys)
front-to-middle x xs ys z h = grind (arith, holds-append z xs ys, holds-append z xs (x ∷ ys))

pub apart-middle : (x : ℕ) (xs ys : List ℕ) → AllApart (xs ++ x ∷ ys) → AllApart (x ∷ (xs ++ ys))
apart-middle x xs ys h =
    omega (
      arith,
      different-mono (xs ++ x ∷ ys) (x ∷ (xs ++ ys)) (middle-to-front x xs ys),
      different-mono (x ∷ (xs ++ ys)) (xs ++ x ∷ ys) (front-to-middle x xs ys),
      length-append xs (x ∷ ys),
      length-append xs ys,
    )

-- The mates.

-- where a number with the key x stands
pub split-at : {X : Type 0} (k : ℕ → X) (x : X) (ys : List ℕ) → Among x (map k ys) →
    (front : List ℕ) × (c : ℕ) × (back : List ℕ) × (ys ≡ front ++ c ∷ back) × (x ≡ k c)
split-at k x [] h = absurd h
split-at k x (c ∷ ys) (inl e) = ([], c, ys, refl, e)
split-at k x (c ∷ ys) (inr h) =
    let r = split-at k x ys h in (c ∷ r.0, r.1, r.2, ap (λ l. c ∷ l) r.3, r.4)

-- zs are mates for xs, in their order: they have the same keys, one by one, and are ys in another
-- order
pub record Mates {X : Type 0} (kx ky : ℕ → X) (xs ys zs : List ℕ) : Type 0 where
  pub keys : map kx xs ≡ map ky zs
  pub among : Within zs ys
  pub apart : AllApart ys → AllApart zs
  pub sums : (f : ℕ → ℕ) → sum_of f zs ≡ sum_of f ys

module _ {X : Type 0} (same : X → X → Bool) (same-refl : (x : X) → same x x ≡ true)
    (same-eq : (x y : X) → same x y ≡ true → x ≡ y) where
  pub mates : (kx ky : ℕ → X) (xs ys : List ℕ) → SameTimes same (map kx xs) (map ky ys) →
      (zs : List ℕ) × Mates kx ky xs ys zs
  mates kx ky [] [] h =
      ([], record { keys = refl; among = λ x m. m; apart = λ a. a; sums = λ f. refl })
  mates kx ky [] (y ∷ ys) h =
      let some = times-pos same same-refl (ky y) (map ky (y ∷ ys)) (inl refl) in
      absurd (omega (arith, some, h (ky y)))
  mates kx ky (x ∷ xs) ys h =
      let some = times-pos same same-refl (kx x) (map kx (x ∷ xs)) (inl refl) in
      let mate = times-among same same-eq (kx x) (map ky ys) (rw (← h (kx x)) some) in
      let s = split-at ky (kx x) ys mate in
      let r = mates kx ky xs (s.0 ++ s.2) (fewer s.0 s.1 s.2 s.3 s.4) in
      (s.1 ∷ r.0, joined s.0 s.1 s.2 s.3 s.4 r.0 r.1)
    where
      -- without x and its mate the keys are one multiset still
      fewer : (front : List ℕ) (c : ℕ) (back : List ℕ) → ys ≡ front ++ c ∷ back → kx x ≡ ky c →
          SameTimes same (map kx xs) (map ky (front ++ back))
      fewer front c back e k z =
          let count = times-append same z (map ky front) in
          let one : ◌≡◌ {A = ℕ} (cond (same z (kx x)) 1 0) (cond (same z (ky c)) 1 0) =
          ap (λ q. cond (same z q) 1 0) k in
          omega (
            arith,
            rw (e, map-append) at (h z),
            count (map ky (c ∷ back)),
            rw (← map-append) at (count (map ky back)),
          )

      joined : (front : List ℕ) (c : ℕ) (back : List ℕ) → ys ≡ front ++ c ∷ back → kx x ≡ ky c →
          (zs : List ℕ) → Mates kx ky xs (front ++ back) zs → Mates kx ky (x ∷ xs) ys (c ∷ zs)
      joined front c back e k zs m = record {
        keys = ap₂ (λ a b. a ∷ b) k m.keys;
        among =
            λ z i. rw e (front-to-middle c front back z (elim (or-cases (eqb z c) (holds z zs) i) [
              | inl j ↦ or-left (eqb z c) _ j
              | inr j ↦ or-right (eqb z c) _ (m.among z j)
            ]));
        apart =
            λ a. (let r = apart-head c (front ++ back) (apart-middle c front back (rw e at a)) in
            apart-cons c zs (elim (either (holds c zs)) [
              | inl j ↦ absurd (grind (arith, r.0, m.among c j))
              | inr j ↦ j
            ]) (m.apart r.1));
        sums =
            λ f. rw e (omega (
              arith,
              m.sums f,
              sum_of-append f front back,
              sum_of-append f front (c ∷ back),
            ));
      }

-- The mate of a number g of xs, where zs are mates for xs in their order.

abbrev pub look : List ℕ → List ℕ → ℕ → ℕ
look [] zs g = 0
look (x ∷ xs) [] g = 0
look (x ∷ xs) (z ∷ zs) g = cond (eqb g x) z (look xs zs g)

module _ {X : Type 0} (kx ky : ℕ → X) where
  -- it has the same key
  pub look-key : (xs zs : List ℕ) (g : ℕ) → map kx xs ≡ map ky zs → holds g xs ≡ true →
      kx g ≡ ky (look xs zs g)
  look-key [] zs g e h = absurd (grind arith)
  look-key (x ∷ xs) [] g e h = absurd (cc)
  look-key (x ∷ xs) (z ∷ zs) g e h =
      let head : kx x ≡ ky z = cc in
      let tail : map kx xs ≡ map ky zs = cc in
      elim (either (eqb g x)) [
        | inl i ↦ rw (i, eqb-true g x i) head
        | inr i ↦ rw i (look-key xs zs g tail (rw i at h))
      ]

  -- it is one of the mates
  pub look-in : (xs zs : List ℕ) (g : ℕ) → map kx xs ≡ map ky zs → holds g xs ≡ true →
      holds (look xs zs g) zs ≡ true
  look-in [] zs g e h = absurd (grind arith)
  look-in (x ∷ xs) [] g e h = absurd (cc)
  look-in (x ∷ xs) (z ∷ zs) g e h =
      let tail : map kx xs ≡ map ky zs = cc in
      elim (either (eqb g x)) [
        | inl i ↦ rw i (or-left (eqb z z) _ (eq-eqb z z refl))
        | inr i ↦ (let later : look (x ∷ xs) (z ∷ zs) g ≡ look xs zs g = rw i refl in
            subst (λ mate. holds mate (z ∷ zs) ≡ true) (sym later)
            (or-right (eqb (look xs zs g) z) _ (look-in xs zs g tail (rw i at h))))
      ]

  -- different numbers have different mates, where no mate stands twice
  pub look-apart : (xs zs : List ℕ) (g t : ℕ) → map kx xs ≡ map ky zs → AllApart zs →
      holds g xs ≡ true → holds t xs ≡ true → g ≢ t → look xs zs g ≢ look xs zs t
  look-apart [] zs g t e a h k n = absurd (grind arith)
  look-apart (x ∷ xs) [] g t e a h k n = absurd (cc)
  look-apart (x ∷ xs) (z ∷ zs) g t e a h k n =
      let tail : map kx xs ≡ map ky zs = cc in
      let once = apart-head z zs a in
      elim (either (eqb g x)) [
        | inl i ↦ (let o : eqb t x ≡ false = ne_eqb t x (λ q. n (eqb-true g x i ∙ sym q)) in
            rw (i, o) (λ q. clash (rw (← q) at (look-in xs zs t tail (rw o at k))) once.0))
        | inr i ↦ elim (either (eqb t x)) [
          | inl j ↦ rw (i, j) (λ q. clash (rw q at (look-in xs zs g tail (rw i at h))) once.0)
          | inr j ↦ rw (i, j) (look-apart xs zs g t tail once.1 (rw i at h) (rw j at k) n)
        ]
      ]
    where
      clash : holds z zs ≡ true → holds z zs ≡ false → ⊥
      clash p q = grind arith
