-- How many different numbers a list has depends on which numbers it has.
use Rattle.std.proofs.Common.{ℕ, zero, suc, ◌<◌, ◌≤◌, ◌≡◌, ◌≢◌, ◌⊎◌, eqb, ltb, Bool, true}
use Rattle.std.proofs.Common.{false, cond, ◌||◌, List, [], ◌∷◌, ◌++◌, map, filter, length, refl}
use Rattle.std.proofs.Common.{sym, ap, ◌∙◌, arith, inl, inr, eqb-true, eq-eqb, ne_eqb, false-eqb}
use Rattle.std.proofs.Common.{le_antisymm}
use Rattle.std.proofs.lemmas.Bool.Decides.{nat_tests}
use Rattle.std.specs.List.{list_all}
use Rattle.list_laws.specs.Sets.{holds, different, below}
use Rattle.list_laws.specs.Without.{without}
use Rattle.list_laws.proofs.Tests.{either, or-cases, or-left, or-right}
use Rattle.list_laws.proofs.Lists.{length-below}

abbrev pub Within : List ℕ → List ℕ → Type 0
Within xs ys = (x : ℕ) → holds x xs ≡ true → holds x ys ≡ true

pub without-none : (x : ℕ) (ys : List ℕ) → holds x ys ≡ false → without x ys ≡ ys
without-none x [] h = refl
without-none x (y ∷ ys) h =
    let e : eqb x y ≡ false = grind arith in
    let k : holds x ys ≡ false = grind arith in
    rw e (ap (λ l. y ∷ l) (without-none x ys k))

pub without-other : (z x : ℕ) (ys : List ℕ) → z ≢ x → holds z (without x ys) ≡ holds z ys
without-other z x [] n = refl
without-other z x (y ∷ ys) n = elim (either (eqb x y)) [
  | inl e ↦ (let same : x ≡ y = eqb-true x y e in let d : eqb z y ≡ false =
      ne_eqb z y (λ q. n (q ∙ sym same)) in rw (e, d) (without-other z x ys n))
  | inr e ↦ rw e (ap (λ b. eqb z y || b) (without-other z x ys n))
]

pub different-without : (x : ℕ) (ys : List ℕ) → holds x ys ≡ true →
    different ys ≡ suc (different (without x ys))
different-without x [] h = grind arith
different-without x (y ∷ ys) h = elim (either (eqb x y)) [
  | inl e ↦ (let same : x ≡ y = eqb-true x y e in elim (either (holds y ys)) [
    | inl k ↦ rw (e, k) (different-without x ys (rw same k))
    | inr k ↦ rw (e, k) (ap (λ l. suc (different l)) (sym (without-none x ys (rw same k))))
  ])
  | inr e ↦ (let k : holds x ys ≡ true = rw e at h in
      let o : holds y (without x ys) ≡ holds y ys =
      without-other y x ys (λ q. false-eqb x y (sym e) (sym q)) in
      let ih : different ys ≡ suc (different (without x ys)) = different-without x ys k in
      elim (either (holds y ys)) [
        | inl i ↦ rw (e, o, i) ih
        | inr i ↦ rw (e, o, i) (ap suc ih)
      ])
]

pub different-mono : (xs ys : List ℕ) → Within xs ys → different xs ≤ different ys
different-mono [] ys h = omega arith
different-mono (x ∷ xs) ys h = elim (either (holds x xs)) [
  | inl k ↦ rw k (different-mono xs ys (λ z m. h z (or-right (eqb z x) (holds z xs) m)))
  | inr k ↦ (let here : holds x ys ≡ true = h x (or-left (eqb x x) (holds x xs)
      (eq-eqb x x refl)) in
      let d : different ys ≡ suc (different (without x ys)) = different-without x ys here in
      let ih : different xs ≤ different (without x ys) =
      different-mono xs (without x ys) (λ z m. rw (without-other z x ys (λ q.
      absurd (differs z q m k))) (h z (or-right (eqb z x) (holds z xs) m))) in
      rw k (omega arith))
]
  where
    differs : (z : ℕ) → z ≡ x → holds z xs ≡ true → holds x xs ≡ false → ⊥
    differs z q m k = grind (arith, rw q at m)

pub holds-append : (x : ℕ) (xs ys : List ℕ) → holds x (xs ++ ys) ≡ (holds x xs || holds x ys)
holds-append x [] ys = refl
holds-append x (z ∷ xs) ys =
    let ih : holds x (xs ++ ys) ≡ (holds x xs || holds x ys) =
    holds-append x xs ys in rw ih (assoc (eqb x z) (holds x xs) (holds x ys))
  where
    assoc : (a b c : Bool) → (a || (b || c)) ≡ ((a || b) || c)
    assoc true b c = refl
    assoc false b c = refl

pub Within-left : (xs ys : List ℕ) → Within xs (xs ++ ys)
Within-left xs ys x h = rw holds-append (or-left (holds x xs) (holds x ys) h)

pub Within-right : (xs ys : List ℕ) → Within ys (xs ++ ys)
Within-right xs ys x h = rw holds-append (or-right (holds x xs) (holds x ys) h)

-- one more where the smaller lacks a number of the larger
pub different-less : (s : ℕ) (xs ys : List ℕ) → holds s xs ≡ false → holds s ys ≡ true →
    Within xs ys → different xs < different ys
different-less s xs ys n m h =
    let k : different (s ∷ xs) ≤ different ys =
    different-mono (s ∷ xs) ys (λ z q. elim (or-cases (eqb z s) (holds z xs) q) [
      | inl e ↦
          rw (eqb-true z s e) m
      | inr e ↦ h z e
    ]) in
    rw n at k

pub different-length : (xs : List ℕ) → different xs ≤ length xs
different-length [] = omega arith
different-length (x ∷ xs) =
    let ih : different xs ≤ length xs =
    different-length xs in
    elim (either (holds x xs)) [ inl k ↦ rw k (omega arith) | inr k ↦ rw k (omega arith) ]

-- lists with the same numbers have as many different ones
pub different-same : (xs ys : List ℕ) → ((x : ℕ) → holds x xs ≡ holds x ys) →
    different xs ≡ different ys
different-same xs ys h =
    le_antisymm (different-mono xs ys (λ x k. sym (h x) ∙ k))
    (different-mono ys xs (λ x k. h x ∙ k))

-- Which numbers a list has that goes on, that is mapped and that is filtered.

pub Within-cons : (t : ℕ) (xs ys : List ℕ) → Within xs ys → Within (t ∷ xs) (t ∷ ys)
Within-cons t xs ys h x m =
    elim (or-cases (eqb x t) (holds x xs) m) [
      | inl e ↦ or-left (eqb x t) (holds x ys) e
      | inr e ↦ or-right (eqb x t) (holds x ys) (h x e)
    ]

pub push-within : (s : ℕ) (pre : List ℕ) → Within (pre ++ s ∷ []) (s ∷ pre)
push-within s pre x h =
    elim (or-cases (holds x pre) (holds x (s ∷ [])) (rw holds-append at h)) [
      | inl e ↦
          or-right (eqb x s) (holds x pre) e
      | inr e ↦
          elim (or-cases (eqb x s) false e) [
            | inl k ↦ or-left (eqb x s) (holds x pre) k
            | inr k ↦ grind arith
          ]
    ]

pub within-push : (s : ℕ) (pre : List ℕ) → Within (s ∷ pre) (pre ++ s ∷ [])
within-push s pre x h =
    rw holds-append (elim (or-cases (eqb x s) (holds x pre) h) [
      | inl e ↦
          or-right (holds x pre) (eqb x s || false) (or-left (eqb x s) false e)
      | inr e ↦ or-left (holds x pre) (eqb x s || false) e
    ])

pub different-push : (s : ℕ) (pre : List ℕ) → different (pre ++ s ∷ []) ≡ different (s ∷ pre)
different-push s pre =
    le_antisymm (different-mono (pre ++ s ∷ []) (s ∷ pre) (push-within s pre))
    (different-mono (s ∷ pre) (pre ++ s ∷ []) (within-push s pre))

-- what stands in a list with one more number
pub holds-push : (seen : List ℕ) (t s : ℕ) → holds t (seen ++ s ∷ []) ≡ true → (holds t seen ≡ true)
    ⊎ (t ≡ s)
holds-push seen t s h = elim (or-cases (holds t seen) (eqb t s || false) (rw holds-append at h)) [
  | inl e ↦ inl e
  | inr e ↦ elim (or-cases (eqb t s) false e) [
    | inl k ↦ inr (eqb-true t s k)
    | inr k ↦ absurd (grind arith)
  ]
]

pub push-holds : (x s : ℕ) (pre : List ℕ) → (holds x pre ≡ true) ⊎ (x ≡ s) →
    holds x (pre ++ s ∷ []) ≡ true
push-holds x s pre h = grind (arith, nat_tests, holds-append x pre (s ∷ []))

pub holds-map-from : (f : ℕ → ℕ) (i : ℕ) (plan : List ℕ) → holds i (map f plan) ≡ true →
    (s : ℕ) × (holds s plan ≡ true) × (i ≡ f s)
holds-map-from f i [] h = grind arith
holds-map-from f i (t ∷ plan) h = elim (or-cases (eqb i (f t)) (holds i (map f plan)) h) [
  | inl e ↦ (t, or-left (eqb t t) _ (eq-eqb t t refl), eqb-true i (f t) e)
  | inr e ↦ (let r = holds-map-from f i plan e in (r.0, or-right (eqb r.0 t) _ r.1, r.2))
]

pub holds-filter : (p : ℕ → Bool) (g : ℕ) (xs : List ℕ) → p g ≡ true → holds g xs ≡ true →
    holds g (filter p xs) ≡ true
holds-filter p g [] e h = h
holds-filter p g (x ∷ xs) e h = elim (or-cases (eqb g x) (holds g xs) h) [
  | inl i ↦ (let passes : p x ≡ true = rw (eqb-true g x i) at e in
      rw passes (or-left (eqb g x) _ i))
  | inr i ↦ grind (arith, holds-filter p g xs e i)
]

pub holds-unfilter : (p : ℕ → Bool) (g : ℕ) (xs : List ℕ) → holds g (filter p xs) ≡ true →
    holds g xs ≡ true
holds-unfilter p g [] h = h
holds-unfilter p g (x ∷ xs) h = grind (arith, holds-unfilter p g xs)

-- Numbers below a bound.

pub holds-below : (n s : ℕ) (plan : List ℕ) → list_all (λ t. ltb t n) plan ≡ true →
    holds s plan ≡ true → s < n
holds-below n s [] h k = absurd (grind arith)
holds-below n s (t ∷ plan) h k = grind (arith, nat_tests, holds-below n s plan)

pub below-holds : (g n : ℕ) → g < n → holds g (below n) ≡ true
below-holds g zero h = absurd (omega arith)
below-holds g (suc n) h =
    grind (arith, nat_tests, holds-append g (below n) (n ∷ []), below-holds g n)

pub holds-below-lt : (g n : ℕ) → holds g (below n) ≡ true → g < n
holds-below-lt g zero h = absurd (grind arith)
holds-below-lt g (suc n) h =
    grind (arith, nat_tests, holds-append g (below n) (n ∷ []), holds-below-lt g n)

pub different-bounded : (n : ℕ) (xs : List ℕ) → ((x : ℕ) → holds x xs ≡ true → x < n) →
    different xs ≤ n
different-bounded n xs h =
    let l : length (below n) ≡ n = length-below n in
    let few : different (below n) ≤ length (below n) = different-length (below n) in
    let less : different xs ≤ different (below n) =
    different-mono xs (below n) (λ x k. below-holds x n (h x k)) in
    omega arith
