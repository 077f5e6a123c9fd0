-- The coming colours of a key: which they are, and that nothing else is known of them. A key holds
-- eight rising numbers, with 65535 behind the colours, which no order has. How often each lesser
-- number stands among them says which colours come; and rising numbers are known by how often each
-- stands there, so that two keys with the same colours have the same eight numbers.
use Rattle.std.proofs.Common.{ℕ, zero, suc, ◌+◌, ◌-◌, ◌<◌, ◌≤◌, ◌≡◌, ◌⊎◌, Bool, true, false, cond}
use Rattle.std.proofs.Common.{◌&&◌, List, [], ◌∷◌, ◌++◌, filter, length, take, get_or, set, eqb}
use Rattle.std.proofs.Common.{ltb, eqb-true, eq-eqb, ne_eqb, le-ltb, ltb-false, refl, sym, ap, ap₂}
use Rattle.std.proofs.Common.{◌∙◌, subst, arith, inl, inr, replicate, append-nil, All}
use Rattle.std.proofs.Common.{length-append}
use Rattle.std.proofs.Math.Seq.{take-suc}
use Rattle.std.proofs.lemmas.Bool.{cases_lt}
use Rattle.std.proofs.lemmas.List.{get_or_default}
use Rattle.std.proofs.lemmas.List.Elements.{filter-append, All-append, All-filter}
use Rattle.std.specs.List.Sorted.{IsPermutation, IsNonDecreasingBy}
use Rattle.std.proofs.lemmas.List.Sorted.{length_permutation, All-permutation}
use Rattle.list_laws.specs.Sets.{holds, different, times}
use Rattle.list_laws.proofs.Tests.{either}
use Rattle.list_laws.proofs.Different.{different-length}
use Rattle.list_laws.proofs.Among.{Among}
use Rattle.list_laws.proofs.Times.{times-append}
use Rattle.log_checker.specs.Keys.{AreComing}
use Rattle.list_laws.proofs.InOrder.{InOrder, in-order-from, times-moved}

-- one colour more in front of the padding
pub one-more-noted : (xs : List ℕ) (n c : ℕ) → set (xs ++ replicate (suc n) 65535) (length xs) c
    ≡ (xs ++ c ∷ []) ++ replicate n 65535
one-more-noted [] n c = refl
one-more-noted (x ∷ xs) n c = ap (λ l. x ∷ l) (one-more-noted xs n c)

pub note-more : (test : ℕ → Bool) (colours coming new : List ℕ) (i count next : ℕ) (c : ℕ)
    (comes : Bool) → i < length colours → c ≡ get_or colours i 0 → comes ≡ test c →
    count ≡ length (filter test (take i colours)) → count < 8 →
    coming ≡ filter test (take i colours) ++ replicate (8 - count) 65535 →
    (comes ≡ true → (new ≡ set coming count c) × (next ≡ count + 1)) →
    (comes ≡ false → (new ≡ coming) × (next ≡ count)) →
    (next ≡ length (filter test (take (i + 1) colours)))
    × (new ≡ filter test (take (i + 1) colours) ++ replicate (8 - next) 65535)
note-more test colours coming new i count next c comes h e t n few is there not_there =
    go comes refl
  where
    first : List ℕ
    first = filter test (take i colours)

    grown : take (i + 1) colours ≡ take i colours ++ c ∷ []
    grown =
        let s : i + 1 ≡ suc i = omega arith in
        rw (s, e) (take-suc colours i 0 h)

    passed : filter test (take (i + 1) colours) ≡ first ++ cond (test c) (c ∷ []) []
    passed = ap (filter test) grown ∙ filter-append test (take i colours) (c ∷ [])

    go : (b : Bool) → comes ≡ b → (next ≡ length (filter test (take (i + 1) colours)))
        × (new ≡ filter test (take (i + 1) colours) ++ replicate (8 - next) 65535)
    go true q =
        let w = there q in
        let p : filter test (take (i + 1) colours) ≡ first ++ c ∷ [] =
        passed ∙ ap (λ b. first ++ cond b (c ∷ []) []) (sym t ∙ q) in
        let m : 8 - count ≡ suc (8 - next) = omega (arith, w.1) in
        let l : length (first ++ c ∷ []) ≡ length first + 1 = length-append first (c ∷ []) in (
          omega (arith, w.1, ap length p),
          w.0 ∙ ap (λ xs. set xs count c) (is ∙ ap (λ k. first ++ replicate k 65535) m)
              ∙ ap (λ k. set (first ++ replicate (suc (8 - next)) 65535) k c) n
              ∙ one-more-noted first (8 - next) c
              ∙ ap (λ l. l ++ replicate (8 - next) 65535) (sym p),
        )
    go false q =
        let w = not_there q in
        let p : filter test (take (i + 1) colours) ≡ first =
        passed ∙ ap (λ b. first ++ cond b (c ∷ []) []) (sym t ∙ q) ∙ append-nil first in (
          w.1 ∙ n ∙ ap length (sym p),
          w.0 ∙ is ∙ ap (λ l. l ++ replicate (8 - count) 65535) (sym p)
              ∙ ap (λ k. filter test (take (i + 1) colours) ++ replicate (8 - k) 65535) (sym w.1),
        )

-- how often a colour is among those that pass, where each stands once
times-passed : (test : ℕ → Bool) (colours : List ℕ) → length colours ≡ different colours → (c : ℕ) →
    times eqb c (filter test colours) ≡ cond (holds c colours && test c) 1 0
times-passed test [] once c = refl
times-passed test (x ∷ xs) once c =
    elim (either (holds x xs)) [
      | inl h ↦ (let e : suc (length xs) ≡ different xs = rw h at once in
          let l : different xs ≤ length xs = different-length xs in
          absurd (omega arith))
      | inr h ↦ (let e : suc (length xs) ≡ suc (different xs) = rw h at once in
          let ih : times eqb c (filter test xs) ≡ cond (holds c xs && test c) 1 0 =
          times-passed test xs (omega arith) c in
          elim (either (eqb c x)) [
            | inl q ↦ (let s : c ≡ x = eqb-true c x q in
                let n : holds c xs ≡ false = rw s h in
                let z : times eqb c (filter test xs) ≡ 0 = ih ∙ rw n refl in
                rw (q, ← s) (elim (either (test c)) [
                  | inl t ↦ rw (t, eq-eqb c c refl, z) refl
                  | inr t ↦ rw t z
                ]))
            | inr q ↦ rw q (elim (either (test x)) [
              | inl t ↦ (let w : 0 + times eqb c (filter test xs)
                  ≡ cond (holds c xs && test c) 1 0 = omega arith in
                  rw (t, q) w)
              | inr t ↦ rw t ih
            ])
          ])
    ]

times-padding : (c n : ℕ) → c < 65535 → times eqb c (replicate n 65535) ≡ 0
times-padding c zero h = refl
times-padding c (suc n) h =
    let e : eqb c 65535 ≡ false = ne_eqb c 65535 (λ q. absurd (omega arith)) in
    let ih : times eqb c (replicate n 65535) ≡ 0 = times-padding c n h in
    let w : 0 + times eqb c (replicate n 65535) ≡ 0 = omega arith in
    rw e w

-- what a sort leaves of the colours that pass and the padding behind them
pub coming-from : (test : ℕ → Bool) (colours coming sorted : List ℕ) (count : ℕ) →
    length colours ≡ different colours → length colours ≤ 8 →
    count ≡ length (filter test colours) →
    coming ≡ filter test colours ++ replicate (8 - count) 65535 → length coming ≡ 8 →
    ((i : ℕ) → i < length colours → get_or colours i 0 < 65536) → IsPermutation coming sorted →
    IsNonDecreasingBy (λ (c : ℕ). c) sorted → AreComing (λ c. holds c colours && test c) sorted
coming-from test colours coming sorted count once few n is long limit moved rises =
    let l : length sorted ≡ 8 = length_permutation coming sorted moved ∙ long in
    record {
      long = l;
      limit = All-permutation (λ x. x ≤ 65535) coming sorted moved (subst (All (λ x. x ≤ 65535))
          (sym is) (All-append (λ x. x ≤ 65535) (filter test colours) (replicate (8 - count) 65535)
          (All-filter test (λ x. x ≤ 65535) colours each-small) (padding (8 - count))));
      rise = λ i j a b. rises i j 0 a (omega arith);
      each = λ c h.
          let a : times eqb c sorted ≡ times eqb c coming = times-moved eqb c coming sorted moved in
          let b : times eqb c coming
          ≡ times eqb c (filter test colours ++ replicate (8 - count) 65535) =
          ap (times eqb c) is in
          let d : times eqb c (filter test colours ++ replicate (8 - count) 65535)
          ≡ times eqb c (filter test colours) + times eqb c (replicate (8 - count) 65535) =
          times-append eqb c (filter test colours) (replicate (8 - count) 65535) in
          let z : times eqb c (replicate (8 - count) 65535) ≡ 0 =
          times-padding c (8 - count) h in
          let f : times eqb c (filter test colours) ≡ cond (holds c colours && test c) 1 0 =
          times-passed test colours once c in
          omega arith;
    }
  where
    each-small : All (λ x. x ≤ 65535) colours
    each-small k d h =
        let a : get_or colours k 0 < 65536 = limit k h in
        let e : get_or colours k d ≡ get_or colours k 0 = get_or_default colours k d 0 h in
        omega arith

    padding : (n : ℕ) → All (λ x. x ≤ 65535) (replicate n 65535)
    padding zero k d h = absurd (omega arith)
    padding (suc n) zero d h = omega arith
    padding (suc n) (suc k) d h = padding n k d (omega arith)

-- Rising numbers up to 65535 are known by how often each lesser one stands among them.
times-in : (o : ℕ) (xs : List ℕ) → 0 < times eqb o xs → Among o xs
times-in o [] h = absurd (omega arith)
times-in o (x ∷ xs) h = elim (either (eqb o x)) [
  | inl s ↦ inl (eqb-true o x s)
  | inr s ↦ (let k : 0 < 0 + times eqb o xs = rw s at h in inr (times-in o xs (omega arith)))
]

first-in : (x : ℕ) (xs : List ℕ) → 0 < times eqb x (x ∷ xs)
first-in x xs = rw (eq-eqb x x refl) (omega arith)

pub padded-same : (xs ys : List ℕ) → length xs ≡ length ys → InOrder ltb xs → InOrder ltb ys →
    ((x : ℕ) → Among x xs → x ≤ 65535) → ((y : ℕ) → Among y ys → y ≤ 65535) →
    ((c : ℕ) → c < 65535 → times eqb c xs ≡ times eqb c ys) → xs ≡ ys
padded-same [] [] n r s u v t = refl
padded-same [] (y ∷ ys) n r s u v t = absurd (omega arith)
padded-same (x ∷ xs) [] n r s u v t = absurd (omega arith)
padded-same (x ∷ xs) (y ∷ ys) n r s u v t =
    let e : x ≡ y = head in
    ap₂ (λ a b. a ∷ b) e
    (padded-same xs ys (omega arith) r.1 s.1 (λ z m. u z (inr m)) (λ z m. v z (inr m))
    (λ c h. tail c h e))
  where
    below-y : x < 65535 → y ≤ x
    below-y h =
        let a : 0 < times eqb x (x ∷ xs) = first-in x xs in
        let b : times eqb x (x ∷ xs) ≡ times eqb x (y ∷ ys) = t x h in
        go (times-in x (y ∷ ys) (omega arith))
      where
        go : (x ≡ y) ⊎ Among x ys → y ≤ x
        go (inl e) = omega arith
        go (inr m) = ltb-false x y (s.0 x m)

    below-x : y < 65535 → x ≤ y
    below-x h =
        let a : 0 < times eqb y (y ∷ ys) = first-in y ys in
        let b : times eqb y (x ∷ xs) ≡ times eqb y (y ∷ ys) = t y h in
        go (times-in y (x ∷ xs) (omega arith))
      where
        go : (y ≡ x) ⊎ Among y xs → x ≤ y
        go (inl e) = omega arith
        go (inr m) = ltb-false y x (r.0 y m)

    head : x ≡ y
    head =
        let p : x ≤ 65535 = u x (inl refl) in
        let q : y ≤ 65535 = v y (inl refl) in
        elim (cases_lt x 65535) [
          | inl a ↦ (let w : y ≤ x = below-y a in
              elim (cases_lt y 65535) [
                | inl b ↦ (let z : x ≤ y = below-x b in omega arith)
                | inr b ↦ absurd (omega arith)
              ])
          | inr a ↦ elim (cases_lt y 65535) [
            | inl b ↦ (let z : x ≤ y = below-x b in absurd (omega arith))
            | inr b ↦ omega arith
          ]
        ]

    tail : (c : ℕ) → c < 65535 → x ≡ y → times eqb c xs ≡ times eqb c ys
    tail c h e =
        let a : cond (eqb c x) 1 0 + times eqb c xs ≡ cond (eqb c y) 1 0 + times eqb c ys = t c h in
        let b : cond (eqb c x) 1 0 ≡ cond (eqb c y) 1 0 = ap (λ z. cond (eqb c z) 1 0) e in
        cancel (cond (eqb c x) 1 0) (cond (eqb c y) 1 0) (times eqb c xs) (times eqb c ys) b a
      where
        cancel : (a b m n : ℕ) → a ≡ b → a + m ≡ b + n → m ≡ n
        cancel a b m n e f = omega arith

coming-order : (test : ℕ → Bool) (xs : List ℕ) → AreComing test xs → InOrder ltb xs
coming-order test xs it =
    in-order-from ltb xs (λ i j d a b.
    let l : length xs ≡ 8 = it.long in
    let r : get_or xs i 0 ≤ get_or xs j 0 = it.rise i j a (omega arith) in
    le-ltb (get_or xs j d) (get_or xs i d) (shift i j d a b r))
  where
    shift : (i j d : ℕ) → i ≤ j → j < length xs → get_or xs i 0 ≤ get_or xs j 0 →
        get_or xs i d ≤ get_or xs j d
    shift i j d a b r =
        let e : get_or xs i d ≡ get_or xs i 0 = get_or_default xs i d 0 (omega arith) in
        let f : get_or xs j d ≡ get_or xs j 0 = get_or_default xs j d 0 b in
        omega arith

among-limit : (xs : List ℕ) → All (λ c. c ≤ 65535) xs → (x : ℕ) → Among x xs → x ≤ 65535
among-limit [] h x m = absurd m
among-limit (y ∷ ys) h x (inl e) = rw e (h 0 0 (omega arith))
among-limit (y ∷ ys) h x (inr m) =
    among-limit ys (λ k d l. h (suc k) d (omega arith)) x m

-- the same colours give one list
pub coming-same : (p q : ℕ → Bool) (xs ys : List ℕ) → AreComing p xs → AreComing q ys →
    ((c : ℕ) → c < 65535 → p c ≡ q c) → xs ≡ ys
coming-same p q xs ys a b e =
    padded-same xs ys (a.long ∙ sym b.long) (coming-order p xs a) (coming-order q ys b)
    (among-limit xs a.limit) (among-limit ys b.limit)
    (λ c h. a.each c h ∙ ap (λ v. cond v 1 0) (e c h) ∙ sym (b.each c h))

-- and one list the same colours
pub same-coming : (p q : ℕ → Bool) (xs ys : List ℕ) → AreComing p xs → AreComing q ys → xs ≡ ys →
    (c : ℕ) → c < 65535 → p c ≡ q c
same-coming p q xs ys a b e c h =
    both (p c) (q c) (sym (a.each c h) ∙ ap (times eqb c) e ∙ b.each c h)
  where
    both : (u v : Bool) → cond {A = ℕ} u 1 0 ≡ cond v 1 0 → u ≡ v
    both true true k = refl
    both true false k = absurd (never 0 k)
      where
        never : (n : ℕ) → suc n ≡ 0 → ⊥
        never n k = omega arith
    both false true k = absurd (never 0 k)
      where
        never : (n : ℕ) → 0 ≡ suc n → ⊥
        never n k = omega arith
    both false false k = refl
