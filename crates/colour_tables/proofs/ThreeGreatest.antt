-- The three greatest of some numbers: the order of the insertions does not matter, and one or two
-- of the numbers can be taken out.
use Rattle.std.proofs.Common.{ℕ, ◌≡◌, ◌≢◌, List, [], ◌∷◌, ℤ, ◌≤ℤ◌, ◌<ℤ◌, Bool, true, false, eqb}
use Rattle.std.proofs.Common.{refl, sym, ap, ap₂, ◌∙◌, arith, inl, inr, eqb-true, eq-eqb, ne_eqb}
use Rattle.std.proofs.Common.{◌&&◌, ◌||◌}
use Rattle.std.proofs.Common.{not, subst, ◌⊎◌, ◌++◌, int_lt, take, length, get_or, suc, ◌+◌, ◌<◌}
use Rattle.std.proofs.Math.Seq.{take-suc}
use Rattle.std.proofs.lemmas.Int.{ints}
use Rattle.std.specs.Int.{int_max, int_min}
use Rattle.list_laws.specs.Sets.{holds}
use Rattle.list_laws.proofs.Tests.{and-left, and-right}
use Rattle.list_laws.proofs.Tests.{either, or-cases, or-left, or-right}
use Rattle.list_laws.proofs.Tests.{clash}
use Rattle.colour_tables.specs.Threes.{IsSorted, insert, three, but, once, IsButOne}
use Rattle.colour_tables.specs.declared.tops.Three.{Three}
use Rattle.colour_tables.specs.Threes.{IsButTwo, IsLeft}

first-swap : (b x y : ℤ) → int_max (int_max b y) x ≡ int_max (int_max b x) y
first-swap b x y = grind (arith, ints)

second-swap : (b s x y : ℤ) → int_max (int_max s (int_min b y)) (int_min (int_max b y) x)
    ≡ int_max (int_max s (int_min b x)) (int_min (int_max b x) y)
second-swap b s x y = grind (arith, ints)

third-swap : (b s t x y : ℤ) →
    int_max (int_max t (int_min s (int_min b y)))
    (int_min (int_max s (int_min b y)) (int_min (int_max b y) x))
    ≡ int_max (int_max t (int_min s (int_min b x)))
    (int_min (int_max s (int_min b x)) (int_min (int_max b x) y))
third-swap b s t x y = grind (arith, ints)

pub same-three : (a b c a' b' c' : ℤ) → a ≡ a' → b ≡ b' → c ≡ c' →
    ◌≡◌ {A = Three} (record { best = a; second = b; third = c })
    (record { best = a'; second = b'; third = c' })
same-three a b c a' b' c' e f g = cc

-- two numbers more, in either order
pub insert-swap : (x y : ℤ) (t : Three) → insert x (insert y t) ≡ insert y (insert x t)
insert-swap x y t =
    same-three _ _ _ _ _ _ (first-swap t.best x y) (second-swap t.best t.second x y)
    (third-swap t.best t.second t.third x y)

upper-sorted : (b s x : ℤ) → s ≤ℤ b → int_max s (int_min b x) ≤ℤ int_max b x
upper-sorted b s x h = grind (arith, ints)

lower-sorted : (b s t x : ℤ) → s ≤ℤ b → t ≤ℤ s →
    int_max t (int_min s (int_min b x)) ≤ℤ int_max s (int_min b x)
lower-sorted b s t x h k = grind (arith, ints)

pub insert-sorted : (x : ℤ) (t : Three) → IsSorted t → IsSorted (insert x t)
insert-sorted x t h = record {
  upper = upper-sorted t.best t.second x h.upper;
  lower = lower-sorted t.best t.second t.third x h.upper h.lower;
}

pub three-sorted : (f : ℕ → ℤ) (cs : List ℕ) → IsSorted (three f cs)
three-sorted f [] = record { upper = grind (arith, ints); lower = grind (arith, ints) }
three-sorted f (c ∷ cs) = insert-sorted (f c) (three f cs) (three-sorted f cs)

-- a list without a thing
pub but-none : (c : ℕ) (cs : List ℕ) → holds c cs ≡ false → but c cs ≡ cs
but-none c [] h = refl
but-none c (d ∷ ds) h =
    elim (either (eqb c d)) [
      | inl e ↦ absurd (clash (eqb c d || holds c ds) (rw e refl) h)
      | inr e ↦ (let n : eqb d c ≡ false = ne_eqb d c (λ q. clash (eqb c d) (eq-eqb c d (sym q)) e)
          in
          let k : holds c ds ≡ false = rw e at h in
          rw n (ap (λ z. d ∷ z) (but-none c ds k)))
    ]

pub but-holds : (c d : ℕ) (cs : List ℕ) → holds d (but c cs) ≡ (not (eqb d c) && holds d cs)
but-holds c d [] = none (eqb d c)
  where
    none : (b : Bool) → false ≡ (not b && false)
    none true = refl
    none false = refl
but-holds c d (e ∷ es) =
    elim (either (eqb e c)) [
      | inl q ↦ rw q (but-holds c d es ∙ gone (eqb d c) (eqb d e) refl refl (eqb-true e c q))
      | inr q ↦ rw q (ap (λ b. eqb d e || b) (but-holds c d es)
          ∙ kept (eqb d c) (eqb d e) refl refl q)
    ]
  where
    gone : (a b : Bool) → eqb d c ≡ a → eqb d e ≡ b → e ≡ c →
        (not a && holds d es) ≡ (not a && (b || holds d es))
    gone true b p q r = refl
    gone false false p q r = refl
    gone false true p q r =
        absurd (clash (eqb d c) (eq-eqb d c (eqb-true d e q ∙ r)) p)

    kept : (a b : Bool) → eqb d c ≡ a → eqb d e ≡ b → eqb e c ≡ false →
        (b || (not a && holds d es)) ≡ (not a && (b || holds d es))
    kept false b p q r = refl
    kept true false p q r = refl
    kept true true p q r =
        absurd (clash (eqb e c) (eq-eqb e c (sym (eqb-true d e q) ∙ eqb-true d c p)) r)

-- the number of a thing is the last that is inserted
pub three-front : (f : ℕ → ℤ) (c : ℕ) (cs : List ℕ) → once cs ≡ true → holds c cs ≡ true →
    three f cs ≡ insert (f c) (three f (but c cs))
three-front f c [] o h = absurd (clash false h refl)
three-front f c (d ∷ ds) o h =
    let n : holds d ds ≡ false = not-true (holds d ds) (and-left (not (holds d ds)) (once ds) o) in
    let t : once ds ≡ true = and-right (not (holds d ds)) (once ds) o in
    elim (either (eqb d c)) [
      | inl q ↦ (let e : d ≡ c = eqb-true d c q in
          let g : but c ds ≡ ds = but-none c ds (subst (λ z. holds z ds ≡ false) e n) in
          rw (q, g) (ap (λ z. insert (f z) (three f ds)) e))
      | inr q ↦ rw q (ap (insert (f d)) (three-front f c ds t (later q))
          ∙ insert-swap (f d) (f c) (three f (but c ds)))
    ]
  where
    not-true : (b : Bool) → not b ≡ true → b ≡ false
    not-true true h = sym h
    not-true false h = refl

    later : eqb d c ≡ false → holds c ds ≡ true
    later q = elim (or-cases (eqb c d) (holds c ds) h) [
      | inl e ↦ absurd (clash (eqb d c) (eq-eqb d c (sym (eqb-true c d e))) q)
      | inr k ↦ k
    ]

-- one number is taken out
one-first : (x b s v : ℤ) → s ≤ℤ b → (x ≡ int_max b x → v ≡ int_max s (int_min b x)) →
    (x ≢ int_max b x → v ≡ int_max b x) → v ≡ b
one-first x b s v h e o = elim (order x b) [
  | inl l ↦ (o (λ q. absurd (omega (arith, ints, top l, q))) ∙ top l)
  | inr l ↦ (e (sym (self l)) ∙ rest l)
]
  where
    order : (x b : ℤ) → (x <ℤ b) ⊎ (b ≤ℤ x)
    order x b = grind (arith, ints)

    top : x <ℤ b → int_max b x ≡ b
    top l = grind (arith, ints)

    self : b ≤ℤ x → int_max b x ≡ x
    self l = grind (arith, ints)

    rest : b ≤ℤ x → int_max s (int_min b x) ≡ b
    rest l = grind (arith, ints)

pub one-out : (x v : ℤ) (t r : Three) → IsSorted r → t ≡ insert x r →
    IsButOne x t.best t.second v → v ≡ r.best
one-out x v t r h e k =
    let j : IsButOne x (insert x r).best (insert x r).second v =
    subst (λ (z : Three). IsButOne x z.best z.second v) e k in
    one-first x r.best r.second v h.upper j.equal j.other

-- two numbers are taken out
two-first : (x y b s t v : ℤ) → s ≤ℤ b → t ≤ℤ s →
    (int_max x y <ℤ int_max (int_max b y) x → v ≡ int_max (int_max b y) x) →
    (int_max (int_max b y) x ≤ℤ int_max x y →
    int_min x y <ℤ int_max (int_max s (int_min b y)) (int_min (int_max b y) x) →
    v ≡ int_max (int_max s (int_min b y)) (int_min (int_max b y) x)) →
    (int_max (int_max b y) x ≤ℤ int_max x y →
    int_max (int_max s (int_min b y)) (int_min (int_max b y) x) ≤ℤ int_min x y →
    v ≡ int_max (int_max t (int_min s (int_min b y)))
    (int_min (int_max s (int_min b y)) (int_min (int_max b y) x))) → v ≡ b
two-first x y b s t v h k p q r = grind (arith, ints)

pub two-out : (x y v : ℤ) (t r : Three) → IsSorted r → t ≡ insert x (insert y r) →
    IsButTwo x y t.best t.second t.third v → v ≡ r.best
two-out x y v t r h e k =
    let j : IsButTwo x y (insert x (insert y r)).best (insert x (insert y r)).second
    (insert x (insert y r)).third v =
    subst (λ (z : Three). IsButTwo x y z.best z.second z.third v) e k in
    two-first x y r.best r.second r.third v h.upper h.lower j.upper j.middle j.lower

-- One number is replaced by another. Where the new one is not below the third greatest, the two
-- that are left without the old one are known.
-- the two that are left are the two greatest of the others
left-are : (x y o b s t : ℤ) → s ≤ℤ b → t ≤ℤ s →
    (o ≡ int_max b o → (x ≡ int_max s (int_min b o))
    × (y ≡ int_max t (int_min s (int_min b o)))) →
    (o ≢ int_max b o → o ≡ int_max s (int_min b o) → (x ≡ int_max b o)
    × (y ≡ int_max t (int_min s (int_min b o)))) →
    (o ≢ int_max b o → o ≢ int_max s (int_min b o) → (x ≡ int_max b o)
    × (y ≡ int_max s (int_min b o))) → (x ≡ b) × (y ≡ s)
left-are x y o b s t h k p q r = (grind (arith, ints), grind (arith, ints))

third-above : (o b s t v : ℤ) → int_max t (int_min s (int_min b o)) ≤ℤ v → t ≤ℤ v
third-above o b s t v h = grind (arith, ints)

third-is : (b s t v : ℤ) → s ≤ℤ b → t ≤ℤ s → t ≤ℤ v →
    int_min s (int_min b v) ≡ int_max t (int_min s (int_min b v))
third-is b s t v h k l = grind (arith, ints)

pub replaced : (old v x y : ℤ) (t r : Three) → IsSorted r → t ≡ insert old r → t.third ≤ℤ v →
    IsLeft old t.best t.second t.third x y → ◌≡◌ {A = Three} (record {
      best = int_max x v;
      second = int_max y (int_min x v);
      third = int_min y (int_min x v);
    }) (insert v r)
replaced old v x y t r h e l k =
    let j : IsLeft old (insert old r).best (insert old r).second (insert old r).third x y =
    subst (λ (z : Three). IsLeft old z.best z.second z.third x y) e k in
    let m : (insert old r).third ≤ℤ v = subst (λ (z : Three). z.third ≤ℤ v) e l in
    let p = left-are x y old r.best r.second r.third h.upper h.lower j.one j.two j.none in
    let n : r.third ≤ℤ v = third-above old r.best r.second r.third v m in
    same-three _ _ _ _ _ _ (ap (λ z. int_max z v) p.0)
    (ap₂ (λ (z w : ℤ). int_max z (int_min w v)) p.1 p.0)
    (ap₂ (λ (z w : ℤ). int_min z (int_min w v)) p.1 p.0
    ∙ third-is r.best r.second r.third v h.upper h.lower n)

-- where both are below the third, nothing changes
below-third : (o v b s t : ℤ) → s ≤ℤ b → t ≤ℤ s → o <ℤ int_max t (int_min s (int_min b o)) →
    v <ℤ int_max t (int_min s (int_min b o)) → (int_max b o ≡ int_max b v)
    × (int_max s (int_min b o) ≡ int_max s (int_min b v))
    × (int_max t (int_min s (int_min b o)) ≡ int_max t (int_min s (int_min b v)))
below-third o v b s t h k l m = (grind (arith, ints), grind (arith, ints), grind (arith, ints))

pub stays : (old v : ℤ) (t r : Three) → IsSorted r → t ≡ insert old r → old <ℤ t.third →
    v <ℤ t.third → t ≡ insert v r
stays old v t r h e k l =
    let a : old <ℤ (insert old r).third = subst (λ (z : Three). old <ℤ z.third) e k in
    let b : v <ℤ (insert old r).third = subst (λ (z : Three). v <ℤ z.third) e l in
    let p = below-third old v r.best r.second r.third h.upper h.lower a b in
    e ∙ same-three _ _ _ _ _ _ p.0 p.1 p.2

-- the numbers of the other things alone count
pub three-same : (f g : ℕ → ℤ) (cs : List ℕ) → ((d : ℕ) → holds d cs ≡ true → f d ≡ g d) →
    three f cs ≡ three g cs
three-same f g [] h = refl
three-same f g (c ∷ cs) h =
    let e : f c ≡ g c = h c (or-left (eqb c c) (holds c cs) (eq-eqb c c refl)) in
    let ih : three f cs ≡ three g cs =
    three-same f g cs (λ d k. h d (or-right (eqb d c) (holds d cs) k)) in
    rw (e, ih) refl

-- one thing more at the end of the list
pub three-last : (f : ℕ → ℤ) (c : ℕ) (cs : List ℕ) →
    three f (cs ++ c ∷ []) ≡ insert (f c) (three f cs)
three-last f c [] = refl
three-last f c (d ∷ ds) =
    ap (insert (f d)) (three-last f c ds) ∙ insert-swap (f d) (f c) (three f ds)

-- the choice of the greatest but for two
pub two-middle : (x y b s t h l : ℤ) → h ≡ int_max x y → l ≡ int_min x y →
    int_lt h b ≡ false → int_lt l s ≡ true → IsButTwo x y b s t s
two-middle x y b s t h l p q u v = record {
  upper = λ a. absurd (clash-up a);
  middle = λ a k. refl;
  lower = λ a k. absurd (clash-low k);
}
  where
    clash-up : int_max x y <ℤ b → ⊥
    clash-up a = absurd (grind (arith, ints))

    clash-low : s ≤ℤ int_min x y → ⊥
    clash-low a = absurd (grind (arith, ints))

pub two-lower : (x y b s t h l : ℤ) → h ≡ int_max x y → l ≡ int_min x y →
    int_lt h b ≡ false → int_lt l s ≡ false → IsButTwo x y b s t t
two-lower x y b s t h l p q u v = record {
  upper = λ a. absurd (clash-up a);
  middle = λ a k. absurd (clash-mid k);
  lower = λ a k. refl;
}
  where
    clash-up : int_max x y <ℤ b → ⊥
    clash-up a = absurd (grind (arith, ints))

    clash-mid : int_min x y <ℤ s → ⊥
    clash-mid a = absurd (grind (arith, ints))

-- one thing more of a list is looked at
pub three-next : (f : ℕ → ℤ) (cs : List ℕ) (i : ℕ) → i < length cs → (t : Three) →
    t ≡ three f (take i cs) → insert (f (get_or cs i 0)) t ≡ three f (take (i + 1) cs)
three-next f cs i h t e =
    ap (insert (f (get_or cs i 0))) e ∙ sym (three-last f (get_or cs i 0) (take i cs))
    ∙ sym (ap (three f) (take-suc cs i 0 h)) ∙ ap (λ j. three f (take j cs)) (one i)
  where
    one : (i : ℕ) → suc i ≡ i + 1
    one i = omega arith
