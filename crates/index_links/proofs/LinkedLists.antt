-- Chains of numbers: what a chain tells of its list, and chains once a number was taken out or put
-- first. The links are functions of the number, so a change of a link is an equation for each
-- number.
use Rattle.std.proofs.Common.{ℕ, zero, suc, ◌≤◌, ◌≡◌, ◌≢◌, Bool, true, false, ◌||◌, List, [], ◌∷◌}
use Rattle.std.proofs.Common.{◌++◌, length, eqb, Option, Some, None, refl, sym, ap, ◌∙◌, arith}
use Rattle.std.proofs.Common.{subst, inl, inr, eq-eqb, eqb-true}
use Rattle.std.specs.List.{slice_get}
use Rattle.list_laws.specs.Sets.{holds}
use Rattle.list_laws.proofs.Tests.{clash, either, or-cases, or-left, or-right}
use Rattle.list_laws.proofs.Different.{holds-append, without-none}
use Rattle.list_laws.specs.Without.{without}
use Rattle.index_links.specs.Lists.{Apart, after}
use Rattle.index_links.specs.Links.{last_or, look, Chain, walk}

-- Lists without repeats.

pub holds-first : (x : ℕ) (xs : List ℕ) → holds x (x ∷ xs) ≡ true
holds-first x xs = or-left (eqb x x) (holds x xs) (eq-eqb x x refl)

pub holds-rest : (z x : ℕ) (xs : List ℕ) → holds z xs ≡ true → holds z (x ∷ xs) ≡ true
holds-rest z x xs h = or-right (eqb z x) (holds z xs) h

pub lacks-append : (x : ℕ) (xs ys : List ℕ) → holds x (xs ++ ys) ≡ false →
    (holds x xs ≡ false) × (holds x ys ≡ false)
lacks-append x xs ys h = neither (holds x xs) (holds x ys) (sym (holds-append x xs ys) ∙ h)
  where
    neither : (a b : Bool) → (a || b) ≡ false → (a ≡ false) × (b ≡ false)
    neither true b e = absurd (cc)
    neither false b e = (refl, e)

-- no number of the front stands behind it
pub apart-parts : (xs ys : List ℕ) → Apart (xs ++ ys) → (z : ℕ) → holds z xs ≡ true →
    holds z ys ≡ false
apart-parts [] ys a z h = absurd (cc)
apart-parts (x ∷ xs) ys a z h = elim (or-cases (eqb z x) (holds z xs) h) [
  | inl e ↦ subst (λ w. holds w ys ≡ false) (sym (eqb-true z x e)) (lacks-append x xs ys a.0).1
  | inr i ↦ apart-parts xs ys a.1 z i
]

pub apart-back : (xs ys : List ℕ) → Apart (xs ++ ys) → Apart ys
apart-back [] ys a = a
apart-back (x ∷ xs) ys a = apart-back xs ys a.1

-- a list around one of its numbers
pub record Around (o : ℕ) (xs : List ℕ) : Type 0 where
  pub front : List ℕ
  pub back : List ℕ
  pub is : xs ≡ front ++ o ∷ back

pub around : (o : ℕ) (xs : List ℕ) → holds o xs ≡ true → Around o xs
around o [] h = absurd (cc)
around o (x ∷ xs) h = elim (or-cases (eqb o x) (holds o xs) h) [
  | inl e ↦ record { front = []; back = xs; is = ap (λ y. y ∷ xs) (sym (eqb-true o x e)) }
  | inr i ↦ (let r = around o xs i in
      record { front = x ∷ r.front; back = r.back; is = ap (λ ys. x ∷ ys) r.is })
]

pub without-around : (o : ℕ) (xs ys : List ℕ) → Apart (xs ++ o ∷ ys) →
    without o (xs ++ o ∷ ys) ≡ xs ++ ys
without-around o [] ys a = rw (eq-eqb o o refl) (without-none o ys a.0)
without-around o (x ∷ xs) ys a = elim (either (eqb o x)) [
  | inl e ↦ absurd (clash (holds x (xs ++ o ∷ ys)) (there (eqb-true o x e)) a.0)
  | inr f ↦ rw f (ap (λ zs. x ∷ zs) (without-around o xs ys a.1))
]
  where
    there : o ≡ x → holds x (xs ++ o ∷ ys) ≡ true
    there e =
        holds-append x xs (o ∷ ys)
        ∙ or-right (holds x xs) (holds x (o ∷ ys))
        (subst (λ w. holds x (w ∷ ys) ≡ true) (sym e) (holds-first x ys))

-- A chain and its list.

pub walk-is : (nexts previous : List (Option ℕ)) (before at : Option ℕ) (xs : List ℕ) (n : ℕ) →
    length xs ≤ n → Chain nexts previous before at xs → walk nexts at n ≡ xs
walk-is nexts previous before at [] n l c = ap (λ a. walk nexts a n) c
walk-is nexts previous before at (x ∷ xs) zero l c = absurd (omega arith)
walk-is nexts previous before at (x ∷ xs) (suc n) l c =
    ap (λ a. walk nexts a (suc n)) c.0
    ∙ ap (λ ys. x ∷ ys) (walk-is nexts previous (Some x) (look nexts x) xs n (omega arith) c.2)

pub chain-first : (nexts previous : List (Option ℕ)) (before at : Option ℕ) (xs : List ℕ) →
    Chain nexts previous before at xs → at ≡ slice_get xs 0
chain-first nexts previous before at [] c = c
chain-first nexts previous before at (x ∷ xs) c = c.0

pub chain-after : (nexts previous : List (Option ℕ)) (before at : Option ℕ) (xs : List ℕ)
    (o : ℕ) → holds o xs ≡ true → Chain nexts previous before at xs → look nexts o ≡ after o xs
chain-after nexts previous before at [] o h c = absurd (cc)
chain-after nexts previous before at (x ∷ xs) o h c = elim (either (eqb o x)) [
  | inl e ↦ rw e (subst (λ w. look nexts w ≡ slice_get xs 0) (sym (eqb-true o x e))
      (chain-first nexts previous (Some x) (look nexts x) xs c.2))
  | inr f ↦ rw f (chain-after nexts previous (Some x) (look nexts x) xs o (rw f at h) c.2)
]

-- where a chain begins without a number
abbrev pub begin : List ℕ → Option ℕ → Option ℕ → Option ℕ
begin [] next at = next
begin (x ∷ xs) next at = at

pub chain-before : (nexts previous : List (Option ℕ)) (before at : Option ℕ) (xs ys : List ℕ)
    (o : ℕ) → Chain nexts previous before at (xs ++ o ∷ ys) → look previous o ≡ last_or before xs
chain-before nexts previous before at [] ys o c = c.1
chain-before nexts previous before at (x ∷ xs) ys o c =
    chain-before nexts previous (Some x) (look nexts x) xs ys o c.2

pub chain-next : (nexts previous : List (Option ℕ)) (before at : Option ℕ) (xs ys : List ℕ)
    (o : ℕ) → Chain nexts previous before at (xs ++ o ∷ ys) → look nexts o ≡ slice_get ys 0
chain-next nexts previous before at [] ys o c =
    chain-first nexts previous (Some o) (look nexts o) ys c.2
chain-next nexts previous before at (x ∷ xs) ys o c =
    chain-next nexts previous (Some x) (look nexts x) xs ys o c.2

pub first-holds : (xs : List ℕ) (q : ℕ) → slice_get xs 0 ≡ Some q → holds q xs ≡ true
first-holds [] q e = absurd (cc)
first-holds (x ∷ xs) q e =
    let same : x ≡ q = cc in subst (λ w. holds w (x ∷ xs) ≡ true) same (holds-first x xs)

pub last-holds : (before : Option ℕ) (x : ℕ) (xs : List ℕ) (p : ℕ) →
    last_or before (x ∷ xs) ≡ Some p → holds p (x ∷ xs) ≡ true
last-holds before x [] p e =
    let same : x ≡ p = cc in subst (λ w. holds w (x ∷ []) ≡ true) same (holds-first x [])
last-holds before x (y ∷ xs) p e = holds-rest p x (y ∷ xs) (last-holds (Some x) y xs p e)

-- Chains under other links.

-- a chain whose links are as they were
pub chain-stays : (nexts previous nexts' previous' : List (Option ℕ)) (before at : Option ℕ)
    (xs : List ℕ) →
    ((z : ℕ) → holds z xs ≡ true →
    (look nexts' z ≡ look nexts z) × (look previous' z ≡ look previous z)) →
    Chain nexts previous before at xs → Chain nexts' previous' before at xs
chain-stays nexts previous nexts' previous' before at [] same c = c
chain-stays nexts previous nexts' previous' before at (x ∷ xs) same c =
    let here = same x (holds-first x xs) in (
      c.0,
      here.1 ∙ c.1,
      subst (λ w. Chain nexts' previous' (Some x) w xs) (sym here.0)
          (chain-stays nexts previous nexts' previous' (Some x) (look nexts x) xs
          (λ z h. same z (holds-rest z x xs h)) c.2),
    )

-- a chain with another number before it
pub chain-behind : (nexts previous nexts' previous' : List (Option ℕ))
    (before other at : Option ℕ) (xs : List ℕ) → Apart xs →
    ((z : ℕ) → holds z xs ≡ true → look nexts' z ≡ look nexts z) →
    ((z : ℕ) → holds z xs ≡ true → at ≢ Some z → look previous' z ≡ look previous z) →
    ((z : ℕ) → at ≡ Some z → look previous' z ≡ other) →
    Chain nexts previous before at xs → Chain nexts' previous' other at xs
chain-behind nexts previous nexts' previous' before other at [] a n p first c = c
chain-behind nexts previous nexts' previous' before other at (x ∷ xs) a n p first c = (
  c.0,
  first x c.0,
  subst (λ w. Chain nexts' previous' (Some x) w xs)
      (sym (n x (holds-first x xs)))
      (chain-stays nexts previous nexts' previous' (Some x) (look nexts x) xs
      (λ z h. (n z (holds-rest z x xs h), p z (holds-rest z x xs h) (not-first z h))) c.2),
)
  where
    not-first : (z : ℕ) → holds z xs ≡ true → at ≢ Some z
    not-first z h e =
        let same : x ≡ z = cc in
        clash (holds z xs) h (subst (λ w. holds w xs ≡ false) same a.0)

-- a number taken out
pub chain-without : (nexts previous nexts' previous' : List (Option ℕ)) (o : ℕ)
    (before at : Option ℕ) (xs ys : List ℕ) → Apart (xs ++ o ∷ ys) →
    ((z : ℕ) → holds z xs ≡ true → last_or None xs ≢ Some z → look nexts' z ≡ look nexts z) →
    ((z : ℕ) → holds z ys ≡ true → look nexts' z ≡ look nexts z) →
    ((z : ℕ) → last_or None xs ≡ Some z → look nexts' z ≡ look nexts o) →
    ((z : ℕ) → holds z xs ≡ true → look previous' z ≡ look previous z) →
    ((z : ℕ) → holds z ys ≡ true → look nexts o ≢ Some z →
    look previous' z ≡ look previous z) →
    ((z : ℕ) → look nexts o ≡ Some z → look previous' z ≡ last_or before xs) →
    Chain nexts previous before at (xs ++ o ∷ ys) →
    Chain nexts' previous' before (begin xs (look nexts o) at) (xs ++ ys)
chain-without nexts previous nexts' previous' o before at [] ys a n m last p q first c =
    chain-behind nexts previous nexts' previous' (Some o) before (look nexts o) ys
    a.1 m q first c.2
chain-without nexts previous nexts' previous' o before at (x ∷ []) ys a n m last p q first c = (
  c.0,
  p x (holds-first x []) ∙ c.1,
  subst (λ w. Chain nexts' previous' (Some x) w ys)
      (sym (last x refl))
      (chain-behind nexts previous nexts' previous' (Some o) (Some x) (look nexts o) ys a.1.1 m q
      first c.2.2),
)
chain-without nexts previous nexts' previous' o before at (x ∷ y ∷ xs) ys a n m last p q first c = (
  c.0,
  p x (holds-first x (y ∷ xs)) ∙ c.1,
  subst (λ w. Chain nexts' previous' (Some x) w ((y ∷ xs) ++ ys))
      (sym (n x (holds-first x (y ∷ xs)) not-last))
      (chain-without nexts previous nexts' previous' o (Some x) (look nexts x) (y ∷ xs) ys a.1
      (λ z h k. n z (holds-rest z x (y ∷ xs) h) k) m last
      (λ z h. p z (holds-rest z x (y ∷ xs) h)) q first c.2),
)
  where
    not-last : last_or None (x ∷ y ∷ xs) ≢ Some x
    not-last e =
        clash (holds x (y ∷ xs)) (last-holds (Some x) y xs x e)
        (lacks-append x (y ∷ xs) (o ∷ ys) a.0).0

-- a number put first
pub chain-with : (nexts previous nexts' previous' : List (Option ℕ)) (o : ℕ) (at : Option ℕ)
    (xs : List ℕ) → Apart xs → look nexts' o ≡ at → look previous' o ≡ None →
    ((z : ℕ) → holds z xs ≡ true → look nexts' z ≡ look nexts z) →
    ((z : ℕ) → holds z xs ≡ true → at ≢ Some z → look previous' z ≡ look previous z) →
    ((z : ℕ) → at ≡ Some z → look previous' z ≡ Some o) →
    Chain nexts previous None at xs → Chain nexts' previous' None (Some o) (o ∷ xs)
chain-with nexts previous nexts' previous' o at xs a next before n p first c = (
  refl,
  before,
  subst (λ w. Chain nexts' previous' (Some o) w xs) (sym next)
      (chain-behind nexts previous nexts' previous' None (Some o) at xs a n p first c),
)
