-- All chains once an order was taken out of its own, or put first in one.
use Rattle.std.proofs.Common.{ℕ, ◌<◌, ◌≡◌, ◌≢◌, Bool, true, false, cond, ◌&&◌, ◌||◌, List, [], ◌∷◌}
use Rattle.std.proofs.Common.{◌++◌, eqb, Option, Some, None, refl, sym, ap, ◌∙◌, subst, inl, inr}
use Rattle.std.proofs.Common.{eq-eqb, eqb-true, ne_eqb, false-eqb}
use Rattle.std.specs.List.{slice_get}
use Rattle.list_laws.specs.Sets.{holds}
use Rattle.list_laws.proofs.Tests.{clash, either, or-right}
use Rattle.list_laws.proofs.Different.{holds-append}
use Rattle.list_laws.specs.Without.{without}
use Rattle.list_laws.proofs.Different.{without-none}
use Rattle.index_links.specs.Lists.{Apart}
use Rattle.index_links.specs.Links.{last_or, look, is_none, is_some, Chain}
use Rattle.index_links.proofs.LinkedLists.{holds-rest, Around, around, apart-parts}
use Rattle.index_links.proofs.LinkedLists.{without-around, chain-before, chain-next}
use Rattle.index_links.proofs.LinkedLists.{first-holds, last-holds, begin, chain-first}
use Rattle.index_links.proofs.LinkedLists.{chain-stays, chain-without, chain-with}

-- whether a place that may be none is this number
pub is_some-yes : (m : Option ℕ) (z : ℕ) → m ≡ Some z → is_some m z ≡ true
is_some-yes m z e = subst (λ n. is_some n z ≡ true) (sym e) (eq-eqb z z refl)

pub is_some-no : (m : Option ℕ) (z : ℕ) → m ≢ Some z → is_some m z ≡ false
is_some-no None z h = refl
is_some-no (Some x) z h = ne_eqb z x (λ e. h (ap (λ y. Some y) (sym e)))

last-none : (x : ℕ) (xs : List ℕ) → is_none (last_or (Some x) xs) ≡ false
last-none x [] = refl
last-none x (y ∷ xs) = last-none y xs

module _ (n : ℕ) (firsts nexts previous : List (Option ℕ)) (lists : ℕ → List ℕ)
    (chained : (s : ℕ) → s < n → Chain nexts previous None (look firsts s) (lists s))
    (apart : (s : ℕ) → s < n → Apart (lists s))
    (one : (s t z : ℕ) → s < n → t < n → holds z (lists s) ≡ true → holds z (lists t) ≡ true →
    s ≡ t)
    (o s : ℕ) where
  -- an order taken out of the list of slab s
  module _ (low : s < n) (there : holds o (lists s) ≡ true) where
    parts : Around o (lists s)
    parts = around o (lists s) there

    split : Chain nexts previous None (look firsts s) (parts.front ++ o ∷ parts.back)
    split = subst (λ xs. Chain nexts previous None (look firsts s) xs) parts.is (chained s low)

    once : Apart (parts.front ++ o ∷ parts.back)
    once = subst (λ xs. Apart xs) parts.is (apart s low)

    before-is : look previous o ≡ last_or None parts.front
    before-is = chain-before nexts previous None (look firsts s) parts.front parts.back o split

    next-is : look nexts o ≡ slice_get parts.back 0
    next-is = chain-next nexts previous None (look firsts s) parts.front parts.back o split

    front-in : (z : ℕ) → holds z parts.front ≡ true → holds z (lists s) ≡ true
    front-in z h =
        subst (λ xs. holds z xs ≡ true) (sym parts.is)
        (holds-append z parts.front (o ∷ parts.back) ∙ or-left-by h)
      where
        or-left-by : holds z parts.front ≡ true →
            (holds z parts.front || holds z (o ∷ parts.back)) ≡ true
        or-left-by h = rw h

    back-in : (z : ℕ) → holds z (o ∷ parts.back) ≡ true → holds z (lists s) ≡ true
    back-in z h =
        subst (λ xs. holds z xs ≡ true) (sym parts.is)
        (holds-append z parts.front (o ∷ parts.back)
        ∙ or-right (holds z parts.front) (holds z (o ∷ parts.back)) h)

    last-in : (xs : List ℕ) (z : ℕ) → last_or None xs ≡ Some z → holds z xs ≡ true
    last-in [] z e = absurd (cc)
    last-in (x ∷ xs) z e = last-holds None x xs z e

    before-in : (z : ℕ) → look previous o ≡ Some z → holds z parts.front ≡ true
    before-in z e = last-in parts.front z (sym before-is ∙ e)

    next-in : (z : ℕ) → look nexts o ≡ Some z → holds z parts.back ≡ true
    next-in z e = first-holds parts.back z (sym next-is ∙ e)

    -- the neighbours of the order are in its list
    pub before-there : (z : ℕ) → look previous o ≡ Some z → holds z (lists s) ≡ true
    before-there z e = front-in z (before-in z e)

    pub next-there : (z : ℕ) → look nexts o ≡ Some z → holds z (lists s) ≡ true
    next-there z e = back-in z (holds-rest z o parts.back (next-in z e))

    module _ (firsts' nexts' previous' : List (Option ℕ))
        (new-first : (t : ℕ) → look firsts' t
        ≡ cond (is_none (look previous o) && eqb t s) (look nexts o) (look firsts t))
        (new-next : (z : ℕ) → look nexts' z
        ≡ cond (is_some (look previous o) z) (look nexts o) (look nexts z))
        (new-previous : (z : ℕ) → look previous' z
        ≡ cond (is_some (look nexts o) z) (look previous o) (look previous z)) where
      leaves-next : (z : ℕ) → look previous o ≢ Some z → look nexts' z ≡ look nexts z
      leaves-next z h = new-next z ∙ rw (is_some-no (look previous o) z h)

      leaves-previous : (z : ℕ) → look nexts o ≢ Some z → look previous' z ≡ look previous z
      leaves-previous z h = new-previous z ∙ rw (is_some-no (look nexts o) z h)

      -- no number of the front is behind
      front-not : (z : ℕ) → holds z parts.front ≡ true → holds z parts.back ≡ true → ⊥
      front-not z f b =
          clash (holds z (o ∷ parts.back)) (holds-rest z o parts.back b)
          (apart-parts parts.front (o ∷ parts.back) once z f)

      begins : (xs : List ℕ) → look previous o ≡ last_or None xs →
          look firsts' s ≡ begin xs (look nexts o) (look firsts s)
      begins [] e = new-first s ∙ rw (e, eq-eqb s s refl)
      begins (x ∷ xs) e = new-first s ∙ rw (e, last-none x xs)

      own : Chain nexts' previous' None (look firsts' s) (parts.front ++ parts.back)
      own =
          subst (λ at. Chain nexts' previous' None at (parts.front ++ parts.back))
          (sym (begins parts.front before-is))
          (chain-without nexts previous nexts' previous' o None (look firsts s) parts.front
          parts.back once
          (λ z h k. leaves-next z (λ e. k (sym before-is ∙ e)))
          (λ z h. leaves-next z (λ e. front-not z (before-in z e) h))
          (λ z e. new-next z ∙ rw (is_some-yes (look previous o) z (before-is ∙ e)))
          (λ z h. leaves-previous z (λ e. front-not z h (next-in z e)))
          (λ z h k. leaves-previous z k)
          (λ z e. new-previous z ∙ rw (is_some-yes (look nexts o) z e) before-is) split)

      -- the list of another slab has no number of this one
      apart-from : (t z : ℕ) → t < n → t ≢ s → holds z (lists t) ≡ true →
          holds z (lists s) ≡ true → ⊥
      apart-from t z l k h i = k (one t s z l low h i)

      other-lacks : (t : ℕ) → t < n → t ≢ s → holds o (lists t) ≡ false
      other-lacks t l k = elim (either (holds o (lists t))) [
        | inl h ↦ absurd (apart-from t o l k h there)
        | inr f ↦ f
      ]

      other : (t : ℕ) → t < n → t ≢ s → Chain nexts' previous' None (look firsts' t) (lists t)
      other t l k =
          subst (λ at. Chain nexts' previous' None at (lists t))
          (sym (new-first t ∙ rw (ne_eqb t s k) (no-and (is_none (look previous o)))))
          (chain-stays nexts previous nexts' previous' None (look firsts t) (lists t)
          (λ z h. (
            leaves-next z (λ e. apart-from t z l k h (before-there z e)),
            leaves-previous z (λ e. apart-from t z l k h
                (next-there z e)),
          )) (chained t l))
        where
          no-and : (b : Bool) → cond (b && false) (look nexts o) (look firsts t) ≡ look firsts t
          no-and true = refl
          no-and false = refl

      pub chains-without : (t : ℕ) → t < n →
          Chain nexts' previous' None (look firsts' t) (without o (lists t))
      chains-without t l = elim (either (eqb t s)) [
        | inl e ↦ subst (λ r. Chain nexts' previous' None (look firsts' r) (without o (lists r)))
            (sym (eqb-true t s e))
            (subst (λ xs. Chain nexts' previous' None (look firsts' s) xs)
            (sym (ap (without o) parts.is ∙ without-around o parts.front parts.back once)) own)
        | inr f ↦ (let k : t ≢ s = false-eqb t s (sym f) in
            subst (λ xs. Chain nexts' previous' None (look firsts' t) xs)
            (sym (without-none o (lists t) (other-lacks t l k))) (other t l k))
      ]

  -- an order, which is in no list, put first in that of slab s
  module _ (low : s < n) (fresh : (t : ℕ) → t < n → holds o (lists t) ≡ false)
      (firsts' nexts' previous' : List (Option ℕ))
      (new-first : (t : ℕ) → look firsts' t ≡ cond (eqb t s) (Some o) (look firsts t))
      (new-next : (z : ℕ) → look nexts' z ≡ cond (eqb z o) (look firsts s) (look nexts z))
      (new-previous : (z : ℕ) → look previous' z
      ≡ cond (eqb z o) None (cond (is_some (look firsts s) z) (Some o) (look previous z))) where
    first-in : (z : ℕ) → look firsts s ≡ Some z → holds z (lists s) ≡ true
    first-in z e =
        first-holds (lists s) z
        (sym (chain-first nexts previous None (look firsts s) (lists s) (chained s low)) ∙ e)

    not-it : (t z : ℕ) → t < n → holds z (lists t) ≡ true → eqb z o ≡ false
    not-it t z l h = ne_eqb z o (λ e. clash (holds z (lists t)) h
        (subst (λ w. holds w (lists t) ≡ false) (sym e) (fresh t l)))

    keeps-next : (t z : ℕ) → t < n → holds z (lists t) ≡ true → look nexts' z ≡ look nexts z
    keeps-next t z l h = new-next z ∙ rw (not-it t z l h)

    keeps-previous : (t z : ℕ) → t < n → holds z (lists t) ≡ true → look firsts s ≢ Some z →
        look previous' z ≡ look previous z
    keeps-previous t z l h k =
        new-previous z ∙ rw (not-it t z l h, is_some-no (look firsts s) z k)

    own-with : Chain nexts' previous' None (Some o) (o ∷ lists s)
    own-with =
        chain-with nexts previous nexts' previous' o (look firsts s) (lists s) (apart s low)
        (new-next o ∙ rw (eq-eqb o o refl)) (new-previous o ∙ rw (eq-eqb o o refl))
        (λ z h. keeps-next s z low h) (λ z h k. keeps-previous s z low h k)
        (λ z e. new-previous z
        ∙ rw (not-it s z low (first-in z e), is_some-yes (look firsts s) z e)) (chained s low)

    pub chains-with : (t : ℕ) → t < n →
        Chain nexts' previous' None (look firsts' t) (cond (eqb t s) (o ∷ lists s) (lists t))
    chains-with t l = elim (either (eqb t s)) [
      | inl e ↦ (let same : look firsts' t ≡ Some o = new-first t ∙ rw e refl in
          rw e (subst (λ at. Chain nexts' previous' None at (o ∷ lists s)) (sym same) own-with))
      | inr f ↦ (let k : t ≢ s = false-eqb t s (sym f) in
          let same : look firsts' t ≡ look firsts t = new-first t ∙ rw f refl in
          let stays : Chain nexts' previous' None (look firsts t) (lists t) =
          chain-stays nexts previous nexts' previous' None (look firsts t) (lists t)
          (λ z h. (
            keeps-next t z l h,
            keeps-previous t z l h
                (λ e. k (one t s z l low h (first-in z e))),
          )) (chained t l) in
          rw f (subst (λ at. Chain nexts' previous' None at (lists t)) (sym same) stays))
    ]
