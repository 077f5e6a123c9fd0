-- A node put among others: what then stands in the list, that it still stands once, that labels
-- still rise, and where the links to next siblings lead.
use Rattle.std.proofs.Common.{ℕ, zero, suc, ◌<◌, ◌≤◌, ◌≡◌, ◌≢◌, ◌⊎◌, Bool, true, false, ◌||◌}
use Rattle.std.proofs.Common.{List, []}
use Rattle.std.proofs.Common.{◌∷◌, ◌++◌, length, eqb, ltb, Option, Some, None, refl, sym, ap, ◌∙◌}
use Rattle.std.proofs.Common.{arith, subst, inl, inr, eq-eqb, eqb-true, ne_eqb, false-eqb}
use Rattle.std.proofs.Common.{get_or, ltb-true, lt-ltb, le-ltb}
use Rattle.std.proofs.lemmas.Bool.Decides.{nat_tests}
use Rattle.std.specs.List.{slice_get}
use Rattle.list_laws.specs.Sets.{holds}
use Rattle.list_laws.proofs.Tests.{clash, either, or-cases, or-left, or-right, or-swap}
use Rattle.list_laws.proofs.Different.{holds-append}
use Rattle.index_links.specs.Lists.{Apart, after}
use Rattle.index_links.specs.Links.{last_or, look, walk}
use Rattle.index_links.specs.Forest.{Forest, RiseByLabel, label_of, lesser, not_lesser}
use Rattle.index_links.specs.Nodes.{Leads, last_of}
use Rattle.index_links.proofs.LinkedLists.{begin, holds-first, holds-rest, last-holds}

-- What stands in the list.

pub holds-with : (z n : ℕ) (xs ys : List ℕ) →
    holds z (xs ++ n ∷ ys) ≡ (eqb z n || holds z (xs ++ ys))
holds-with z n [] ys = refl
holds-with z n (x ∷ xs) ys =
    ap (λ b. eqb z x || b) (holds-with z n xs ys) ∙ or-swap (eqb z x) (eqb z n) (holds z (xs ++ ys))

pub with-cases : (z n : ℕ) (xs ys : List ℕ) → holds z (xs ++ n ∷ ys) ≡ true →
    (z ≡ n) ⊎ (holds z (xs ++ ys) ≡ true)
with-cases z n xs ys h = elim (or-cases (eqb z n) (holds z (xs ++ ys))
    (sym (holds-with z n xs ys) ∙ h)) [ inl e ↦ inl (eqb-true z n e) | inr i ↦ inr i ]

pub apart-with : (n : ℕ) (xs ys : List ℕ) → holds n (xs ++ ys) ≡ false → Apart (xs ++ ys) →
    Apart (xs ++ n ∷ ys)
apart-with n [] ys new a = (new, a)
apart-with n (x ∷ xs) ys new a = (
  elim (either (holds x (xs ++ n ∷ ys))) [
    | inr f ↦ f
    | inl h ↦ elim (with-cases x n xs ys h) [
      | inl e ↦ absurd (clash (holds n (x ∷ xs ++ ys))
          (subst (λ w. holds w (x ∷ xs ++ ys) ≡ true) e (holds-first x (xs ++ ys))) new)
      | inr i ↦ absurd (clash (holds x (xs ++ ys)) i a.0)
    ]
  ],
  apart-with n xs ys (not-behind (eqb n x) (holds n (xs ++ ys)) new) a.1,
)
  where
    not-behind : (a b : Bool) → (a || b) ≡ false → b ≡ false
    not-behind true b e = absurd (cc)
    not-behind false b e = e

-- Nodes of lesser labels in front.

pub lesser-parts : (labels : List ℕ) (label : ℕ) (xs : List ℕ) →
    lesser labels label xs ++ not_lesser labels label xs ≡ xs
lesser-parts labels label [] = refl
lesser-parts labels label (x ∷ xs) = elim (either (ltb (get_or labels x 0) label)) [
  | inl e ↦ rw e (ap (λ ys. x ∷ ys) (lesser-parts labels label xs))
  | inr f ↦ rw f refl
]

module _ (f : Forest) (label : ℕ) where
  pub lesser-is : (xs : List ℕ) (z : ℕ) → holds z (lesser f.labels label xs) ≡ true →
      label_of f z < label
  lesser-is [] z h = absurd (cc)
  lesser-is (x ∷ xs) z h = elim (either (ltb (label_of f x) label)) [
    | inl e ↦ elim (or-cases (eqb z x) (holds z (lesser f.labels label xs)) (rw e at h)) [
      | inl same ↦ subst (λ w. label_of f w < label) (sym (eqb-true z x same))
          (ltb-true (label_of f x) label e)
      | inr i ↦ lesser-is xs z i
    ]
    | inr g ↦ absurd (let no : false ≡ true = rw g at h in cc)
  ]

  pub not-lesser-is : (xs : List ℕ) (z : ℕ) → RiseByLabel f xs →
      ((x : ℕ) → holds x xs ≡ true → label_of f x ≢ label) →
      holds z (not_lesser f.labels label xs) ≡ true → label < label_of f z
  not-lesser-is [] z rise free h = absurd (cc)
  not-lesser-is (x ∷ xs) z rise free h = elim (either (ltb (label_of f x) label)) [
    | inl e ↦ not-lesser-is xs z rise.1 (λ y i. free y (holds-rest y x xs i)) (rw e at h)
    | inr g ↦ (
        let here : label < label_of f x = above (free x (holds-first x xs)) g in
        elim (or-cases (eqb z x) (holds z xs) (rw g at h)) [
          | inl same ↦ subst (λ w. label < label_of f w) (sym (eqb-true z x same)) here
          | inr i ↦ omega (arith, rise.0 z i, here)
        ])
  ]
    where
      above : label_of f x ≢ label → ltb (label_of f x) label ≡ false → label < label_of f x
      above other g = grind (arith, nat_tests)

  -- the front of lesser labels, where it is known
  pub lesser-front : (xs ys : List ℕ) → ((z : ℕ) → holds z xs ≡ true → label_of f z < label) →
      ((y : ℕ) → slice_get ys 0 ≡ Some y → label ≤ label_of f y) →
      lesser f.labels label (xs ++ ys) ≡ xs
  lesser-front [] [] less more = refl
  lesser-front [] (y ∷ ys) less more =
      let no : ltb (label_of f y) label ≡ false = le-ltb (label_of f y) label (more y refl) in
      rw no refl
  lesser-front (x ∷ xs) ys less more =
      let yes : ltb (label_of f x) label ≡ true =
      lt-ltb (label_of f x) label (less x (holds-first x xs)) in
      rw yes (ap (λ zs. x ∷ zs)
      (lesser-front xs ys (λ z h. less z (holds-rest z x xs h)) more))

-- Labels that rise.

pub rise-agree : (f more : Forest) (xs : List ℕ) →
    ((z : ℕ) → holds z xs ≡ true → label_of more z ≡ label_of f z) → RiseByLabel f xs →
    RiseByLabel more xs
rise-agree f more [] same rise = tt
rise-agree f more (x ∷ xs) same rise = (
  λ y h. omega (arith, rise.0 y h, same x (holds-first x xs), same y (holds-rest y x xs h)),
  rise-agree f more xs (λ z h. same z (holds-rest z x xs h)) rise.1,
)

pub rise-with : (f : Forest) (n : ℕ) (xs ys : List ℕ) →
    ((z : ℕ) → holds z xs ≡ true → label_of f z < label_of f n) →
    ((z : ℕ) → holds z ys ≡ true → label_of f n < label_of f z) → RiseByLabel f (xs ++ ys) →
    RiseByLabel f (xs ++ n ∷ ys)
rise-with f n [] ys less more rise = (more, rise)
rise-with f n (x ∷ xs) ys less more rise = (
  λ y h. elim (with-cases y n xs ys h) [
    | inl e ↦ subst (λ w. label_of f x < label_of f w) (sym e) (less x (holds-first x xs))
    | inr i ↦ rise.0 y i
  ],
  rise-with f n xs ys (λ z h. less z (holds-rest z x xs h)) more rise.1,
)

-- Where links lead.

pub leads-walk : (nexts : List (Option ℕ)) (at : Option ℕ) (xs : List ℕ) (n : ℕ) →
    length xs ≤ n → Leads nexts at xs → walk nexts at n ≡ xs
leads-walk nexts at [] n l c = ap (λ a. walk nexts a n) c
leads-walk nexts at (x ∷ xs) zero l c = absurd (omega arith)
leads-walk nexts at (x ∷ xs) (suc n) l c =
    ap (λ a. walk nexts a (suc n)) c.0
    ∙ ap (λ ys. x ∷ ys) (leads-walk nexts (look nexts x) xs n (omega arith) c.1)

pub leads-first : (nexts : List (Option ℕ)) (at : Option ℕ) (xs : List ℕ) → Leads nexts at xs →
    at ≡ slice_get xs 0
leads-first nexts at [] c = c
leads-first nexts at (x ∷ xs) c = c.0

pub leads-after : (nexts : List (Option ℕ)) (at : Option ℕ) (xs : List ℕ) (o : ℕ) →
    holds o xs ≡ true → Leads nexts at xs → look nexts o ≡ after o xs
leads-after nexts at [] o h c = absurd (cc)
leads-after nexts at (x ∷ xs) o h c = elim (either (eqb o x)) [
  | inl e ↦ rw e (subst (λ w. look nexts w ≡ slice_get xs 0) (sym (eqb-true o x e))
      (leads-first nexts (look nexts x) xs c.1))
  | inr f ↦ rw f (leads-after nexts (look nexts x) xs o (rw f at h) c.1)
]

pub leads-stay : (nexts nexts' : List (Option ℕ)) (at : Option ℕ) (xs : List ℕ) →
    ((z : ℕ) → holds z xs ≡ true → look nexts' z ≡ look nexts z) → Leads nexts at xs →
    Leads nexts' at xs
leads-stay nexts nexts' at [] same c = c
leads-stay nexts nexts' at (x ∷ xs) same c = (
  c.0,
  subst (λ w. Leads nexts' w xs) (sym (same x (holds-first x xs)))
      (leads-stay nexts nexts' (look nexts x) xs (λ z h. same z (holds-rest z x xs h)) c.1),
)

-- what the last of some nodes leads to, or what stands first
abbrev pub led : List (Option ℕ) → Option ℕ → Option ℕ → Option ℕ
led nexts at None = at
led nexts at (Some z) = look nexts z

led-some : (nexts : List (Option ℕ)) (at other : Option ℕ) (x : ℕ) (xs : List ℕ) →
    led nexts at (last_or (Some x) xs) ≡ led nexts other (last_or (Some x) xs)
led-some nexts at other x [] = refl
led-some nexts at other x (y ∷ xs) = led-some nexts at other y xs

pub leads-with : (nexts nexts' : List (Option ℕ)) (n : ℕ) (at : Option ℕ) (xs ys : List ℕ) →
    Apart (xs ++ ys) →
    ((z : ℕ) → holds z (xs ++ ys) ≡ true → last_of xs ≢ Some z → look nexts' z ≡ look nexts z) →
    ((z : ℕ) → last_of xs ≡ Some z → look nexts' z ≡ Some n) →
    look nexts' n ≡ led nexts at (last_of xs) → Leads nexts at (xs ++ ys) →
    Leads nexts' (begin xs (Some n) at) (xs ++ n ∷ ys)
leads-with nexts nexts' n at [] ys a same last new c = (
  refl,
  subst (λ w. Leads nexts' w ys) (sym new)
      (leads-stay nexts nexts' at ys (λ z h. same z h (λ e. absurd (cc))) c),
)
leads-with nexts nexts' n at (x ∷ []) ys a same last new c = (
  c.0,
  (
    last x refl,
    subst (λ w. Leads nexts' w ys) (sym new)
        (leads-stay nexts nexts' (look nexts x) ys
        (λ z h. same z (holds-rest z x ys h) (λ e.
        let here : x ≡ z = cc in
        clash (holds z ys) h (subst (λ w. holds w ys ≡ false) here a.0))) c.1),
  ),
)
leads-with nexts nexts' n at (x ∷ y ∷ xs) ys a same last new c = (
  c.0,
  subst (λ w. Leads nexts' w ((y ∷ xs) ++ n ∷ ys))
      (sym (same x (holds-first x ((y ∷ xs) ++ ys)) not-last))
      (leads-with nexts nexts' n (look nexts x) (y ∷ xs) ys a.1
      (λ z h. same z (holds-rest z x ((y ∷ xs) ++ ys) h)) last new' c.1),
)
  where
    not-last : last_of (x ∷ y ∷ xs) ≢ Some x
    not-last e =
        clash (holds x ((y ∷ xs) ++ ys))
        (sym-holds (last-holds None y xs x e)) a.0
      where
        sym-holds : holds x (y ∷ xs) ≡ true → holds x ((y ∷ xs) ++ ys) ≡ true
        sym-holds h = holds-append x (y ∷ xs) ys ∙ or-left (holds x (y ∷ xs)) (holds x ys) h

    new' : look nexts' n ≡ led nexts (look nexts x) (last_of (y ∷ xs))
    new' = new ∙ led-some nexts at (look nexts x) y xs
