-- A walk along the children of a node, from the first to the one behind.
use Rattle.std.proofs.Common.{ℕ, zero, suc, ◌+◌, ◌<◌, ◌≤◌, ◌^◌, ◌-◌, ◌≡◌, ◌≢◌, Bool, true, false}
use Rattle.std.proofs.Common.{List, [], ◌∷◌, ◌++◌, length, eqb, Option, Some, None, refl, sym, ap}
use Rattle.std.proofs.Common.{arith, subst, inl, inr, eq-eqb, eqb-true, ne_eqb, append-nil}
use Rattle.std.proofs.Common.{◌∙◌, append_assoc}
use Rattle.std.specs.List.{slice_get}
use Rattle.list_laws.specs.Sets.{holds}
use Rattle.list_laws.proofs.Tests.{clash, either, or-cases, or-left, or-right}
use Rattle.list_laws.proofs.Different.{holds-append}
use Rattle.index_links.specs.Lists.{Apart, after}
use Rattle.index_links.specs.Links.{last_or}
use Rattle.index_links.specs.Forest.{Forest, IsForest, RiseByLabel, children_of, label_of}
use Rattle.index_links.specs.Forest.{nodes_of}
use Rattle.index_links.specs.Forest.{parent_of, siblings_of, nodes_under}
use Rattle.index_links.specs.Nodes.{last_of}
use Rattle.index_links.proofs.LinkedLists.{first-holds, holds-first, holds-rest}
use Rattle.index_links.proofs.Inserted.{lesser-front}

-- behind a number in a list without repeats
pub after-front : (x : ℕ) (xs ys : List ℕ) → Apart (xs ++ x ∷ ys) →
    after x (xs ++ x ∷ ys) ≡ slice_get ys 0
after-front x [] ys a = rw (eq-eqb x x refl) refl
after-front x (y ∷ xs) ys a =
    rw (ne_eqb x y other) (after-front x xs ys a.1)
  where
    other : x ≢ y
    other e =
        clash (holds y (xs ++ x ∷ ys))
        (subst (λ w. holds w (xs ++ x ∷ ys) ≡ true) e (holds-append x xs (x ∷ ys)
        ∙ or-right (holds x xs) (holds x (x ∷ ys)) (holds-first x ys))) a.0

pub last-push : (before : Option ℕ) (xs : List ℕ) (x : ℕ) →
    last_or before (xs ++ x ∷ []) ≡ Some x
last-push before [] x = refl
last-push before (y ∷ xs) x = last-push (Some y) xs x

-- the children of a node are those that were passed and those from the next one on
pub record HasPassed (f : Forest) (p : ℕ) (passed rest : List ℕ) (next : Option ℕ) : Type 0 where
  pub are : children_of f p ≡ passed ++ rest
  pub next_is : next ≡ slice_get rest 0

pub passed-none : (f : Forest) (p : ℕ) (next : Option ℕ) → next ≡ slice_get (children_of f p) 0 →
    HasPassed f p [] (children_of f p) next
passed-none f p next e = record { are = refl; next_is = e }

module _ (f : Forest) (is : IsForest f) (p : ℕ) (low : p < nodes_of f) (passed rest : List ℕ)
    (child : ℕ) (walked : HasPassed f p passed (child ∷ rest) (Some child)) where
  there : holds child (children_of f p) ≡ true
  there = subst (λ xs. holds child xs ≡ true) (sym walked.are)
      (holds-append child passed (child ∷ rest)
      ∙ or-right (holds child passed) (holds child (child ∷ rest)) (holds-first child rest))

  pub child-there : (child < nodes_of f) × (parent_of f child ≡ Some p)
  child-there = is.under child (Some p) low there

  pub passed-more : HasPassed f p (passed ++ child ∷ []) rest (after child (siblings_of f child))
  passed-more = record {
    are = walked.are ∙ sym (append_assoc passed (child ∷ []) rest);
    next_is =
        ap (λ o. after child (nodes_under f o)) child-there.1
        ∙ ap (after child) walked.are
        ∙ after-front child passed rest (subst Apart walked.are (is.once (Some p) low));
  }

-- how many labels the next child and those behind it may have
abbrev pub labels_left : Forest → Option ℕ → ℕ
labels_left f None = 0
labels_left f (Some x) = 2 ^ 16 - label_of f x

-- a walk that comes to a child has it next
pub at-child : (f : Forest) (p : ℕ) (passed rest : List ℕ) (next : Option ℕ) (child : ℕ) →
    HasPassed f p passed rest next → next ≡ Some child →
    (behind : List ℕ) × HasPassed f p passed (child ∷ behind) (Some child)
at-child f p passed [] next child walked e =
    absurd (let none : None ≡ Some child = sym walked.next_is ∙ e in cc)
at-child f p passed (x ∷ rest) next child walked e =
    let same : x ≡ child = (let s : Some x ≡ Some child = sym walked.next_is ∙ e in cc) in (
      rest,
      record {
        are = walked.are ∙ ap (λ y. passed ++ y ∷ rest) same;
        next_is = refl;
      },
    )

-- a walk that comes to its end has passed all children
pub passed-all : (f : Forest) (p : ℕ) (passed rest : List ℕ) (next : Option ℕ) →
    HasPassed f p passed rest next → next ≡ None → children_of f p ≡ passed
passed-all f p passed [] next walked e = walked.are ∙ append-nil passed
passed-all f p passed (x ∷ rest) next walked e =
    absurd (let no : Some x ≡ None = sym walked.next_is ∙ e in cc)

-- what holds of each that was passed, and of one more
pub push-each : (P : ℕ → Type 0) (xs : List ℕ) (x : ℕ) →
    ((z : ℕ) → holds z xs ≡ true → P z) → P x → (z : ℕ) → holds z (xs ++ x ∷ []) ≡ true → P z
push-each P xs x each here z h =
    elim (or-cases (holds z xs) (holds z (x ∷ [])) (sym (holds-append z xs (x ∷ [])) ∙ h)) [
      | inl i ↦ each z i
      | inr i ↦ elim (or-cases (eqb z x) false i) [
        | inl e ↦ subst P (sym (eqb-true z x e)) here
        | inr none ↦ absurd (cc)
      ]
    ]

rise-back : (f : Forest) (xs ys : List ℕ) → RiseByLabel f (xs ++ ys) → RiseByLabel f ys
rise-back f [] ys rise = rise
rise-back f (x ∷ xs) ys rise = rise-back f xs ys rise.1

module _ (f : Forest) (is : IsForest f) (p : ℕ) (low : p < nodes_of f) (passed rest : List ℕ)
    (child : ℕ) (walked : HasPassed f p passed (child ∷ rest) (Some child)) where
  -- the child behind has a greater label
  pub label-rises : (x : ℕ) → holds x rest ≡ true → label_of f child < label_of f x
  label-rises x h =
      (rise-back f passed (child ∷ rest) (subst (RiseByLabel f) walked.are (is.rise p low))).0 x h

  pub labels-fall : label_of f child < 2 ^ 16 →
      labels_left f (after child (siblings_of f child)) < labels_left f (Some child)
  labels-fall small =
      go (after child (siblings_of f child)) refl
    where
      go : (o : Option ℕ) → after child (siblings_of f child) ≡ o →
          labels_left f o < labels_left f (Some child)
      go None e = omega (arith, small)
      go (Some x) e =
          let more = passed-more f is p low passed rest child walked in
          let above = label-rises x (first-holds rest x (sym more.next_is ∙ e)) in
          omega (arith, small, above)
