-- A tree whose nodes stand at the empty path or at paths of a list has at most one node more than
-- the list has paths.
use Rattle.std.proofs.Common.{ℕ, zero, suc, ◌+◌, ◌<◌, ◌≤◌, ◌≡◌, ◌⊎◌, Bool, true, false, cond}
use Rattle.std.proofs.Common.{List, [], ◌∷◌, ◌++◌, map, length, eqb, refl, sym, ap, ◌∙◌, arith}
use Rattle.std.proofs.Common.{subst, inl, inr, append-nil}
use Rattle.std.proofs.lemmas.List.{length-map, map-append}
use Rattle.list_laws.specs.Sets.{below, holds, same_list, times}
use Rattle.list_laws.proofs.Different.{different-bounded, holds-below-lt, holds-map-from}
use Rattle.list_laws.proofs.Lists.{length-below}
use Rattle.list_laws.proofs.Tests.{either}
use Rattle.list_laws.proofs.Times.{same_list-eq}
use Rattle.index_links.specs.Lists.{Apart}
use Rattle.index_links.specs.Forest.{Forest, nodes_of}
use Rattle.index_links.proofs.Inserted.{apart-with}
use Rattle.index_links.proofs.Views.{apart-different}
use Rattle.piece_merge.specs.Paths.{IsRooted, path_of}
use Rattle.piece_merge.proofs.TreePaths.{same-path}

-- the place of a path in a list, or behind it
abbrev place : List ℕ → List (List ℕ) → ℕ
place q [] = 0
place q (p ∷ ps) = cond (same_list q p) 0 (suc (place q ps))

place-most : (q : List ℕ) (ps : List (List ℕ)) → place q ps ≤ length ps
place-most q [] = omega arith
place-most q (p ∷ ps) = elim (either (same_list q p)) [
  | inl e ↦ rw e (omega arith)
  | inr g ↦ (let rest = place-most q ps in rw g (omega (arith, rest)))
]

place-low : (q : List ℕ) (ps : List (List ℕ)) → 0 < times same_list q ps → place q ps < length ps
place-low q [] h = absurd (omega arith)
place-low q (p ∷ ps) h = elim (either (same_list q p)) [
  | inl e ↦ rw e (omega arith)
  | inr g ↦ (
      let less : 0 < 0 + times same_list q ps = rw g at h in
      let rest = place-low q ps (omega (arith, less)) in rw g (omega (arith, rest)))
]

-- paths with one place in the list are the same
place-tells : (q r : List ℕ) (ps : List (List ℕ)) → place q ps < length ps →
    place q ps ≡ place r ps → q ≡ r
place-tells q r [] l e = absurd (omega arith)
place-tells q r (p ∷ ps) l e =
    go (same_list q p) (same_list r p) refl refl (place-tells q r ps) l e
  where
    go : (a b : Bool) → same_list q p ≡ a → same_list r p ≡ b →
        (place q ps < length ps → place q ps ≡ place r ps → q ≡ r) →
        cond a 0 (suc (place q ps)) < suc (length ps) →
        cond a 0 (suc (place q ps)) ≡ cond b 0 (suc (place r ps)) → q ≡ r
    go true true i j told l e = same_list-eq q p i ∙ sym (same_list-eq r p j)
    go true false i j told l e = absurd (omega (arith, e))
    go false true i j told l e = absurd (omega (arith, e))
    go false false i j told l e = told (omega (arith, l)) (omega (arith, e))

-- a map that tells numbers apart makes a list without repeats
map-apart : (g : ℕ → ℕ) (n : ℕ) →
    ((x z : ℕ) → x < n → z < n → g x ≡ g z → x ≡ z) → Apart (map g (below n))
map-apart g zero tells = tt
map-apart g (suc n) tells =
    subst Apart (sym (map-append g (below n) (n ∷ [])))
    (apart-with (g n) (map g (below n)) []
    (subst (λ xs. holds (g n) xs ≡ false) (sym (append-nil (map g (below n)))) new)
    (subst Apart (sym (append-nil (map g (below n))))
    (map-apart g n (λ x z a b e. tells x z (omega (arith, a)) (omega (arith, b)) e))))
  where
    new : holds (g n) (map g (below n)) ≡ false
    new = elim (either (holds (g n) (map g (below n)))) [
      | inl h ↦ (
          let r = holds-map-from g (g n) (below n) h in
          let low = holds-below-lt r.0 n r.1 in
          absurd (omega (arith, low, tells n r.0 (omega arith) (omega (arith, low)) r.2)))
      | inr f ↦ f
    ]

module _ (f : Forest) (tree : IsRooted f) (ps : List (List ℕ))
    (within : (x : ℕ) → x < nodes_of f →
    (path_of f x ≡ []) ⊎ (0 < times same_list (path_of f x) ps)) where
  tells : (x z : ℕ) → x < nodes_of f → z < nodes_of f →
      place (path_of f x) ps ≡ place (path_of f z) ps → x ≡ z
  tells x z low high e = same-path f tree x z low high (go (within x low) (within z high))
    where
      go : (path_of f x ≡ []) ⊎ (0 < times same_list (path_of f x) ps) →
          (path_of f z ≡ []) ⊎ (0 < times same_list (path_of f z) ps) →
          path_of f x ≡ path_of f z
      go (inr a) b = place-tells (path_of f x) (path_of f z) ps (place-low (path_of f x) ps a) e
      go (inl a) (inr b) =
          sym (place-tells (path_of f z) (path_of f x) ps (place-low (path_of f z) ps b) (sym e))
      go (inl a) (inl b) = a ∙ sym b

  pub few-nodes : nodes_of f ≤ length ps + 1
  few-nodes =
      let place_of : ℕ → ℕ = λ x. place (path_of f x) ps in
      let apart = apart-different (map place_of (below (nodes_of f)))
      (map-apart place_of (nodes_of f) tells) in
      let few = different-bounded (length ps + 1) (map place_of (below (nodes_of f)))
      (λ y h. let r = holds-map-from place_of y (below (nodes_of f)) h in
      let most = place-most (path_of f r.0) ps in omega (arith, most, r.2)) in
      omega (
        arith,
        apart,
        few,
        length-map (below (nodes_of f)) place_of,
        length-below (nodes_of f),
      )
