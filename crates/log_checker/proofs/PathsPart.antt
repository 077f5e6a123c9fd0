-- Paths that part: they differ at a place, the first by the smaller number. Paths that part still
-- do when the first goes on, so that children can take the place of their parent among paths that
-- wait, and all of them come in rising order.
use Rattle.std.proofs.Common.{ℕ, zero, suc, ◌<◌, ◌≡◌, ◌⊎◌, Bool, true, false, cond, ◌&&◌, ◌||◌}
use Rattle.std.proofs.Common.{List, [], ◌∷◌, ◌++◌, map, filter, eqb, ltb, refl, ap, arith, inl, inr}
use Rattle.list_laws.specs.Sets.{below}
use Rattle.list_laws.proofs.Tests.{either, head-cases}
use Rattle.list_laws.proofs.Among.{Among, below-lt}
use Rattle.refute_log.specs.Rising.{comes_before}
use Rattle.refute_log.proofs.Order.{head-less, head-same}

-- whether two paths part, the first by the smaller number
abbrev pub parts : List ℕ → List ℕ → Bool
parts [] q = false
parts (g ∷ p) [] = false
parts (g ∷ p) (h ∷ q) = ltb g h || (eqb g h && parts p q)

pub parts-before : (p q : List ℕ) → parts p q ≡ true → comes_before p q ≡ true
parts-before [] q h = absurd (grind arith)
parts-before (x ∷ p) [] h = absurd (grind arith)
parts-before (x ∷ p) (y ∷ q) h = go (head-cases x y (parts p q) h) (parts-before p q)
  where
    go : (x < y) ⊎ ((x ≡ y) × (parts p q ≡ true)) → (parts p q ≡ true → comes_before p q ≡ true) →
        (ltb x y || (eqb x y && comes_before p q)) ≡ true
    go (inl l) ih = head-less x y _ l
    go (inr e) ih = head-same x y _ e.0 (ih e.1)

pub parts-longer : (p q r : List ℕ) → parts p q ≡ true → parts (p ++ r) q ≡ true
parts-longer [] q r h = absurd (grind arith)
parts-longer (x ∷ p) [] r h = absurd (grind arith)
parts-longer (x ∷ p) (y ∷ q) r h = go (head-cases x y (parts p q) h) (parts-longer p q r)
  where
    go : (x < y) ⊎ ((x ≡ y) × (parts p q ≡ true)) → (parts p q ≡ true → parts (p ++ r) q ≡ true) →
        (ltb x y || (eqb x y && parts (p ++ r) q)) ≡ true
    go (inl l) ih = head-less x y _ l
    go (inr e) ih = head-same x y _ e.0 (ih e.1)

pub parts-siblings : (p : List ℕ) (g h : ℕ) → g < h → parts (p ++ g ∷ []) (p ++ h ∷ []) ≡ true
parts-siblings [] g h l = head-less g h _ l
parts-siblings (x ∷ p) g h l = head-same x x _ refl (parts-siblings p g h l)

-- paths of which each parts from all later ones
abbrev pub AllPart : List (List ℕ) → Type 0
AllPart [] = Unit {0}
AllPart (p ∷ ps) = ((q : List ℕ) → Among q ps → parts p q ≡ true) × AllPart ps

pub AllPart-append : (ps qs : List (List ℕ)) → AllPart ps → AllPart qs →
    ((p q : List ℕ) → Among p ps → Among q qs → parts p q ≡ true) → AllPart (ps ++ qs)
AllPart-append [] qs a b h = b
AllPart-append (p ∷ ps) qs a b h = (
  λ q m. elim (split q ps m) [ inl k ↦ a.0 q k | inr k ↦ h p q (inl refl) k ],
  AllPart-append ps qs a.1 b (λ r q x y. h r q (inr x) y),
)
  where
    split : (q : List ℕ) (ps : List (List ℕ)) → Among q (ps ++ qs) → Among q ps ⊎ Among q qs
    split q [] m = inr m
    split q (r ∷ rs) (inl e) = inl (inl e)
    split q (r ∷ rs) (inr m) = elim (split q rs m) [ inl k ↦ inl (inr k) | inr k ↦ inr k ]

-- the children of a path by rising last number
module _ (p : List ℕ) (test : ℕ → Bool) where
  filter-last : (xs : List ℕ) (n : ℕ) →
      map (λ h. p ++ h ∷ []) (filter test (xs ++ n ∷ [])) ≡ map (λ h. p ++ h ∷ []) (filter test xs)
      ++ cond (test n) ((p ++ n ∷ []) ∷ []) []
  filter-last [] n = elim (either (test n)) [ inl t ↦ rw t refl | inr t ↦ rw t refl ]
  filter-last (x ∷ xs) n =
      elim (either (test x)) [
        | inl t ↦ rw t (ap (λ l. (p ++ x ∷ []) ∷ l) (filter-last xs n))
        | inr t ↦ rw t (filter-last xs n)
      ]

  pub child-in : (q : List ℕ) (xs : List ℕ) → Among q (map (λ h. p ++ h ∷ []) (filter test xs)) →
      (h : ℕ) × Among h xs × (q ≡ p ++ h ∷ [])
  child-in q [] m = absurd m
  child-in q (x ∷ xs) m = elim (either (test x)) [
    | inl t ↦ (let k : (q ≡ p ++ x ∷ []) ⊎ Among q (map (λ h. p ++ h ∷ []) (filter test xs)) =
        rw t at m in first k (child-in q xs))
    | inr t ↦ (let k : Among q (map (λ h. p ++ h ∷ []) (filter test xs)) = rw t at m in let r =
        child-in q xs k in (r.0, inr r.1, r.2))
  ]
    where
      first : (q ≡ p ++ x ∷ []) ⊎ Among q (map (λ h. p ++ h ∷ []) (filter test xs)) →
          (Among q (map (λ h. p ++ h ∷ []) (filter test xs)) → (h : ℕ) × Among h xs
          × (q ≡ p ++ h ∷ [])) → (h : ℕ) × Among h (x ∷ xs) × (q ≡ p ++ h ∷ [])
      first (inl e) ih = (x, inl refl, e)
      first (inr k) ih = let r = ih k in (r.0, inr r.1, r.2)

  pub children-part : (n : ℕ) → AllPart (map (λ h. p ++ h ∷ []) (filter test (below n)))
  children-part zero = tt
  children-part (suc n) =
      rw (filter-last (below n) n) (AllPart-append (map (λ h. p
      ++ h ∷ []) (filter test (below n))) (cond (test n) ((p ++ n ∷ []) ∷ []) []) (children-part n)
      (one (test n)) (λ a b x y. apart a b x (only (test n) b y)))
    where
      one : (t : Bool) → AllPart (cond t ((p ++ n ∷ []) ∷ []) [])
      one true = (λ q m. absurd m, tt)
      one false = tt

      only : (t : Bool) (b : List ℕ) → Among b (cond t ((p ++ n ∷ []) ∷ []) []) → b ≡ p ++ n ∷ []
      only true b (inl e) = e
      only true b (inr m) = absurd m
      only false b m = absurd m

      apart : (a b : List ℕ) → Among a (map (λ h. p ++ h ∷ []) (filter test (below n))) → b ≡ p
          ++ n ∷ [] → parts a b ≡ true
      apart a b m e =
          let r =
          child-in a (below n) m in rw (r.2, e) (parts-siblings p r.0 n (below-lt r.0 n r.1))
