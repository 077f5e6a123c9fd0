-- The canonical form of a plan has the same slabs, so it is legal where the plan is and loses what
-- the plan loses, and its numbers grow.
use Rattle.std.proofs.Common.{ℕ, suc, ◌<◌, ◌≤◌, ◌≡◌, ◌≢◌, ◌⊎◌, max, eqb, leb, ltb, Bool}
use Rattle.std.proofs.Common.{true, false, cond, ◌&&◌, List, [], ◌∷◌, ◌++◌, map, length, refl}
use Rattle.std.proofs.Common.{sym, ap, ap₂, ◌∙◌, arith, inl, inr, eq-eqb, eqb-true, ne_eqb}
use Rattle.std.proofs.Common.{le-leb, false-eqb, append_assoc}
use Rattle.std.specs.List.{list_all}
use Rattle.list_laws.specs.Sets.{holds, different, chosen}
use Rattle.mill_model.specs.Slab.{Mill, load, legal}
use Rattle.mill_model.specs.Plan.{slab, loss}
use Rattle.mill_model.specs.Tree.{next_new, before_first_of, canonical}
use Rattle.mill_model.specs.declared.order.Order.{Order}
pub use Rattle.mill_model.proofs.FirstPlaces.{before-lacks, before-within, before-old, before-new}
pub use Rattle.list_laws.proofs.Different.{Within-cons, different-push}
use Rattle.mill_laws.proofs.Groups.{numbers-below}
use Rattle.list_laws.proofs.Tests.{either, or-left, or-right}
use Rattle.list_laws.proofs.Sums.{total-cong}
use Rattle.list_laws.proofs.Different.{different-length, Within, different-less}
use Rattle.list_laws.proofs.Different.{holds-map-from}
use Rattle.mill_model.proofs.Slabs.{slab-unused}
use Rattle.mill_model.proofs.Slabs.{legal-none}
use Rattle.mill_laws.proofs.Groups.{next_new-le}
use Rattle.list_laws.proofs.LastPlaces.{only}
use Rattle.list_laws.proofs.LastPlaces.{total-by_last}
use Rattle.list_laws.proofs.LastPlaces.{by_last-map}

-- Slabs get different numbers: of two numbers of a plan one comes first, and what stands before it
-- is less than what stands before the other.

-- the number of slab s in the canonical form
abbrev pub place : List ℕ → ℕ → ℕ
place plan s = different (before_first_of s plan)

abbrev pub ComesFirst : ℕ → ℕ → List ℕ → Type 0
ComesFirst s t plan =
    (holds s (before_first_of t plan) ≡ true)
    × Within (before_first_of s plan) (before_first_of t plan)

pub one-first : (s t : ℕ) → s ≢ t → (plan : List ℕ) → holds s plan ≡ true → holds t plan ≡ true →
    ComesFirst s t plan ⊎ ComesFirst t s plan
one-first s t n [] h k = grind arith
one-first s t n (x ∷ plan) h k = elim (either (eqb s x)) [
  | inl e ↦ (let q : eqb t x ≡ false = ne_eqb t x (λ r. n (eqb-true s x e ∙ sym r)) in
      inl (rw (q, e), λ z m. grind (arith, rw e at m)))
  | inr e ↦ elim (either (eqb t x)) [
    | inl f ↦ inr (rw (e, f), λ z m. grind (arith, rw f at m))
    | inr f ↦ elim (one-first s t n plan (rw e at h) (rw f at k)) [
      | inl p ↦ inl (
        rw f (or-right (eqb s x) (holds s (before_first_of t plan)) p.0),
        rw (e, f) (Within-cons x (before_first_of s plan) (before_first_of t plan) p.1),
      )
      | inr p ↦ inr (
        rw e (or-right (eqb t x) (holds t (before_first_of s plan)) p.0),
        rw (e, f) (Within-cons x (before_first_of t plan) (before_first_of s plan) p.1),
      )
    ]
  ]
]

pub first-less : (s t : ℕ) (plan : List ℕ) → ComesFirst s t plan → place plan s < place plan t
first-less s t plan f =
    different-less s (before_first_of s plan) (before_first_of t plan) (before-lacks s plan) f.0 f.1

pub place-eqb : (plan : List ℕ) (s t : ℕ) → holds s plan ≡ true → holds t plan ≡ true →
    eqb (place plan s) (place plan t) ≡ eqb s t
place-eqb plan s t h k = elim (either (eqb s t)) [
  | inl e ↦ rw e (eq-eqb (place plan s) (place plan t) (ap (place plan) (eqb-true s t e)))
  | inr e ↦ rw e (ne_eqb (place plan s) (place plan t) (λ same.
      apart same (one-first s t (false-eqb s t (sym e)) plan h k)))
]
  where
    apart : place plan s ≡ place plan t → ComesFirst s t plan ⊎ ComesFirst t s plan → ⊥
    apart same (inl f) = omega (arith, first-less s t plan f)
    apart same (inr f) = omega (arith, first-less t s plan f)

-- The canonical form grows: each number is at most one more than all before it.

-- m numbers stand before
abbrev pub grows : ℕ → List ℕ → Bool
grows m [] = true
grows m (g ∷ more) = leb g m && grows (max (suc g) m) more

-- an old slab has a number below those before it, and a new one has the next number
pub place-step : (s : ℕ) (pre post : List ℕ) →
    (place (pre ++ s ∷ post) s ≤ different pre)
    × (max (suc (place (pre ++ s ∷ post) s)) (different pre) ≡ different (pre ++ s ∷ []))
place-step s pre post = elim (either (holds s pre)) [
  | inl h ↦ rw (before-old s pre (s ∷ post) h) (old h)
  | inr h ↦ rw (before-new s pre post h) (new h)
]
  where
    old : holds s pre ≡ true →
        (place pre s ≤ different pre)
        × (max (suc (place pre s)) (different pre) ≡ different (pre ++ s ∷ []))
    old h =
        let same : different (pre ++ s ∷ []) ≡ different pre = rw h at (different-push s pre) in
        let less = different-less s (before_first_of s pre) pre (before-lacks s pre) h
        (before-within s pre) in
        (omega (arith, less), omega (arith, less))

    new : holds s pre ≡ false →
        (different pre ≤ different pre)
        × (max (suc (different pre)) (different pre) ≡ different (pre ++ s ∷ []))
    new h =
        let more : different (pre ++ s ∷ []) ≡ suc (different pre) =
        rw h at (different-push s pre) in
        (omega arith, omega arith)

pub grows-from : (plan pre post : List ℕ) → plan ≡ pre ++ post →
    grows (different pre) (map (place plan) post) ≡ true
grows-from plan pre [] e = refl
grows-from plan pre (s ∷ post) e =
    let step = place-step s pre post in
    let old : place plan s ≤ different pre = rw e step.0 in
    let next : max (suc (place plan s)) (different pre) ≡ different (pre ++ s ∷ []) =
    rw e step.1 in
    rw (le-leb (place plan s) (different pre) old, next)
    (grows-from plan (pre ++ s ∷ []) post (e ∙ sym (append_assoc pre (s ∷ []) post)))

pub canonical-grows : (plan : List ℕ) → grows 0 (canonical plan) ≡ true
canonical-grows plan = grows-from plan [] plan refl

-- The loss as a sum over places: each slab is charged at its last place. Such a sum does not ask
-- what the numbers are, only which places have equal ones.

-- The slabs of a renumbered plan.

pub slab-renamed : (f : ℕ → ℕ) (s : ℕ) (plan : List ℕ) (orders : List Order) →
    ((t : ℕ) → holds t plan ≡ true → eqb (f s) (f t) ≡ eqb s t) →
    slab (f s) (map f plan) orders ≡ slab s plan orders
slab-renamed f s plan orders h = ap (λ marks. chosen marks orders) (marks plan h)
  where
    marks : (plan : List ℕ) → ((t : ℕ) → holds t plan ≡ true → eqb (f s) (f t) ≡ eqb s t) →
        map (λ t. eqb (f s) t) (map f plan) ≡ map (λ t. eqb s t) plan
    marks [] h = refl
    marks (t ∷ plan) h =
        ap₂ (λ a b. a ∷ b) (h t (or-left (eqb t t) _ (eq-eqb t t refl)))
        (marks plan (λ t' k. h t' (or-right (eqb t' t) _ k)))

-- The canonical form.

module _ (plan : List ℕ) (orders : List Order) where
  canonical-slab : (s : ℕ) → holds s plan ≡ true →
      slab (place plan s) (canonical plan) orders ≡ slab s plan orders
  canonical-slab s h = slab-renamed (place plan) s plan orders (λ t k. place-eqb plan s t h k)

  pub canonical-numbers : (i : ℕ) → holds i (canonical plan) ≡ true → i < length plan
  canonical-numbers i h =
      let r = holds-map-from (place plan) i plan h in
      let less = different-less r.0 (before_first_of r.0 plan) plan (before-lacks r.0 plan) r.1
      (before-within r.0 plan) in
      omega (arith, less, different-length plan, r.2)

  pub canonical-fits : (mill : Mill) →
      ((s : ℕ) → holds s plan ≡ true → legal mill (slab s plan orders) ≡ true) →
      (i : ℕ) → legal mill (slab i (canonical plan) orders) ≡ true
  canonical-fits mill h i = elim (either (holds i (canonical plan))) [
    | inl k ↦ (let r = holds-map-from (place plan) i plan k in
        rw (r.2, canonical-slab r.0 r.1) (h r.0 r.1))
    | inr k ↦ rw (slab-unused i (canonical plan) orders k) (legal-none mill)
  ]

  pub canonical-loss : (charge : ℕ → ℕ) → charge 0 ≡ 0 →
      list_all (λ t. ltb t (length orders)) plan ≡ true → length plan ≡ length orders →
      loss charge (canonical plan) orders ≡ loss charge plan orders
  canonical-loss charge z b e =
      let n = length orders in
      let f : ℕ → ℕ = λ s. charge (load (slab s plan orders)) in
      let g : ℕ → ℕ = λ s. charge (load (slab s (canonical plan) orders)) in
      let numbers : next_new (canonical plan) ≤ n =
      next_new-le n (canonical plan) (λ i h. omega (arith, canonical-numbers i h)) in
      total-cong n g (only g (canonical plan)) (λ s l. used (canonical plan) s)
      ∙ total-by_last n g (canonical plan) (numbers-below n (canonical plan) numbers)
      ∙ by_last-map (place plan) f g plan (λ s t h k. place-eqb plan s t h k) (λ s h.
      ap (λ o. charge (load o)) (canonical-slab s h))
      ∙ sym (total-by_last n f plan b)
      ∙ total-cong n (only f plan) f (λ s l. sym (used plan s))
    where
      used : (p : List ℕ) (s : ℕ) → charge (load (slab s p orders)) ≡ cond (holds s p)
          (charge (load (slab s p orders))) 0
      used p s = elim (either (holds s p)) [
        | inl k ↦ rw k
        | inr k ↦ rw (k, slab-unused s p orders k) z
      ]
