-- How heavy sets get, as more orders are let in: an order adds its weight. So the sets with a new
-- colour reach as far as the sets of a colour less, and its orders, weigh together. Loads beyond
-- the
-- reach have no set, and their numbers need no look.
use Rattle.std.proofs.Common.{ℕ, suc, ◌+◌, ◌-◌, ◌<◌, ◌≤◌, ◌≡◌, Bool, true, false, List, [], ◌∷◌}
use Rattle.std.proofs.Common.{◌++◌, ◌∙◌, length, get_or, ℤ, Option, Some, None, refl, ap, arith}
use Rattle.std.proofs.Common.{inl, inr}
use Rattle.list_laws.specs.Sets.{chosen, holds, different}
use Rattle.mill_model.specs.Slab.{load}
use Rattle.mill_model.specs.Bounds.{in_set}
use Rattle.mill_model.specs.declared.order.Order.{Order}
use Rattle.list_laws.proofs.Tests.{either, or-right}
use Rattle.list_laws.proofs.Different.{holds-append}
use Rattle.set_minima.specs.Packs.{nobody, colour_at, colours_in, Packs, IsBest, IsNext}
use Rattle.set_minima.specs.Packs.{IsNextColour}
use Rattle.set_minima.specs.Reaches.{IsReach}
use Rattle.set_minima.proofs.OneOrder.{packs-allowed, without-it, taken-off, weight-of}
use Rattle.set_minima.proofs.OneColour.{lacks, old-places, none-chosen, nobody-in, layer-free}

module _ (rest : List Order) where
  -- what is allowed before is allowed after
  pub reach-allowed : (A A' : ℕ → Bool) (own : List ℕ) (k width r : ℕ) →
      ((i : ℕ) → i < length rest → A' i ≡ true → A i ≡ true) → IsReach A own k rest width r →
      IsReach A' own k rest width r
  reach-allowed A A' own k width r to p l marks q b =
      p l marks (packs-allowed rest A' A own k l marks to q) b

  -- the empty set weighs nothing
  pub reach-none : (A : ℕ → Bool) → ((i : ℕ) → A i ≡ false) → (own : List ℕ) (k width r : ℕ) →
      IsReach A own k rest width r
  reach-none A none own k width r l marks p b =
      let q : chosen marks rest ≡ [] =
      none-chosen marks rest (nobody-in rest A own [] none k l marks p) in
      let w : load (chosen marks rest) ≡ l = p.weighs in
      let z : load (chosen marks rest) ≡ 0 = ap load q in
      omega arith

  -- one order more
  pub reach-adds : (prices : List ℤ) → length prices ≡ length rest → (A A' : ℕ → Bool)
      (own : List ℕ) (k j : ℕ) → j < length rest → IsNext A A' j →
      holds (colour_at rest j) own ≡ true → (width r : ℕ) → IsReach A own k rest width r →
      IsReach A' own k rest width (r + (get_or rest j nobody).weight)
  reach-adds prices same A A' own k j here next paid width r p l marks q b =
      elim (either (in_set j marks)) [
        | inl t ↦ (let w = (get_or rest j nobody).weight in
            let e = weight-of rest prices same A A' own k j here next paid l marks (q, t) in
            let less : l - w ≤ r =
            p (l - w) _
            (taken-off rest prices same A A' own k j here next paid l marks (q, t)).0 (omega arith)
            in
            omega arith)
        | inr f ↦ (let less : l ≤ r =
            p l marks (without-it rest prices same A A' own k j here next paid l marks q f) b in
            omega arith)
      ]

  module _ (A A' : ℕ → Bool) (own : List ℕ) (c : ℕ) (next : IsNextColour rest A A' c)
      (not-own : holds c own ≡ false) where
    -- the layer below, where the new colour is paid for
    pub reach-start : (k width r : ℕ) → IsReach A own k rest width r →
        IsReach A (c ∷ own) (suc k) rest width r
    reach-start k width r p l marks q b =
        let e : holds c (own ++ colours_in marks rest) ≡ false =
        lacks rest A A' own c next not-own (suc k) l (c ∷ own) marks q in
        let f : suc (different (own ++ colours_in marks rest)) ≤ suc k = rw e at q.few in
        p l marks
        (record { long = q.long; weighs = q.weighs; fine = q.fine; few = omega arith }) b

    -- a layer with the new colour and without it
    pub reach-end : (k width r s top : ℕ) → r ≤ top → s ≤ top → IsReach A own k rest width r →
        IsReach A' (c ∷ own) k rest width s → IsReach A' own k rest width top
    reach-end k width r s top a d p q l marks x b =
        elim (either (holds c (colours_in marks rest))) [
          | inl t ↦ (let e : holds c (own ++ colours_in marks rest) ≡ true =
              holds-append c own (colours_in marks rest) ∙ or-right (holds c own) _ t in
              let less : l ≤ s =
              q l marks (record {
                long = x.long;
                weighs = x.weighs;
                fine = x.fine;
                few = rw e x.few;
              }) b in
              omega arith)
          | inr f ↦ (let less : l ≤ r =
              p l marks (record {
                long = x.long;
                weighs = x.weighs;
                fine = old-places rest A A' own c next not-own k l own marks x f;
                few = x.few;
              }) b in
              omega arith)
        ]

    -- with no colour to spare nothing changes
    pub reach-keep : (few width r : ℕ) → few ≡ different own → IsReach A own few rest width r →
        IsReach A' own few rest width r
    reach-keep few width r e p l marks q b =
        p l marks (layer-free rest A A' own c next not-own few l e marks q) b

-- Beyond the reach of what is let in then, the best of a load stays: there is none.
pub best-beyond : (rest : List Order) (prices : List ℤ) (A A' : ℕ → Bool) (own : List ℕ)
    (k width r l : ℕ) (b : Option ℤ) →
    ((i : ℕ) → i < length rest → A i ≡ true → A' i ≡ true) → IsReach A' own k rest width r →
    l < width → r < l → IsBest A own k rest prices l b → IsBest A' own k rest prices l b
best-beyond rest prices A A' own k width r l b to reach inside beyond best = go b best
  where
    none : (marks : List Bool) → Packs A' own k rest l marks → ⊥
    none marks p = let q : l ≤ r = reach l marks p inside in absurd (omega arith)

    go : (b : Option ℤ) → IsBest A own k rest prices l b → IsBest A' own k rest prices l b
    go None h = record {
      none = λ e marks p. none marks p;
      some = λ v e. absurd (cc);
      most = λ v e. absurd (cc);
    }
    go (Some v) h =
        let found = h.some v refl in
        absurd (none found.0 (packs-allowed rest A A' own k l found.0 to found.1))
