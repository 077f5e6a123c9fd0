-- The greatest gain of the sets of a table, one load more at a time, and how large it can be.
use Rattle.std.proofs.Common.{ℕ, suc, ◌+◌, ◌-◌, ◌*◌, ◌<◌, ◌≤◌, ◌≡◌, Bool, true, false, List, []}
use Rattle.std.proofs.Common.{◌∷◌, length, get_or, ℤ, pos, ◌+ℤ◌, ◌-ℤ◌, ◌≤ℤ◌, neg_ℤ, Option, None}
use Rattle.std.proofs.Common.{refl, sym, ap, subst, arith, inl, inr}
use Rattle.std.proofs.lemmas.Int.{ints}
use Rattle.list_laws.specs.Sets.{chosen, int_sum}
use Rattle.mill_model.specs.Slab.{load}
use Rattle.mill_model.specs.declared.order.Order.{Order}
use Rattle.list_laws.proofs.Tests.{last-or-below}
use Rattle.set_minima.specs.Packs.{Packs, IsTop, IsBest, better, with_price}
use Rattle.set_minima.specs.Joins.{gain, Joins, Packed}
use Rattle.set_minima.proofs.Tops.{none-some, top-same, top-union, top-value}

module _ (allowed : ℕ → Bool) (own : List ℕ) (k : ℕ) (rest : List Order) (prices : List ℤ)
    (charge : ℕ → ℕ) (base low : ℕ) where
  -- no load yet
  pub gain-none : (stop : ℕ) → stop ≤ low → IsTop (Packed allowed own k rest low stop)
      (gain charge base rest prices) None
  gain-none stop h = record {
    none =
        λ q m p. (let a : low ≤ load (chosen m rest) = p.above in
        let b : load (chosen m rest) < stop = p.below in absurd (omega arith));
    some = λ v q. none-some v q;
    most = λ v q. none-some v q;
  }

  -- one load more
  pub gain-more : (l : ℕ) → low ≤ l → (best entry : Option ℤ) (y : ℤ) →
      y ≡ neg_ℤ (pos (60 * charge (base + l))) → IsTop (Packed allowed own k rest low l)
      (gain charge base rest prices) best → IsBest allowed own k rest prices l entry →
      IsTop (Packed allowed own k rest low (suc l)) (gain charge base rest prices)
      (better best (with_price y entry))
  gain-more l h best entry y e p q =
      top-union (Packed allowed own k rest low l) (Packs allowed own k rest l)
      (Packed allowed own k rest low (suc l)) (gain charge base rest prices) best
      (with_price y entry)
      (λ m r. elim (last-or-below (load (chosen m rest)) l r.below) [
        | inl z ↦ inr (subst (λ j. Packs allowed own k rest j m) z r.packs)
        | inr z ↦ inl (record { above = r.above; below = z; packs = r.packs })
      ])
      (λ m r. (let b : load (chosen m rest) < l = r.below in
      record { above = r.above; below = omega arith; packs = r.packs }))
      (λ m r. (let w : load (chosen m rest) ≡ l = r.weighs in
      record {
        above = omega arith;
        below = omega arith;
        packs =
            subst (λ j. Packs allowed own k rest j m) (sym w) r;
      }))
      p
      (top-value (Packs allowed own k rest l) (λ m. int_sum (chosen m prices))
      (gain charge base rest prices) y entry (λ m r. value m r.weighs) q)
    where
      value : (m : List Bool) → load (chosen m rest) ≡ l →
          gain charge base rest prices m ≡ int_sum (chosen m prices) +ℤ y
      value m w =
          let g : gain charge base rest prices m ≡ int_sum (chosen m prices) -ℤ pos
          (60 * charge (base + l)) =
          ap (λ z. int_sum (chosen m prices) -ℤ pos (60 * charge (base + z))) w in
          omega (arith, ints)

-- the sets of a table that reaches to the room of a slab are those that may join it
pub joins-top : (allowed : ℕ → Bool) (low largest base most : ℕ) (own : List ℕ)
    (rest : List Order) (prices : List ℤ) (charge : ℕ → ℕ) (best : Option ℤ) → base ≤ largest →
    IsTop (Packed allowed own most rest low (suc (largest - base))) (gain charge base rest prices)
    best →
    IsTop (Joins allowed low largest base own most rest) (gain charge base rest prices) best
joins-top allowed low largest base most own rest prices charge best h p =
    top-same (Packed allowed own most rest low (suc (largest - base)))
    (Joins allowed low largest base own most rest) (gain charge base rest prices) best
    (λ m r. (let b : load (chosen m rest) < suc (largest - base) = r.below in
    record {
      long = r.packs.long;
      fine = r.packs.fine;
      above = r.above;
      fits = omega arith;
      few = r.packs.few;
    }))
    (λ m r. (let f : base + load (chosen m rest) ≤ largest = r.fits in
    record {
      above = r.above;
      below = omega arith;
      packs = record { long = r.long; weighs = refl; fine = r.fine; few = r.few };
    }))
    p

-- How large the numbers are, where each price and each charge is within a limit.
module _ (limit most : ℕ) where
  sum-within : (m : List Bool) (prices : List ℤ) →
      ((i : ℕ) → (neg_ℤ (pos limit) ≤ℤ get_or prices i (pos 0))
      × (get_or prices i (pos 0) ≤ℤ pos limit)) →
      (neg_ℤ (pos (length prices * limit)) ≤ℤ int_sum (chosen m prices))
      × (int_sum (chosen m prices) ≤ℤ pos (length prices * limit))
  sum-within [] prices h = ends (length prices * limit)
    where
      ends : (n : ℕ) → (neg_ℤ (pos n) ≤ℤ pos 0) × (pos 0 ≤ℤ pos n)
      ends n = (omega (arith, ints), omega (arith, ints))
  sum-within (b ∷ m) [] h = ends (0 * limit)
    where
      ends : (n : ℕ) → (neg_ℤ (pos n) ≤ℤ pos 0) × (pos 0 ≤ℤ pos n)
      ends n = (omega (arith, ints), omega (arith, ints))
  sum-within (true ∷ m) (y ∷ prices) h =
      let ih = sum-within m prices (λ i. h (suc i)) in
      more (length prices * limit) (suc (length prices) * limit) y (int_sum (chosen m prices))
      (once (length prices)) (h 0).0 (h 0).1 ih.0 ih.1
    where
      once : (n : ℕ) → suc n * limit ≡ n * limit + limit
      once n = omega arith

      more : (n t : ℕ) (y s : ℤ) → t ≡ n + limit → neg_ℤ (pos limit) ≤ℤ y → y ≤ℤ pos limit →
          neg_ℤ (pos n) ≤ℤ s → s ≤ℤ pos n → (neg_ℤ (pos t) ≤ℤ (y +ℤ s)) × ((y +ℤ s) ≤ℤ pos t)
      more n t y s e a b c d = (omega (arith, ints), omega (arith, ints))
  sum-within (false ∷ m) (y ∷ prices) h =
      let ih = sum-within m prices (λ i. h (suc i)) in
      wider (length prices * limit) (suc (length prices) * limit) (int_sum (chosen m prices))
      (once (length prices)) ih.0 ih.1
    where
      once : (n : ℕ) → n * limit ≤ suc n * limit
      once n = omega arith

      wider : (n t : ℕ) (s : ℤ) → n ≤ t → neg_ℤ (pos n) ≤ℤ s → s ≤ℤ pos n →
          (neg_ℤ (pos t) ≤ℤ s) × (s ≤ℤ pos t)
      wider n t s e c d = (omega (arith, ints), omega (arith, ints))

  pub gain-within : (charge : ℕ → ℕ) (base : ℕ) (rest : List Order) (prices : List ℤ)
      (m : List Bool) →
      ((i : ℕ) → (neg_ℤ (pos limit) ≤ℤ get_or prices i (pos 0))
      × (get_or prices i (pos 0) ≤ℤ pos limit)) →
      ((l : ℕ) → charge l ≤ most) →
      (neg_ℤ (pos (length prices * limit + 60 * most)) ≤ℤ gain charge base rest prices m)
      × (gain charge base rest prices m ≤ℤ pos (length prices * limit + 60 * most))
  gain-within charge base rest prices m h c =
      let s = sum-within m prices h in
      ends (length prices * limit) (int_sum (chosen m prices))
      (charge (base + load (chosen m rest))) s.0 s.1 (c (base + load (chosen m rest)))
    where
      ends : (n : ℕ) (s : ℤ) (d : ℕ) → neg_ℤ (pos n) ≤ℤ s → s ≤ℤ pos n → d ≤ most →
          (neg_ℤ (pos (n + 60 * most)) ≤ℤ (s -ℤ pos (60 * d)))
          × ((s -ℤ pos (60 * d)) ≤ℤ pos (n + 60 * most))
      ends n s d a b e = (omega (arith, ints), omega (arith, ints))
