-- Tables over some orders, whose colours no slab has paid for yet: how a slab's own colours are
-- paid for at once, how a colour with one order comes in at once, how many colours are enough, and
-- how many loads are.
use Rattle.std.proofs.Common.{ℕ, suc, ◌+◌, ◌-◌, ◌<◌, ◌≤◌, ◌≡◌, ◌⊎◌, Bool, true, false, ◌||◌, List}
use Rattle.std.proofs.Common.{[], ◌∷◌, ◌++◌, length, map, get_or, ℤ, pos, ◌≤ℤ◌, Option, Some, None}
use Rattle.std.proofs.Common.{eqb, eq-eqb, refl, sym, ap, subst, arith, inl, inr}
use Rattle.std.proofs.lemmas.Int.{ints}
use Rattle.std.specs.Int.{int_max}
use Rattle.list_laws.specs.Sets.{chosen, int_sum, holds, different}
use Rattle.mill_model.specs.Slab.{load}
use Rattle.mill_model.specs.declared.order.Order.{Order}
use Rattle.list_laws.proofs.Tests.{or-cases, or-left, or-right}
use Rattle.list_laws.proofs.Different.{different-mono, different-length}
use Rattle.set_minima.specs.Packs.{nobody, colour_at, colours_in, Packs, IsTop, IsBest, IsNext}
use Rattle.set_minima.specs.Packs.{IsNextColour, better, with_price}
use Rattle.set_minima.specs.Joins.{gain, Joins, Packed}
use Rattle.set_minima.proofs.OneColour.{layer-start, layer-end}
use Rattle.set_minima.proofs.OneOrder.{best-added, best-heavy}
use Rattle.set_minima.proofs.Tops.{top-same}

-- Colours are paid for.

first-apart : (c : ℕ) (own : List ℕ) → length (c ∷ own) ≡ different (c ∷ own) →
    holds c own ≡ false
first-apart c own h = go (holds c own) refl
  where
    go : (b : Bool) → holds c own ≡ b → holds c own ≡ false
    go false e = e
    go true e =
        let d : suc (length own) ≡ different own = rw e at h in
        let l : different own ≤ length own = different-length own in
        absurd (omega arith)

rest-apart : (c : ℕ) (own : List ℕ) → length (c ∷ own) ≡ different (c ∷ own) →
    length own ≡ different own
rest-apart c own h =
    let n : holds c own ≡ false = first-apart c own h in
    let d : suc (length own) ≡ suc (different own) = rw n at h in
    omega arith

or-none : (a b : Bool) → (a || b) ≡ false → (a ≡ false) × (b ≡ false)
or-none true b h = absurd (cc)
or-none false b h = (refl, h)

-- a table of places without some colours is one of a slab that has them, with as many more
pub colours-paid : (rest : List Order) (A : ℕ → Bool) (prices : List ℤ) (k l : ℕ) (own : List ℕ)
    (b : Option ℤ) → length own ≡ different own →
    ((i : ℕ) → i < length rest → A i ≡ true → holds (colour_at rest i) own ≡ false) →
    IsBest A [] k rest prices l b → IsBest A own (k + length own) rest prices l b
colours-paid rest A prices k l [] b once none h =
    let e : k + 0 ≡ k = omega arith in
    subst (λ z. IsBest A [] z rest prices l b) (sym e) h
colours-paid rest A prices k l (c ∷ own) b once none h =
    let n : holds c own ≡ false = first-apart c own once in
    let ih : IsBest A own (k + length own) rest prices l b =
    colours-paid rest A prices k l own b (rest-apart c own once)
    (λ i q a. (or-none (eqb (colour_at rest i) c) (holds (colour_at rest i) own) (none i q a)).1)
    h in
    let next : IsNextColour rest A A c = record {
      new = λ i q a.
          (or-none (eqb (colour_at rest i) c) (holds (colour_at rest i) own) (none i q a)).0;
      kept = λ i q a. a;
      only = λ i q a e. a;
    } in
    let e : suc (k + length own) ≡ k + suc (length own) = omega arith in
    subst (λ z. IsBest A (c ∷ own) z rest prices l b) e
    (layer-start rest A A own c next n prices (k + length own) l b ih)

-- A colour with one order.

-- what a kind of sets has is no less than what a part of them has
abbrev IsAbove : Option ℤ → Option ℤ → Type 0
IsAbove a None = Unit {0}
IsAbove None (Some v) = ⊥
IsAbove (Some u) (Some v) = v ≤ℤ u

above-from : (P Q : List Bool → Type 0) (f : List Bool → ℤ) (a b : Option ℤ) →
    ((m : List Bool) → P m → Q m) → IsTop Q f a → IsTop P f b → IsAbove a b
above-from P Q f None None to h k = tt
above-from P Q f (Some u) None to h k = tt
above-from P Q f None (Some v) to h k = let r = k.some v refl in h.none refl r.0 (to r.0 r.1)
above-from P Q f (Some u) (Some v) to h k =
    let r = k.some v refl in
    let e : v ≡ f r.0 = r.2 in
    let l : f r.0 ≤ℤ u = h.most u refl r.0 (to r.0 r.1) in
    omega (arith, ints)

max-absorbs : (u v w : ℤ) → v ≤ℤ u → int_max u (int_max v w) ≡ int_max u w
max-absorbs u v w h = grind (arith, ints)

max-left : (u v : ℤ) → v ≤ℤ u → int_max u v ≡ u
max-left u v h = grind (arith, ints)

absorbs : (a b x : Option ℤ) → IsAbove a b → better a (better b x) ≡ better a x
absorbs a None x h = refl
absorbs None (Some v) x h = absurd h
absorbs (Some u) (Some v) None h = ap Some (max-left u v h)
absorbs (Some u) (Some v) (Some w) h = ap Some (max-absorbs u v w h)

stays : (a b : Option ℤ) → IsAbove a b → better a b ≡ a
stays None None h = refl
stays (Some u) None h = refl
stays None (Some v) h = absurd h
stays (Some u) (Some v) h = ap Some (max-left u v h)

module _ (rest : List Order) (A A' : ℕ → Bool) (own : List ℕ) (prices : List ℤ)
    (same : length prices ≡ length rest) (j : ℕ) (here : j < length rest) (next : IsNext A A' j)
    (colour : IsNextColour rest A A' (colour_at rest j))
    (not-own : holds (colour_at rest j) own ≡ false) where
  abbrev its : ℕ
  its = colour_at rest j

  paid : holds its (its ∷ own) ≡ true
  paid = or-left (eqb its its) (holds its own) (eq-eqb its its refl)

  wider : (k l : ℕ) (m : List Bool) → Packs A own k rest l m → Packs A own (suc k) rest l m
  wider k l m p =
      let f : different (own ++ colours_in m rest) ≤ k = p.few in
      record { long = p.long; weighs = p.weighs; fine = p.fine; few = omega arith }

  above-layer : (k l : ℕ) (a b : Option ℤ) → IsBest A own (suc k) rest prices l a →
      IsBest A own k rest prices l b → IsAbove a b
  above-layer k l a b h q =
      above-from (Packs A own k rest l) (Packs A own (suc k) rest l)
      (λ m. int_sum (chosen m prices)) a b (wider k l) h q

  -- from the layer below, where nobody has its colour, to the layer that pays for it
  pub single-added : (k l : ℕ) → (get_or rest j nobody).weight ≤ l → (a b c : Option ℤ) →
      IsBest A own (suc k) rest prices l a → IsBest A own k rest prices l b →
      IsBest A own k rest prices (l - (get_or rest j nobody).weight) c →
      IsBest A' own (suc k) rest prices l (better a (with_price (get_or prices j (pos 0)) c))
  single-added k l w a b c ha hb hc =
      let w' = (get_or rest j nobody).weight in
      let x = with_price (get_or prices j (pos 0)) c in
      let sb : IsBest A (its ∷ own) (suc k) rest prices l b =
      layer-start rest A A' own its colour not-own prices k l b hb in
      let sc : IsBest A (its ∷ own) (suc k) rest prices (l - w') c =
      layer-start rest A A' own its colour not-own prices k (l - w') c hc in
      let added : IsBest A' (its ∷ own) (suc k) rest prices l (better b x) =
      best-added rest prices same A A' (its ∷ own) (suc k) j here next paid l w b c sb sc in
      let all : IsBest A' own (suc k) rest prices l (better a (better b x)) =
      layer-end rest A A' own its colour not-own prices (suc k) l a (better b x) ha added in
      subst (λ z. IsBest A' own (suc k) rest prices l z)
      (absorbs a b x (above-layer k l a b ha hb)) all

  pub single-heavy : (k l : ℕ) → l < (get_or rest j nobody).weight → (a b : Option ℤ) →
      IsBest A own (suc k) rest prices l a → IsBest A own k rest prices l b →
      IsBest A' own (suc k) rest prices l a
  single-heavy k l w a b ha hb =
      let sb : IsBest A (its ∷ own) (suc k) rest prices l b =
      layer-start rest A A' own its colour not-own prices k l b hb in
      let added : IsBest A' (its ∷ own) (suc k) rest prices l b =
      best-heavy rest prices same A A' (its ∷ own) (suc k) j here next paid l w b sb in
      let all : IsBest A' own (suc k) rest prices l (better a b) =
      layer-end rest A A' own its colour not-own prices (suc k) l a b ha added in
      subst (λ z. IsBest A' own (suc k) rest prices l z)
      (stays a b (above-layer k l a b ha hb)) all

-- As many colours as the orders have are enough.

chosen-holds : (x : ℕ) (m : List Bool) (rest : List Order) →
    holds x (colours_in m rest) ≡ true → holds x (map (λ order. order.colour) rest) ≡ true
chosen-holds x [] rest h = absurd (cc)
chosen-holds x (b ∷ m) [] h = absurd (cc)
chosen-holds x (true ∷ m) (o ∷ rest) h =
    elim (or-cases (eqb x o.colour) (holds x (colours_in m rest)) h) [
      | inl e ↦ or-left (eqb x o.colour) _ e
      | inr e ↦ or-right (eqb x o.colour) _ (chosen-holds x m rest e)
    ]
chosen-holds x (false ∷ m) (o ∷ rest) h =
    or-right (eqb x o.colour) _ (chosen-holds x m rest h)

pub layer-enough : (rest : List Order) (A : ℕ → Bool) (prices : List ℤ) (few k l : ℕ)
    (b : Option ℤ) → few ≤ k → different (map (λ order. order.colour) rest) ≤ few →
    IsBest A [] few rest prices l b → IsBest A [] k rest prices l b
layer-enough rest A prices few k l b h n p =
    top-same _ _ _ b
    (λ m q. (let f : different (colours_in m rest) ≤ few = q.few in
    record { long = q.long; weighs = q.weighs; fine = q.fine; few = omega arith }))
    (λ m q. (let d : different (colours_in m rest)
    ≤ different (map (λ order. order.colour) rest) =
    different-mono (colours_in m rest) (map (λ order. order.colour) rest)
    (λ x e. chosen-holds x m rest e) in
    record { long = q.long; weighs = q.weighs; fine = q.fine; few = omega arith })) p

-- As many loads as the orders weigh are enough.

pub chosen-load : (m : List Bool) (rest : List Order) → load (chosen m rest) ≤ load rest
chosen-load [] rest = omega arith
chosen-load (b ∷ m) [] = omega arith
chosen-load (true ∷ m) (o ∷ rest) =
    let ih : load (chosen m rest) ≤ load rest = chosen-load m rest in omega arith
chosen-load (false ∷ m) (o ∷ rest) =
    let ih : load (chosen m rest) ≤ load rest = chosen-load m rest in omega arith

-- the sets of a table that reaches to the room of a slab, or to all orders, are those that may join
pub joins-within : (allowed : ℕ → Bool) (largest base most width : ℕ) (own : List ℕ)
    (rest : List Order) (prices : List ℤ) (charge : ℕ → ℕ) (best : Option ℤ) →
    base + width ≤ suc largest → (suc largest ≤ base + width) ⊎ (load rest < width) →
    IsTop (Packed allowed own most rest 0 width) (gain charge base rest prices) best →
    IsTop (Joins allowed 0 largest base own most rest) (gain charge base rest prices) best
joins-within allowed largest base most width own rest prices charge best fits reach p =
    top-same (Packed allowed own most rest 0 width) (Joins allowed 0 largest base own most rest)
    (gain charge base rest prices) best
    (λ m r. (let b : load (chosen m rest) < width = r.below in
    record {
      long = r.packs.long;
      fine = r.packs.fine;
      above = r.above;
      fits = omega arith;
      few = r.packs.few;
    }))
    (λ m r. (let f : base + load (chosen m rest) ≤ largest = r.fits in
    let c : load (chosen m rest) ≤ load rest = chosen-load m rest in
    record {
      above = r.above;
      below = elim reach [ inl e ↦ omega arith | inr e ↦ omega arith ];
      packs = record { long = r.long; weighs = refl; fine = r.fine; few = r.few };
    }))
    p
