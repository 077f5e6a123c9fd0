-- Greatest gains beside a slab: over which places, with which colours, and how large.
use Rattle.std.proofs.Common.{ℕ, ◌+◌, ◌*◌, ◌<◌, ◌≤◌, ◌≡◌, Bool, true, false, List, ◌++◌}
use Rattle.std.proofs.Common.{length}
use Rattle.std.proofs.Common.{ℤ, pos, neg_ℤ, ◌+ℤ◌, ◌≤ℤ◌, Option, Some, None, All, eqb, ne_eqb}
use Rattle.std.proofs.Common.{int_lt, append-nil, refl, sym, ap}
use Rattle.std.proofs.Common.{◌∙◌, subst, arith, inl, inr, ◌||◌}
use Rattle.std.proofs.lemmas.Int.{ints}
use Rattle.std.proofs.lemmas.List.{get_or_past}
use Rattle.std.proofs.lemmas.Bool.{cases_lt}
use Rattle.list_laws.specs.Sets.{holds, different}
use Rattle.list_laws.proofs.Different.{different-same, holds-append}
use Rattle.list_laws.proofs.Lists.{nothing, nothing-chosen, nothing-length}
use Rattle.list_laws.proofs.Tests.{clash}
use Rattle.mill_laws.proofs.Charges.{charge-small}
use Rattle.mill_laws.proofs.Slacks.{nothing-in}
use Rattle.mill_model.specs.Bounds.{in_set}
use Rattle.mill_model.specs.Charges.{ChargeTable, charge_of}
use Rattle.mill_model.specs.Instance.{IsOrder}
use Rattle.mill_model.specs.Limits.{IsPrice}
use Rattle.mill_model.specs.declared.charges.TheConstants.{MAX_CHARGE}
use Rattle.mill_model.specs.declared.order.Order.{Order}
use Rattle.mill_model.specs.declared.order.TheConstants.{MAX_ORDERS}
use Rattle.mill_model.specs.declared.prices.TheConstants.{MAX_PRICE}
use Rattle.set_minima.specs.Packs.{IsTop, colours_in, nobody, with_price}
use Rattle.set_minima.specs.Joins.{gain, Joins, AreOrders, all_places, all_but, opposite}
use Rattle.set_minima.specs.Cells.{found, IsNear, IsSmall, ArePrices, slack_limit}
use Rattle.set_minima.proofs.CellNumbers.{found-plus}
use Rattle.set_minima.proofs.Gains.{gain-within}
use Rattle.set_minima.proofs.Places.{in-set-below}
use Rattle.set_minima.proofs.Tops.{top-same, none-some, some-same}

-- what is skipped is none of the places
pub none-skipped : (low largest base most : ℕ) (own : List ℕ) (rest : List Order)
    (f : List Bool → ℤ) (best : Option ℤ) →
    IsTop (Joins (all_but (length rest)) low largest base own most rest) f best →
    IsTop (Joins all_places low largest base own most rest) f best
none-skipped low largest base most own rest f best top =
    top-same (Joins (all_but (length rest)) low largest base own most rest)
    (Joins all_places low largest base own most rest) f best
    (λ m q. record {
      long = q.long;
      fine = λ i e. refl;
      above = q.above;
      fits = q.fits;
      few = q.few;
    })
    (λ m q. record {
      long = q.long;
      fine = λ i e.
          let b : i < length m = in-set-below i m e in
          let n : length m ≡ length rest = q.long in
          let z : eqb i (length rest) ≡ false = ne_eqb i (length rest) (λ q. absurd (omega arith))
          in
          rw z;
      above = q.above;
      fits = q.fits;
      few = q.few;
    }) top

-- the same colours in another order
pub same-colours : (allowed : ℕ → Bool) (low largest base most : ℕ) (own other : List ℕ)
    (rest : List Order) (f : List Bool → ℤ) (best : Option ℤ) →
    ((x : ℕ) → holds x own ≡ holds x other) →
    IsTop (Joins allowed low largest base own most rest) f best →
    IsTop (Joins allowed low largest base other most rest) f best
same-colours allowed low largest base most own other rest f best same top =
    top-same (Joins allowed low largest base own most rest)
    (Joins allowed low largest base other most rest) f best
    (λ m q. record {
      long = q.long;
      fine = q.fine;
      above = q.above;
      fits = q.fits;
      few = subst (λ n. n ≤ most) (alike m) q.few;
    })
    (λ m q. record {
      long = q.long;
      fine = q.fine;
      above = q.above;
      fits = q.fits;
      few = subst (λ n. n ≤ most) (sym (alike m)) q.few;
    }) top
  where
    alike : (m : List Bool) →
        different (own ++ colours_in m rest) ≡ different (other ++ colours_in m rest)
    alike m =
        different-same (own ++ colours_in m rest) (other ++ colours_in m rest) (λ x.
        holds-append x own (colours_in m rest)
        ∙ ap (λ b. b || holds x (colours_in m rest)) (same x)
        ∙ sym (holds-append x other (colours_in m rest)))

-- the limits of orders and prices, as the tables need them
pub are-orders : (rest : List Order) → All IsOrder rest → AreOrders rest
are-orders rest each i h = let w = (each i nobody h).0.0 in omega (arith, w)

pub are-prices : (prices : List ℤ) → All IsPrice prices → ArePrices prices
are-prices prices each i = elim (cases_lt i (length prices)) [
  | inl b ↦ each i (pos 0) b
  | inr b ↦ rw (get_or_past prices i (pos 0) b) (omega (arith, ints), omega (arith, ints))
]

-- a greatest gain is the gain of a set, and so not large
pub gain-small : (P : List Bool → Type 0) (table : ChargeTable) (base : ℕ) (rest : List Order)
    (prices : List ℤ) (best : Option ℤ) → length prices ≤ MAX_ORDERS → ArePrices prices →
    IsTop P (gain (charge_of table) base rest prices) best → (v : ℤ) → best ≡ Some v →
    IsSmall 20600000000000 v
gain-small P table base rest prices best few priced top v e =
    let s = top.some v e in
    let g = gain-within MAX_PRICE MAX_CHARGE (charge_of table) base rest prices s.0 priced
    (charge-small table.list table.limit) in
    within (length prices) v (gain (charge_of table) base rest prices s.0) s.2 few g.0 g.1
  where
    within : (n : ℕ) (b g : ℤ) → b ≡ g → n ≤ MAX_ORDERS →
        neg_ℤ (pos (n * MAX_PRICE + 60 * MAX_CHARGE)) ≤ℤ g →
        g ≤ℤ pos (n * MAX_PRICE + 60 * MAX_CHARGE) → IsSmall 20600000000000 b
    within n b g e l lo hi = (omega (arith, ints), omega (arith, ints))

-- The empty set joins each slab, so that a greatest gain beside one stands for a set.
pub gain-found : (allowed : ℕ → Bool) (largest base most : ℕ) (own : List ℕ) (rest : List Order)
    (f : List Bool → ℤ) (best : ℤ) → base ≤ largest → different own ≤ most →
    IsTop (Joins allowed 0 largest base own most rest) f (found best) → found best ≡ Some best
gain-found allowed largest base most own rest f best light few top =
    go (int_lt best (neg_ℤ (pos 2305843009213693952))) refl
  where
    none-joins : Joins allowed 0 largest base own most rest (nothing (length rest))
    none-joins = record {
      long = nothing-length (length rest);
      fine = λ i e.
          absurd (clash (in_set i (nothing (length rest))) e (nothing-in i (length rest)));
      above = omega arith;
      fits = rw (nothing-chosen (length rest) rest) (omega arith);
      few = rw (nothing-chosen (length rest) rest, append-nil) few;
    }

    go : (b : Bool) → int_lt best (neg_ℤ (pos 2305843009213693952)) ≡ b →
        found best ≡ Some best
    go true q = absurd (top.none (rw q) (nothing (length rest)) none-joins)
    go false q = rw q

-- what a greatest gain that stands for a set says
pub found-same : (best v : ℤ) → found best ≡ Some v → v ≡ best
found-same best v e = go (int_lt best (neg_ℤ (pos 2305843009213693952))) refl e
  where
    go : (b : Bool) → int_lt best (neg_ℤ (pos 2305843009213693952)) ≡ b → found best ≡ Some v →
        v ≡ best
    go true q e = absurd (none-some v (rw q at e))
    go false q e = sym (some-same best v (rw q at e))

pub known-least : (least best : ℤ) → found best ≡ Some best → Some least ≡ opposite (found best) →
    neg_ℤ best ≡ least
known-least least best e h = let q : Some least ≡ Some (neg_ℤ best) = rw e at h in cc

pub small-wider : (v : ℤ) → IsSmall 20600000000000 v → IsSmall slack_limit v
small-wider v s = (omega (arith, ints, s.0, s.1), omega (arith, ints, s.0, s.1))

-- a greatest gain with one price more stands for a set where it did without, and isn't large
pub priced-small : (gain price : ℤ) → IsNear 576460752303423488 gain → IsSmall MAX_PRICE price →
    ((v : ℤ) → found gain ≡ Some v → IsSmall 20600000000000 v) → (v : ℤ) →
    found (gain +ℤ price) ≡ Some v → IsSmall slack_limit v
priced-small gain price near small h v e =
    let plus : found (gain +ℤ price) ≡ with_price price (found gain) =
    found-plus 576460752303423488 MAX_PRICE gain price (omega arith) near small in
    go (found gain) refl (sym plus ∙ e)
  where
    go : (b : Option ℤ) → found gain ≡ b → with_price price b ≡ Some v → IsSmall slack_limit v
    go None q e = none-some v e
    go (Some x) q e =
        let s : IsSmall 20600000000000 x = h x q in
        let w : x +ℤ price ≡ v = some-same (x +ℤ price) v e in (
          omega (arith, ints, s.0, s.1, small.0, small.1, w),
          omega (arith, ints, s.0, s.1, small.0, small.1, w),
        )
