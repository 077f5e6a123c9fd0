-- The greatest gain of the sets that may join a slab is its least slack with the other sign, and as
-- the gain of a set it isn't large.
use Rattle.std.proofs.Common.{ℕ, ◌+◌, ◌*◌, ◌≤◌, ◌≡◌, List, length, get_or, ℤ, pos, neg_ℤ, ◌≤ℤ◌}
use Rattle.std.proofs.Common.{Option, Some, None, refl, All, arith, Bool, true, false, int_lt}
use Rattle.std.proofs.Common.{append-nil}
use Rattle.std.proofs.lemmas.Int.{ints}
use Rattle.list_laws.specs.Sets.{different}
use Rattle.mill_model.specs.Prices.{least_slack}
use Rattle.mill_model.specs.declared.order.Order.{Order}
use Rattle.list_laws.proofs.Lists.{nothing, nothing-chosen, nothing-length}
use Rattle.mill_laws.proofs.Charges.{charge-small}
use Rattle.set_minima.specs.Packs.{IsTop}
use Rattle.set_minima.specs.Joins.{gain, Joins, IsSlab, all_places, opposite}
use Rattle.set_minima.proofs.Gains.{gain-within}
use Rattle.set_minima.proofs.Least.{on-is}
use Rattle.mill_model.specs.declared.prices.TheConstants.{MAX_PRICE}
use Rattle.mill_model.specs.declared.order.TheConstants.{MAX_ORDERS}
use Rattle.mill_model.specs.declared.charges.TheConstants.{MAX_CHARGE}
use Rattle.set_minima.specs.Cells.{found, IsSmall, ArePrices, slack_limit}

module _ (rest : List Order) (prices : List ℤ) (charges own : List ℕ) (load largest most : ℕ)
    (best : ℤ) (fits : load ≤ largest) (few : different own ≤ most)
    (top : IsTop (Joins all_places 0 largest load own most rest)
    (gain (λ l. get_or charges l 0) load rest prices) (found best)) where
  abbrev charge : ℕ → ℕ
  charge l = get_or charges l 0

  -- the greatest gain with the other sign is the least slack
  pub least-from : (group : List Order) → IsSlab group load own →
      neg_ℤ best ≡ least_slack (record { largest = largest; most_colours = most }) charge group rest
      prices
  least-from group of =
      let least = least_slack (record { largest = largest; most_colours = most }) charge group rest
      prices in
      let e : Some least ≡ opposite (found best) =
      on-is largest most charge rest prices group load own of (found best) fits few top in
      go least (int_lt best (neg_ℤ (pos 2305843009213693952))) refl e
    where
      go : (z : ℤ) (b : Bool) → int_lt best (neg_ℤ (pos 2305843009213693952)) ≡ b →
          Some z ≡ opposite (found best) → neg_ℤ best ≡ z
      go z true q e = absurd (never (rw q at e))
        where
          never : ◌≡◌ {A = Option ℤ} (Some z) None → ⊥
          never e = cc
      go z false q e = same (rw q at e)
        where
          same : Some z ≡ Some (neg_ℤ best) → neg_ℤ best ≡ z
          same e = cc

  none-joins : Joins all_places 0 largest load own most rest (nothing (length rest))
  none-joins = record {
    long = nothing-length (length rest);
    fine = λ i e. refl;
    above = omega arith;
    fits = rw (nothing-chosen (length rest) rest) (omega arith);
    few = rw (nothing-chosen (length rest) rest, append-nil) few;
  }

  -- it is the gain of a set, and so not large
  pub small-from : length prices ≤ MAX_ORDERS → ArePrices prices →
      All (λ charge. charge ≤ MAX_CHARGE) charges → IsSmall slack_limit (neg_ℤ best)
  small-from n priced small =
      go (int_lt best (neg_ℤ (pos 2305843009213693952))) refl
    where
      go : (b : Bool) → int_lt best (neg_ℤ (pos 2305843009213693952)) ≡ b →
          IsSmall slack_limit (neg_ℤ best)
      go true q = absurd (top.none (rw q) (nothing (length rest)) none-joins)
      go false q =
          let s = top.some best (rw q) in
          let g = gain-within MAX_PRICE MAX_CHARGE charge load rest prices s.0 priced
          (charge-small charges small) in
          within (length prices) best (gain charge load rest prices s.0) s.2 n g.0 g.1
        where
          within : (n : ℕ) (b g : ℤ) → b ≡ g → n ≤ MAX_ORDERS →
              neg_ℤ (pos (n * MAX_PRICE + 60 * MAX_CHARGE)) ≤ℤ g →
              g ≤ℤ pos (n * MAX_PRICE + 60 * MAX_CHARGE) → IsSmall slack_limit (neg_ℤ b)
          within n b g e l lo hi = (omega (arith, ints), omega (arith, ints))
