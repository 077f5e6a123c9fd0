-- Prices are valid where no new slab with something in it has a slack below zero.
use Rattle.std.proofs.Common.{ℕ, ◌≡◌, Bool, true, false, not, List, [], ◌∷◌, ℤ, pos, ◌≤ℤ◌}
use Rattle.std.proofs.Common.{int_le, int_lt, refl, ap, arith, inl, inr}
use Rattle.std.proofs.lemmas.Int.{ints}
use Rattle.std.specs.List.{list_any}
use Rattle.list_laws.specs.Sets.{chosen, int_sum}
use Rattle.list_laws.proofs.Among.{Among, all-among, all-from}
use Rattle.list_laws.proofs.Tests.{either, clash, equal-tests}
use Rattle.mill_model.specs.Slab.{Mill}
use Rattle.mill_model.specs.Prices.{slack, legal_sets, least, valid}
use Rattle.mill_model.specs.Bounds.{least_of, slacks, least_new}
use Rattle.mill_model.specs.declared.order.Order.{Order}
use Rattle.mill_laws.proofs.Least.{least-in, least-first, least-among}
use Rattle.mill_laws.proofs.Slacks.{among-slacks, from-slacks}
use Rattle.column_price.specs.Numbers.{is_negative}

to-test : (x : ℤ) → pos 0 ≤ℤ x → int_le (pos 0) x ≡ true
to-test x h = grind (arith, ints)

from-test : (x : ℤ) → int_le (pos 0) x ≡ true → pos 0 ≤ℤ x
from-test x h = grind (arith, ints)

not-below : (x : ℤ) → pos 0 ≤ℤ x → not (int_lt x (pos 0)) ≡ true
not-below x h = grind (arith, ints)

is-not-below : (x : ℤ) → not (int_lt x (pos 0)) ≡ true → pos 0 ≤ℤ x
is-not-below x h = grind (arith, ints)

least-not-negative : (xs : List ℤ) → ((x : ℤ) → Among x xs → pos 0 ≤ℤ x) →
    not (is_negative (least_of xs)) ≡ true
least-not-negative [] h = refl
least-not-negative (x ∷ xs) h = not-below (least x xs) (elim (least-in x xs) [
  | inl e ↦ rw e (h x (inl refl))
  | inr i ↦ h (least x xs) (inr i)
])

each-not-negative : (xs : List ℤ) → not (is_negative (least_of xs)) ≡ true → (x : ℤ) →
    Among x xs → pos 0 ≤ℤ x
each-not-negative [] h x a = absurd a
each-not-negative (y ∷ ys) h x a =
    let l : pos 0 ≤ℤ least y ys = is-not-below (least y ys) h in
    let k : least y ys ≤ℤ x = below a in
    omega (arith, ints)
  where
    below : Among x (y ∷ ys) → least y ys ≤ℤ x
    below (inl e) = rw e (least-first y ys)
    below (inr i) = least-among y x ys i

none-any : {X : Type 0} (m : List Bool) (xs : List X) → list_any (λ mark. mark) m ≡ false →
    chosen m xs ≡ []
none-any [] xs h = refl
none-any (b ∷ m) [] h = refl
none-any (true ∷ m) (x ∷ xs) h = absurd (clash true refl h)
none-any (false ∷ m) (x ∷ xs) h = none-any m xs h

pub valid-is : (mill : Mill) (charge : ℕ → ℕ) (rest : List Order) (prices : List ℤ) →
    valid mill charge rest prices ≡ not (is_negative (least_new mill charge rest prices))
valid-is mill charge rest prices =
    equal-tests (valid mill charge rest prices)
    (not (is_negative (least_new mill charge rest prices)))
    (λ v. least-not-negative (slacks mill charge [] rest prices some) (λ x a.
    (let r = from-slacks mill charge [] rest prices some x a in
    rw r.3 (from-test (slack charge [] rest prices r.0)
    (all-among (λ set. int_le (pos 0) (slack charge [] rest prices set)) r.0
    (legal_sets mill [] rest) v r.1)))))
    (λ n. all-from (λ set. int_le (pos 0) (slack charge [] rest prices set))
    (legal_sets mill [] rest) (λ m a. to-test (slack charge [] rest prices m)
    (elim (either (some m)) [
      | inl t ↦ each-not-negative (slacks mill charge [] rest prices some) n
          (slack charge [] rest prices m) (among-slacks mill charge [] rest prices some m a t)
      | inr f ↦ (let s : int_sum (chosen m prices) ≡ pos 0 = ap int_sum (none-any m prices f) in
          omega (arith, ints))
    ])))
  where
    some : List Bool → Bool
    some set = list_any (λ mark. mark) set
