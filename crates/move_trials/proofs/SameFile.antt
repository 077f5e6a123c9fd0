-- Orders that have the same rank are the same orders of a file.
use Rattle.std.proofs.Common.{ℕ, suc, ◌+◌, ◌<◌, ◌≡◌, true, false, cond, List, [], ◌∷◌, length, eqb}
use Rattle.std.proofs.Common.{sum_by, refl, sym, ap, ap₂, ◌∙◌, arith, inl, inr, eq-eqb, ne_eqb}
use Rattle.std.proofs.Common.{subst}
use Rattle.std.proofs.lemmas.Bool.{cases_eq}
use Rattle.std.proofs.lemmas.List.Sorted.{sum_by-IsPermutation}
use Rattle.std.proofs.lemmas.List.Sums.{sum_by-cons}
use Rattle.mill_model.specs.Rank.{Placed, rank, placed_from}
use Rattle.mill_model.specs.declared.order.Order.{Order}
use Rattle.mill_laws.proofs.Ranked.{rank-length}
use Rattle.large_moves.proofs.Homes.{rank-permutes}

-- a number of the order at place i, among orders from place k on
abbrev number_at : (Order → ℕ) → ℕ → ℕ → List Order → ℕ
number_at f i k [] = 0
number_at f i k (o ∷ orders) = cond (eqb k i) (f o) 0 + number_at f i (suc k) orders

abbrev at_place : (Order → ℕ) → ℕ → Placed → ℕ
at_place f i p = cond (eqb p.place i) (f p.order) 0

number-sum : (f : Order → ℕ) (i k : ℕ) (orders : List Order) →
    number_at f i k orders ≡ sum_by (at_place f i) (placed_from k orders)
number-sum f i k [] = refl
number-sum f i k (o ∷ orders) =
    ap (λ n. cond (eqb k i) (f o) 0 + n) (number-sum f i (suc k) orders)
    ∙ sym (sum_by-cons (at_place f i) (record { order = o; place = k })
    (placed_from (suc k) orders))

number-low : (f : Order → ℕ) (i k : ℕ) (orders : List Order) → i < k →
    number_at f i k orders ≡ 0
number-low f i k [] l = refl
number-low f i k (o ∷ orders) l =
    let e : eqb k i ≡ false = ne_eqb k i (λ q. absurd (omega (arith, q, l))) in
    let rest = number-low f i (suc k) orders (omega arith) in
    rw e (omega (arith, rest))

-- orders of which each place has the same weight and colour
from-numbers : (k : ℕ) (xs ys : List Order) → length xs ≡ length ys →
    ((i : ℕ) → number_at (λ o. o.weight) i k xs ≡ number_at (λ o. o.weight) i k ys) →
    ((i : ℕ) → number_at (λ o. o.colour) i k xs ≡ number_at (λ o. o.colour) i k ys) → xs ≡ ys
from-numbers k [] [] e w c = refl
from-numbers k [] (y ∷ ys) e w c = absurd (omega arith)
from-numbers k (x ∷ xs) [] e w c = absurd (omega arith)
from-numbers k (x ∷ xs) (y ∷ ys) e w c =
    let weight = head (λ o. o.weight) w in
    let colour = head (λ o. o.colour) c in
    ap₂ (λ a b. a ∷ b) (λ t. record { weight = weight t; colour = colour t })
    (from-numbers (suc k) xs ys (omega arith) (tail (λ o. o.weight) w weight)
    (tail (λ o. o.colour) c colour))
  where
    head : (f : Order → ℕ) →
        ((i : ℕ) → number_at f i k (x ∷ xs) ≡ number_at f i k (y ∷ ys)) → f x ≡ f y
    head f h =
        let e : eqb k k ≡ true = eq-eqb k k refl in
        let here = subst (λ b. cond b (f x) 0 + number_at f k (suc k) xs
        ≡ cond b (f y) 0 + number_at f k (suc k) ys) e (h k) in
        let a = number-low f k (suc k) xs (omega arith) in
        let b = number-low f k (suc k) ys (omega arith) in
        omega (arith, here, a, b)

    tail : (f : Order → ℕ) →
        ((i : ℕ) → number_at f i k (x ∷ xs) ≡ number_at f i k (y ∷ ys)) → f x ≡ f y →
        (i : ℕ) → number_at f i (suc k) xs ≡ number_at f i (suc k) ys
    tail f h same i = elim (cases_eq k i) [
      | inl q ↦ (let a = number-low f i (suc k) xs (omega (arith, q)) in
          let b = number-low f i (suc k) ys (omega (arith, q)) in a ∙ sym b)
      | inr d ↦ (let e : eqb k i ≡ false = ne_eqb k i d in
          let given = h i in
          let here = rw e at given in
          omega (arith, here))
    ]

pub same-file : (xs ys : List Order) → rank xs ≡ rank ys → xs ≡ ys
same-file xs ys e = from-numbers 0 xs ys
    (sym (rank-length 0 xs) ∙ ap (λ (l : List Placed). length l) e ∙ rank-length 0 ys)
    (λ i. numbers (λ o. o.weight) i) (λ i. numbers (λ o. o.colour) i)
  where
    numbers : (f : Order → ℕ) (i : ℕ) → number_at f i 0 xs ≡ number_at f i 0 ys
    numbers f i = number-sum f i 0 xs
        ∙ sum_by-IsPermutation (at_place f i) (rank xs) (placed_from 0 xs) (rank-permutes 0 xs)
        ∙ ap (sum_by (at_place f i)) e
        ∙ sym (sum_by-IsPermutation (at_place f i) (rank ys) (placed_from 0 ys)
        (rank-permutes 0 ys)) ∙ sym (number-sum f i 0 ys)
