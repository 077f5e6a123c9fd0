-- What is so of each thing of a list, by recursion, and sums over lists.
use Rattle.std.proofs.Common.{ℕ, zero, suc, ◌+◌, ◌<◌, ◌≡◌, List, [], ◌∷◌, ◌++◌, length, map}
use Rattle.std.proofs.Common.{set, get_or, replicate, sum_by, refl, arith}
use Rattle.std.proofs.lemmas.List.Elements.{All-from_get_or, All-from_recursion, All-get_or}
use Rattle.std.proofs.lemmas.List.Elements.{All-replicate, All-set, recursion_from_All}
use Rattle.std.proofs.lemmas.List.Recursion.{is_sum_by}
use Rattle.std.proofs.lemmas.List.Sums.{sum_by-append, sum_by-set}
use Rattle.std.specs.List.{AllByRecursion}
use Rattle.core_machine.specs.Counts.{sum_of}

module _ {X : Type 0} where
  pub all-set : (P : X → Type 0) (xs : List X) (i : ℕ) (y : X) → AllByRecursion P xs → P y →
      AllByRecursion P (set xs i y)
  all-set P xs i y a p =
      recursion_from_All P (set xs i y) (All-set P xs i y p (All-from_recursion P xs a))

  pub all-get : (P : X → Type 0) (xs : List X) (i : ℕ) (d : X) → AllByRecursion P xs →
      i < length xs → P (get_or xs i d)
  all-get P xs i d a l = All-get_or P xs i d l (All-from_recursion P xs a)

  -- also past the end, where the thing that stands there then passes
  pub all-get-or : (P : X → Type 0) (xs : List X) (i : ℕ) (d : X) → AllByRecursion P xs → P d →
      P (get_or xs i d)
  all-get-or P [] i d a p = p
  all-get-or P (x ∷ xs) zero d a p = a.0
  all-get-or P (x ∷ xs) (suc i) d a p = all-get-or P xs i d a.1 p

  pub all-from-places : (P : X → Type 0) (xs : List X) (d : X) →
      ((i : ℕ) → i < length xs → P (get_or xs i d)) → AllByRecursion P xs
  all-from-places P xs d h = recursion_from_All P xs (All-from_get_or P xs d h)

  pub all-replicate : (P : X → Type 0) (n : ℕ) (x : X) → P x → AllByRecursion P (replicate n x)
  all-replicate P n x p = recursion_from_All P (replicate n x) (All-replicate P n x p)

  -- a sum as std has it
  sum-is : (f : X → ℕ) (xs : List X) → sum_of f xs ≡ sum_by f xs
  sum-is f = is_sum_by (sum_of f) f refl (λ x xs. refl)

  -- a sum after one thing is replaced
  pub sum-set : (f : X → ℕ) (xs : List X) (i : ℕ) (y d : X) → i < length xs →
      sum_of f (set xs i y) + f (get_or xs i d) ≡ sum_of f xs + f y
  sum-set f xs i y d l =
      omega (arith, sum-is f (set xs i y), sum-is f xs, sum_by-set f xs i y d l)

  pub sum-append : (f : X → ℕ) (xs ys : List X) →
      sum_of f (xs ++ ys) ≡ sum_of f xs + sum_of f ys
  sum-append f xs ys =
      omega (arith, sum-is f (xs ++ ys), sum-is f xs, sum-is f ys, sum_by-append f xs ys)

  pub sum-none : (f : X → ℕ) (xs : List X) → AllByRecursion (λ x. f x ≡ 0) xs → sum_of f xs ≡ 0
  sum-none f [] a = refl
  sum-none f (x ∷ xs) a =
      let ih : sum_of f xs ≡ 0 = sum-none f xs a.1 in let e : f x ≡ 0 = a.0 in omega arith

module _ {X Y : Type 0} where
  pub all-of-map : (P : Y → Type 0) (f : X → Y) (xs : List X) → ((x : X) → P (f x)) →
      AllByRecursion P (map f xs)
  all-of-map P f [] h = tt
  all-of-map P f (x ∷ xs) h = (h x, all-of-map P f xs h)
