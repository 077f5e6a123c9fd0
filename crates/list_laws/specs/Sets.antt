-- Lists, sets and sums that the other definitions speak of.
use Rattle.std.specs.Prelude.{ℕ, zero, suc, ◌+◌, ◌≡◌, Bool, true, false, cond, ◌&&◌, ◌||◌, List, []}
use Rattle.std.specs.Prelude.{◌∷◌, ◌++◌, map, eqb, ℤ, pos, ◌+ℤ◌}
use Rattle.std.specs.List.{list_all}

-- whether a number stands in a list
abbrev pub holds : ℕ → List ℕ → Bool
holds x [] = false
holds x (y ∷ ys) = eqb x y || holds x ys

-- how many different numbers a list has
abbrev pub different : List ℕ → ℕ
different [] = 0
different (x ∷ xs) = cond (holds x xs) (different xs) (suc (different xs))

-- whether two lists of numbers are the same
abbrev pub same_list : List ℕ → List ℕ → Bool
same_list [] [] = true
same_list [] (y ∷ ys) = false
same_list (x ∷ xs) [] = false
same_list (x ∷ xs) (y ∷ ys) = eqb x y && same_list xs ys

-- f 0 + .. + f (n - 1)
abbrev pub total : ℕ → (ℕ → ℕ) → ℕ
total zero f = 0
total (suc n) f = total n f + f n

-- the same over whole numbers with a sign
abbrev pub int_total : ℕ → (ℕ → ℤ) → ℤ
int_total zero f = pos 0
int_total (suc n) f = int_total n f +ℤ f n

-- the sum of a list of them
abbrev pub int_sum : List ℤ → ℤ
int_sum [] = pos 0
int_sum (x ∷ xs) = x +ℤ int_sum xs

-- whether each number below n passes
abbrev pub each_below : ℕ → (ℕ → Bool) → Bool
each_below zero test = true
each_below (suc n) test = each_below n test && test n

-- the numbers below n, rising
abbrev pub below : ℕ → List ℕ
below zero = []
below (suc n) = below n ++ n ∷ []

-- A set of the things of a list is a list of marks, one for each thing.
-- Things past the last mark are not in the set.
abbrev pub chosen : {X : Type 0} → List Bool → List X → List X
chosen [] xs = []
chosen (mark ∷ marks) [] = []
chosen (mark ∷ marks) (x ∷ xs) = cond mark (x ∷ chosen marks xs) (chosen marks xs)

-- every set of n things
abbrev pub sets : ℕ → List (List Bool)
sets zero = [] ∷ []
sets (suc n) = map (λ set. false ∷ set) (sets n) ++ map (λ set. true ∷ set) (sets n)

-- how often a thing stands in a list, by a test of sameness
abbrev pub times : {X : Type 0} → (X → X → Bool) → X → List X → ℕ
times same x [] = 0
times same x (y ∷ ys) = cond (same x y) 1 0 + times same x ys

-- two lists are one multiset: each thing stands in both as often
abbrev pub SameTimes : {X : Type 0} → (X → X → Bool) → List X → List X → Type 0
SameTimes {X} same xs ys = (x : X) → times same x xs ≡ times same x ys

-- the same, as a test
abbrev pub same_times : {X : Type 0} → (X → X → Bool) → List X → List X → Bool
same_times same xs ys = list_all (λ x. eqb (times same x xs) (times same x ys)) (xs ++ ys)
