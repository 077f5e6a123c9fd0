-- The sizes of an instance that is made rise, and are within the limits: one test of them shows
-- both.
use Rattle.std.proofs.Common.{ℕ, zero, suc, ◌+◌, ◌<◌, ◌≤◌, ◌≡◌, Bool, true, ◌&&◌, List, [], ◌∷◌}
use Rattle.std.proofs.Common.{refl, arith, leb, ltb, leb-true, ltb-true}
use Rattle.std.specs.Prelude.{All}
use Rattle.std.specs.List.{AllByRecursion}
use Rattle.std.specs.List.Sorted.{IsStrictlyIncreasing}
use Rattle.std.proofs.lemmas.List.Elements.{All-from_recursion}
use Rattle.list_laws.proofs.Tests.{and-left, and-right}
use Rattle.mill_model.specs.Instance.{AreSizesOf, IsSize}
use Rattle.mill_model.proofs.RisingLists.{same_sizes}
use Rattle.instance_drill.specs.Drilled.{sizes}

-- whether numbers rise, from above a number to the greatest size at most
climb : ℕ → List ℕ → Bool
climb low [] = leb low 20000
climb low (x ∷ xs) = ltb low x && climb x xs

climb-above : (low x : ℕ) (xs : List ℕ) → climb low (x ∷ xs) ≡ true → low < x
unfolding climb
climb-above low x xs h = ltb-true low x (and-left (ltb low x) (climb x xs) h)

climb-on : (low x : ℕ) (xs : List ℕ) → climb low (x ∷ xs) ≡ true → climb x xs ≡ true
unfolding climb
climb-on low x xs h = and-right (ltb low x) (climb x xs) h

climb-high : (low : ℕ) (xs : List ℕ) → climb low xs ≡ true → low ≤ 20000
unfolding climb
climb-high low [] h = leb-true low 20000 h
climb-high low (x ∷ xs) h =
    let above = climb-above low x xs h in
    let high = climb-high x xs (climb-on low x xs h) in
    omega arith

climb-rises : (low : ℕ) (xs : List ℕ) → climb low xs ≡ true → IsStrictlyIncreasing xs
climb-rises low [] h k l = absurd (omega arith)
climb-rises low (x ∷ []) h k l = absurd (omega arith)
climb-rises low (x ∷ y ∷ ys) h zero l = climb-above x y ys (climb-on low x (y ∷ ys) h)
climb-rises low (x ∷ y ∷ ys) h (suc k) l =
    let e : suc k + 1 ≡ suc (k + 1) = omega arith in
    rw e (climb-rises x (y ∷ ys) (climb-on low x (y ∷ ys) h) k (omega arith))

climb-sizes : (low : ℕ) (xs : List ℕ) → climb low xs ≡ true → AllByRecursion IsSize xs
climb-sizes low [] h = tt
climb-sizes low (x ∷ xs) h =
    let above = climb-above low x xs h in
    let later = climb-on low x xs h in
    ((omega arith, climb-high x xs later), climb-sizes x xs later)

sizes-climb : climb 0 sizes ≡ true
unfolding climb
sizes-climb = refl

pub each-size : All IsSize sizes
each-size = All-from_recursion IsSize sizes (climb-sizes 0 sizes sizes-climb)

-- rising and each once, they are as they were given
pub given-sizes : (given : List ℕ) → AreSizesOf sizes given → given ≡ sizes
given-sizes given are = same_sizes sizes given sizes are (record {
  rise = climb-rises 0 sizes sizes-climb;
  kept = λ n h. h;
  only = λ n h. h;
})
