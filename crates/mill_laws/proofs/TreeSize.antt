-- The tree of n orders has at most 0! + 1! + .. + n! paths: a path of k numbers has at most k
-- groups, so at most k + 1 children, and there are at most k! paths of k numbers.
use Rattle.std.proofs.Common.{ℕ, zero, suc, ◌+◌, ◌*◌, ◌≤◌, ◌≡◌, Bool, true, cond, List, [], ◌∷◌}
use Rattle.std.proofs.Common.{◌++◌, map, filter, length, refl, arith, inl, inr, subst}
use Rattle.std.proofs.Common.{length-append, mul-le-mul_right}
use Rattle.list_laws.specs.Sets.{below}
use Rattle.mill_model.specs.Tree.{next_new, may_go_on, children, goes_on}
use Rattle.mill_model.specs.Log.{Task}
use Rattle.mill_model.specs.Size.{size, sum_list, factorial, enough}
use Rattle.list_laws.proofs.Tests.{either}
use Rattle.mill_laws.proofs.Paths.{goes-grows, goes-append, grows-bound}

-- the most paths from one of k numbers on, down to d numbers more
pub cap : ℕ → ℕ → ℕ
cap k zero = 1
cap k (suc d) = suc (suc k * cap (suc k) d)

-- 0! + .. + (k - 1)!
pub before : ℕ → ℕ
before zero = 0
before (suc k) = enough k

pub enough-step : (k : ℕ) → factorial k + before k ≡ enough k
unfolding before
enough-step zero = refl
enough-step (suc k) = omega arith

-- k! paths of k numbers, and what is under them
pub cap-is : (d k n : ℕ) → n ≡ k + d → factorial k * cap k d + before k ≡ enough n
unfolding cap before
cap-is zero k n e = let q : n ≡ k = omega arith in rw q (omega (arith, enough-step k))
cap-is (suc d) k n e =
    close (factorial k) (cap (suc k) d) k (before k) (enough k) (enough n) (enough-step k)
    (cap-is d (suc k) n (omega arith))
  where
    close : (f c k b x y : ℕ) → f + b ≡ x → (suc k * f) * c + x ≡ y → f * suc (suc k * c) + b ≡ y
    close f c k b x y h i = omega arith

module _ (task : Task) (test : List ℕ → Bool) where
  pub sum-le : (f : List ℕ → ℕ) (p : List ℕ) (pass : ℕ → Bool) (most n : ℕ) →
      ((g : ℕ) → pass g ≡ true → f (p ++ g ∷ []) ≤ most) →
      sum_list (map f (map (λ g. p ++ g ∷ []) (filter pass (below n)))) ≤ n * most
  sum-le f p pass most zero h = omega arith
  sum-le f p pass most (suc n) h =
      rw (push (below n)) (elim (either (pass n)) [
        | inl t ↦ rw t (omega (arith, sum-le f p pass most n h, h n t))
        | inr e ↦ rw e (omega (arith, sum-le f p pass most n h))
      ])
    where
      push : (xs : List ℕ) →
          sum_list (map f (map (λ g. p ++ g ∷ []) (filter pass (xs ++ n ∷ []))))
          ≡ sum_list (map f (map (λ g. p ++ g ∷ []) (filter pass xs)))
          + cond (pass n) (f (p ++ n ∷ [])) 0
      push [] = grind arith
      push (x ∷ xs) = grind (arith, push xs)

  pub size-cap : (d : ℕ) (p : List ℕ) → goes_on task.mill task.ranked [] p ≡ true →
      size task test d p ≤ cap (length p) d
  unfolding size cap
  size-cap zero p h = omega arith
  size-cap (suc d) p h =
      let most = cap (suc (length p)) d in
      let groups = grows-bound 0 p (goes-grows task.mill task.ranked [] p h) in
      let few : suc (next_new p) ≤ suc (length p) = omega (arith, groups) in
      let all : sum_list (map (size task test d) (children task.mill task.ranked p))
      ≤ suc (next_new p) * most =
      sum-le (size task test d) p (may_go_on task.mill task.ranked p) most (suc (next_new p))
      (λ g m. child g (size-cap d (p ++ g ∷ [])
      (goes-append task.mill task.ranked [] p g h m))) in
      elim (either (test p)) [
        | inl t ↦ rw t (omega (arith, all, mul-le-mul_right most few))
        | inr e ↦ rw e (omega arith)
      ]
    where
      child : (g : ℕ) → size task test d (p ++ g ∷ []) ≤ cap (length (p ++ g ∷ [])) d →
          size task test d (p ++ g ∷ []) ≤ cap (suc (length p)) d
      child g ih =
          subst (λ k. size task test d (p ++ g ∷ []) ≤ cap k d)
          (omega (arith, length-append p (g ∷ []))) ih

  pub size-enough : size task test (length task.ranked) [] ≤ enough (length task.ranked)
  unfolding before
  size-enough =
      omega (
        arith,
        size-cap (length task.ranked) [] refl,
        cap-is (length task.ranked) 0 (length task.ranked) (omega arith),
      )
