-- Children are in the tree, and victims go round.
use Rattle.std.proofs.Common.{◌≡◌, ◌≢◌, ◌<◌, ◌≤◌, inl, inr, ℕ, suc, ◌+◌, Bool, true, false, cond}
use Rattle.std.proofs.Common.{ltb, eqb, List, [], ◌∷◌, ◌++◌, map, filter, refl, sym, ◌∙◌, arith}
use Rattle.std.proofs.Common.{ltb-true, ltb-false, eq-eqb}
use Rattle.std.specs.List.{AllByRecursion}
use Rattle.list_laws.specs.Sets.{below}
use Rattle.mill_model.specs.Tree.{may_go_on, children, next_new}
use Rattle.list_laws.proofs.Tests.{either}
use Rattle.order_symmetry.specs.Ranked.{RankedOrders, orders_of}
use Rattle.mill_laws.proofs.Paths.{goes-append}
use Rattle.search_step.specs.Serving.{IsPathOf}
use Rattle.search_step.specs.Moves.{after, next_victim}

pub child-in-tree : (ranked : RankedOrders) (path : List ℕ) (g : ℕ) → IsPathOf ranked path →
    may_go_on ranked.mill (orders_of ranked) path g ≡ true → IsPathOf ranked (path ++ g ∷ [])
child-in-tree ranked path g p m =
    record { is = goes-append ranked.mill (orders_of ranked) [] path g p.is m }

all-children : (ranked : RankedOrders) (path : List ℕ) → IsPathOf ranked path → (gs : List ℕ) →
    AllByRecursion (IsPathOf ranked)
    (map (λ g. path ++ g ∷ []) (filter (may_go_on ranked.mill (orders_of ranked) path) gs))
all-children ranked path p [] = tt
all-children ranked path p (g ∷ gs) =
    one (may_go_on ranked.mill (orders_of ranked) path g) refl (all-children ranked path p gs)
  where
    one : (b : Bool) → may_go_on ranked.mill (orders_of ranked) path g ≡ b →
        AllByRecursion (IsPathOf ranked)
        (map (λ g. path ++ g ∷ []) (filter (may_go_on ranked.mill (orders_of ranked) path) gs)) →
        AllByRecursion (IsPathOf ranked)
        (map (λ g. path ++ g ∷ [])
        (cond b (g ∷ filter (may_go_on ranked.mill (orders_of ranked) path) gs)
        (filter (may_go_on ranked.mill (orders_of ranked) path) gs)))
    one true e ih = (child-in-tree ranked path g p e, ih)
    one false e ih = ih

pub children-in-tree : (ranked : RankedOrders) (path : List ℕ) → IsPathOf ranked path →
    AllByRecursion (IsPathOf ranked) (children ranked.mill (orders_of ranked) path)
children-in-tree ranked path p = all-children ranked path p (below (suc (next_new path)))

pub after-below : (workers v : ℕ) → 0 < workers → after workers v < workers
after-below workers v l = elim (either (ltb (v + 1) workers)) [
  | inl e ↦ rw e (ltb-true _ _ e)
  | inr e ↦ rw e l
]

pub after-other : (workers v : ℕ) → v < workers → 1 < workers → after workers v ≢ v
after-other workers v k l = elim (either (ltb (v + 1) workers)) [
  | inl e ↦ rw e (λ q. (omega (arith, q)))
  | inr e ↦ rw e (λ q. (let b : workers ≤ v + 1 = ltb-false _ _ e in omega (arith, q)))
]

pub next-victim : (workers number v : ℕ) → number < workers → 1 < workers →
    (next_victim workers number v < workers) × (next_victim workers number v ≢ number)
next-victim workers number v k l = elim (either (eqb (after workers v) number)) [
  | inl e ↦ rw e (after-below workers number (omega arith), after-other workers number k l)
  | inr e ↦ rw e (
    after-below workers v (omega arith),
    λ q. absurd
        (let t : eqb (after workers v) number ≡ true = eq-eqb _ _ q in true-false (sym t ∙ e)),
  )
]
  where
    true-false : true ≡ false → ⊥
    true-false q = cc
