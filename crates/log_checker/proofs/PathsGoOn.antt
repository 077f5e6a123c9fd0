-- Whether a path goes on, by places: where a class starts, what the last number is, and whether the
-- group of a number may take the next order. A path is in the tree where each of its fronts goes
-- on.
use Rattle.std.proofs.Common.{lt-ltb, ltb, take, drop, max, sym, ap, ◌∙◌, ℕ, zero, suc, ◌+◌, ◌-◌}
use Rattle.std.proofs.Common.{◌<◌, ◌≤◌, ◌≡◌}
use Rattle.std.proofs.Common.{true, not, List, [], ◌∷◌, ◌++◌, length, get_or, refl, arith}
use Rattle.std.proofs.Common.{leb, le-leb, ◌&&◌, ◌||◌}
use Rattle.mill_model.specs.Slab.{Mill, legal}
use Rattle.mill_model.specs.Plan.{slab}
use Rattle.log_checker.specs.Groups.{Seen, joined, may_be, nothing_seen, IsSeen}
use Rattle.log_checker.proofs.GroupsOfPath.{slab-next, seen-push, may_be-legal}
use Rattle.std.proofs.Math.Seq.{take-suc}
use Rattle.std.proofs.lemmas.List.{drop_more}
use Rattle.mill_laws.proofs.Groups.{next_new-append}
use Rattle.mill_model.specs.Rank.{starts_class_in, same_order}
use Rattle.mill_model.specs.Tree.{last_number, next_new, may_go_on, goes_on}
use Rattle.mill_model.specs.declared.order.Order.{Order}

pub starts-past : (k : ℕ) (orders : List Order) → length orders ≤ k →
    starts_class_in k orders ≡ true
starts-past zero orders h = refl
starts-past (suc k) [] h = refl
starts-past (suc zero) (a ∷ []) h = refl
starts-past (suc zero) (a ∷ b ∷ orders) h = absurd (omega arith)
starts-past (suc (suc k)) (a ∷ orders) h = starts-past (suc k) orders (omega arith)

pub starts-inside : (k : ℕ) (orders : List Order) (d : Order) → suc k < length orders →
    starts_class_in (suc k) orders ≡ not (same_order (get_or orders k d) (get_or orders (suc k) d))
starts-inside k [] d h = absurd (omega arith)
starts-inside zero (a ∷ []) d h = absurd (omega arith)
starts-inside zero (a ∷ b ∷ orders) d h = refl
starts-inside (suc k) (a ∷ orders) d h = starts-inside k orders d (omega arith)

pub last-at : (path : List ℕ) → last_number path ≡ get_or path (length path - 1) 0
last-at [] = refl
last-at (g ∷ []) = refl
last-at (g ∷ h ∷ path) =
    let a : suc (suc (length path)) - 1 ≡ suc (length path) = omega arith in
    let b : suc (length path) - 1 ≡ length path = omega arith in
    let ih : last_number (h ∷ path) ≡ get_or (h ∷ path) (suc (length path) - 1) 0 =
    last-at (h ∷ path) in
    rw a (rw b at ih)

-- whether a path may go on with a group, from what is seen of the group
pub goes-on-from : (mill : Mill) (groups : List Seen) (ranked : List Order) (path : List ℕ) (g : ℕ)
    (d : Order) → IsSeen (get_or groups g nothing_seen) (slab g path ranked) →
    length path < length ranked → g ≤ next_new path → may_go_on mill ranked path
    g ≡ (may_be mill (joined (get_or groups g nothing_seen) (get_or ranked (length path) d))
    && (starts_class_in (length path) ranked || leb (last_number path) g))
goes-on-from mill groups ranked path g d it h n =
    let s : ltb (length path) (length ranked) ≡ true = lt-ltb (length path) (length ranked) h in
    let a : leb g (next_new path) ≡ true = le-leb g (next_new path) n in
    let b : legal mill (slab g (path ++ g ∷ []) ranked) ≡ may_be mill
    (joined (get_or groups g nothing_seen) (get_or ranked (length path) d)) =
    ap (legal mill) (slab-next g path ranked d h) ∙ sym
    (may_be-legal mill (joined (get_or groups g nothing_seen) (get_or ranked (length path) d))
    (slab g path ranked ++ get_or ranked (length path) d ∷ [])
    (seen-push (get_or groups g nothing_seen) (slab g path ranked)
    (get_or ranked (length path) d) it)) in
    rw (s, a, b) refl

pub take-push : (k : ℕ) (path : List ℕ) → k < length path → take (k + 1) path ≡ take k path
    ++ get_or path k 0 ∷ []
take-push k path h = let e : k + 1 ≡ suc k = omega arith in rw e (take-suc path k 0 h)

module _ (mill : Mill) (ranked : List Order) (path : List ℕ) (k : ℕ) (h : k < length path)
    (so_far : goes_on mill ranked [] path ≡ goes_on mill ranked (take k path) (drop k path)) where
  goes-here : goes_on mill ranked [] path ≡ (may_go_on mill ranked (take k path) (get_or path k 0)
      && goes_on mill ranked (take k path ++ get_or path k 0 ∷ []) (drop (k + 1) path))
  goes-here = so_far ∙ ap (goes_on mill ranked (take k path)) (drop_more path k 0 h)

  pub goes-further : may_go_on mill ranked (take k path) (get_or path k 0) ≡ true →
      goes_on mill ranked [] path ≡ goes_on mill ranked (take (k + 1) path) (drop (k + 1) path)
  goes-further m = goes-here ∙ rw (m, take-push k path h) refl

pub next_new-push : (k : ℕ) (path : List ℕ) → k < length path →
    next_new (take (k + 1) path) ≡ max (next_new (take k path)) (get_or path k 0 + 1)
next_new-push k path h =
    ap next_new (take-push k path h) ∙ next_new-append (take k path) (get_or path k 0 ∷ [])
    ∙ (let e : max (suc (get_or path k 0)) 0 ≡ get_or path k 0 + 1 = omega arith in rw e refl)
