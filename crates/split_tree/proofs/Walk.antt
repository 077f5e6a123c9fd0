-- The walk along a path of the tree: its groups, and those with one more number.
use Rattle.std.proofs.Common.{ℕ, zero, suc, ◌+◌, ◌<◌, ◌≤◌, ◌≡◌, true, List, [], ◌∷◌, ◌++◌, length}
use Rattle.std.proofs.Common.{drop, take, get_or, Some, refl, sym, ap, arith, append_assoc}
use Rattle.std.proofs.Common.{append-nil, subst}
use Rattle.std.proofs.lemmas.List.{take_more, length-take-le}
use Rattle.std.specs.List.{slice_get}
use Rattle.mill_model.specs.Slab.{Mill}
use Rattle.mill_model.specs.Tree.{goes_on, in_tree, may_go_on}
use Rattle.mill_model.specs.declared.order.Order.{Order}
use Rattle.mill_laws.proofs.Paths.{goes-first, goes-later, may-next, may-fits}
use Rattle.order_symmetry.specs.Ranked.{RankedOrders, orders_of}
use Rattle.slab_rules.specs.OpenSlab.{OpenSlab, empty_on, joined, IsWithinBounds, IsOpenSlab}
use Rattle.split_tree.specs.Node.{Node, AreGroups}
use Rattle.split_tree.specs.Groups.{slab_at, with_order}
use Rattle.split_tree.proofs.Grown.{fits-legal, groups-grown}

-- what goes on, goes on behind its front
goes-behind : (mill : Mill) (ranked : List Order) (path front back : List ℕ) →
    goes_on mill ranked path (front ++ back) ≡ true →
    goes_on mill ranked (path ++ front) back ≡ true
goes-behind mill ranked path [] back h = rw append-nil h
goes-behind mill ranked path (g ∷ front) back h =
    rw (append_assoc path (g ∷ []) front) at (goes-behind mill ranked (path ++ g ∷ []) front back
    (goes-later mill ranked path g (front ++ back) h))

take-drop-one : (path : List ℕ) (i : ℕ) → i < length path →
    path ≡ take i path ++ get_or path i 0 ∷ drop (suc i) path
take-drop-one [] i l = absurd (omega arith)
take-drop-one (g ∷ path) zero l = refl
take-drop-one (g ∷ path) (suc i) l = ap (λ xs. g ∷ xs) (take-drop-one path i (omega arith))

-- one step of the walk
module _ (ranked : RankedOrders) (path : List ℕ) (i : ℕ) (order : Order)
    (tree : in_tree ranked.mill (orders_of ranked) path ≡ true) (below : i < length path)
    (at : slice_get (orders_of ranked) i ≡ Some order) where
  abbrev before : Node
  before = record { ranked = ranked; path = take i path }

  abbrev after : Node
  after = record { ranked = ranked; path = take (i + 1) path }

  abbrev g : ℕ
  g = get_or path i 0

  more : take (i + 1) path ≡ take i path ++ g ∷ []
  more = take_more path i 0 below

  next : slice_get (orders_of ranked) (length (take i path)) ≡ Some order
  next = rw (length-take-le i path (omega arith)) at

  goes : may_go_on ranked.mill (orders_of ranked) (take i path) g ≡ true
  goes =
      goes-first ranked.mill (orders_of ranked) (take i path) g (drop (suc i) path)
      (goes-behind ranked.mill (orders_of ranked) [] (take i path) (g ∷ drop (suc i) path)
      (subst (λ xs. goes_on ranked.mill (orders_of ranked) [] xs ≡ true)
      (take-drop-one path i below) tree))

  pub walk-number : (groups : List OpenSlab) → AreGroups before groups → g ≤ length groups
  walk-number groups is =
      omega (arith, may-next ranked.mill (orders_of ranked) (take i path) g goes, is.count)

  module _ (groups : List OpenSlab) (is : AreGroups before groups) (empty : OpenSlab)
      (start : empty ≡ empty_on ranked.mill) (open_slab : IsOpenSlab empty) where
    pub walk-fits : IsWithinBounds (joined (slab_at empty groups g) order)
    walk-fits =
        (fits-legal before g order next groups is (walk-number groups is) empty start open_slab).1
        (may-fits ranked.mill (orders_of ranked) (take i path) g goes)

    pub walk-more : AreGroups after (with_order empty groups g order)
    walk-more =
        subst (λ (xs : List ℕ). AreGroups (record { ranked = ranked; path = xs })
        (with_order empty groups g order)) (sym more)
        (groups-grown before g order next groups is (walk-number groups is) empty start open_slab
        walk-fits)
