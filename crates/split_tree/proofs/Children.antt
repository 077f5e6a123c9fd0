-- The children of a node, one number after another.
use Rattle.std.proofs.Common.{ℕ, suc, ◌+◌, ◌<◌, ◌≤◌, ◌≡◌, Bool, true, false, cond, ◌&&◌, ◌||◌, List}
use Rattle.std.proofs.Common.{[], ◌∷◌, ◌++◌, map, filter, length, leb, Some, refl, sym, ap, ap₂}
use Rattle.std.proofs.Common.{◌∙◌, arith, inl, inr, le-leb, append-nil}
use Rattle.std.proofs.lemmas.Bool.Decides.{nat_tests}
use Rattle.std.proofs.lemmas.List.{map-append}
use Rattle.std.proofs.lemmas.List.Elements.{All-from_recursion}
use Rattle.std.specs.List.{All, AllByRecursion, slice_get}
use Rattle.std.proofs.lemmas.Option.{slice_get_within}
use Rattle.list_laws.specs.Sets.{below}
use Rattle.mill_model.specs.Slab.{legal}
use Rattle.mill_model.specs.Rank.{starts_class_in}
use Rattle.mill_model.specs.Tree.{next_new, last_number, may_go_on, children, in_tree}
use Rattle.mill_model.specs.declared.order.Order.{Order}
use Rattle.list_laws.proofs.Tests.{either}
use Rattle.mill_laws.proofs.Paths.{goes-append}
use Rattle.order_symmetry.specs.Ranked.{orders_of}
use Rattle.split_tree.specs.Node.{Node, IsNode, group_of, least_number}
use Rattle.split_tree.proofs.Pushes.{slab-same}
use Rattle.std.proofs.Common.{ltb}
use Rattle.std.proofs.Common.{lt-ltb}

-- the order that comes next
pub next-order : (inner node : Node) (depth : ℕ) (order : Order) → inner ≡ node →
    depth ≡ length node.path → slice_get (orders_of inner.ranked) depth ≡ Some order →
    slice_get (orders_of node.ranked) (length node.path) ≡ Some order
next-order inner node depth order e d h =
    ap₂ (λ (n : Node) k. slice_get (orders_of n.ranked) k) (sym e) (sym d) ∙ h

-- the children with numbers below one
pub children_below : Node → ℕ → List (List ℕ)
children_below node n =
    map (λ g. node.path ++ g ∷ []) (filter (may_go_on node.ranked.mill (orders_of node.ranked)
    node.path) (below n))

pub children_below-none : (node : Node) → children_below node 0 ≡ []
unfolding children_below
children_below-none node = refl

pub children_below-all : (node : Node) (n : ℕ) → n ≡ next_new node.path + 1 →
    children_below node n ≡ children node.ranked.mill (orders_of node.ranked) node.path
unfolding children_below
children_below-all node n e =
    let q : n ≡ suc (next_new node.path) = omega arith in rw q refl

filter-push : (test : ℕ → Bool) (xs : List ℕ) (x : ℕ) →
    filter test (xs ++ x ∷ []) ≡ filter test xs ++ cond (test x) (x ∷ []) []
filter-push test [] x = refl
filter-push test (y ∷ xs) x = elim (either (test y)) [
  | inl e ↦ rw e (ap (λ l. y ∷ l) (filter-push test xs x))
  | inr e ↦ rw e (filter-push test xs x)
]

and-true : (b : Bool) → (b && true) ≡ b
and-true true = refl
and-true false = refl

and-false : (b : Bool) → (b && false) ≡ false
and-false true = refl
and-false false = refl

module _ (node : Node) (g : ℕ) (order : Order)
    (next : slice_get (orders_of node.ranked) (length node.path) ≡ Some order)
    (low : g ≤ next_new node.path) where
  abbrev may : Bool
  may = may_go_on node.ranked.mill (orders_of node.ranked) node.path g

  -- a number that may come next: from the least one on, where its group stays legal
  may-is : may
      ≡ (leb (least_number node) g && legal node.ranked.mill (group_of node g ++ order ∷ []))
  may-is =
      let starts = starts_class_in (length node.path) (orders_of node.ranked) in
      let to-come : ltb (length node.path) (length (orders_of node.ranked)) ≡ true =
      lt-ltb (length node.path) (length (orders_of node.ranked))
      (slice_get_within (orders_of node.ranked) (length node.path) order next) in
      rw (
        to-come,
        le-leb g (next_new node.path) low,
        slab-same node.path (orders_of node.ranked) g order
            next,
      )
      (turn (legal node.ranked.mill (group_of node g ++ order ∷ [])) starts (last_number node.path))
    where
      turn : (b s : Bool) (l : ℕ) → (b && (s || leb l g)) ≡ (leb (cond s 0 l) g && b)
      turn true true l = sym (rw (le-leb 0 g (omega arith)) refl)
      turn false true l = sym (and-false (leb 0 g))
      turn true false l = sym (and-true (leb l g))
      turn false false l = sym (and-false (leb l g))

  child-more : children_below node (g + 1)
      ≡ children_below node g ++ cond may ((node.path ++ g ∷ []) ∷ []) []
  unfolding children_below
  child-more =
      let one : g + 1 ≡ suc g = omega arith in
      let test = may_go_on node.ranked.mill (orders_of node.ranked) node.path in
      rw one (ap (map (λ h. node.path ++ h ∷ [])) (filter-push test (below g) g)
      ∙ map-append (λ h. node.path ++ h ∷ []) (filter test (below g)) (cond (test g) (g ∷ []) [])
      ∙ ap (λ l. map (λ h. node.path ++ h ∷ []) (filter test (below g)) ++ l) (go (test g)))
    where
      go : (b : Bool) → map (λ h. node.path ++ h ∷ []) (cond b (g ∷ []) [])
          ≡ cond b ((node.path ++ g ∷ []) ∷ []) []
      go true = refl
      go false = refl

  module _ (least : ℕ) (is : least ≡ least_number node) where
    -- it comes too early,
    pub child-early : g < least → children_below node (g + 1) ≡ children_below node g
    child-early l =
        let early : leb (least_number node) g ≡ false = rw (← is) (grind (arith, nat_tests)) in
        child-more ∙ rw (may-is, early) (append-nil (children_below node g))

    module _ (answer : Bool)
        (takes : answer ≡ legal node.ranked.mill (group_of node g ++ order ∷ [])) where
      -- its group doesn't stay legal,
      pub child-full : answer ≡ false → children_below node (g + 1) ≡ children_below node g
      child-full e =
          let full : legal node.ranked.mill (group_of node g ++ order ∷ []) ≡ false =
          sym takes ∙ e in
          child-more ∙ rw (may-is, full, and-false (leb (least_number node) g))
          (append-nil (children_below node g))

      -- or it gives a child
      pub child-taken : least ≤ g → answer ≡ true →
          children_below node (g + 1) ≡ children_below node g ++ (node.path ++ g ∷ []) ∷ []
      child-taken l e =
          let fits : legal node.ranked.mill (group_of node g ++ order ∷ []) ≡ true =
          sym takes ∙ e in
          let from : leb (least_number node) g ≡ true = rw (← is) (le-leb least g l) in
          child-more ∙ rw (may-is, from, fits) refl

-- each child is in the tree
each-kept : (P : List ℕ → Type 0) (test : ℕ → Bool) (f : ℕ → List ℕ) (xs : List ℕ) →
    ((x : ℕ) → test x ≡ true → P (f x)) → AllByRecursion P (map f (filter test xs))
each-kept P test f [] h = tt
each-kept P test f (x ∷ xs) h = elim (either (test x)) [
  | inl e ↦ rw e (h x e, each-kept P test f xs h)
  | inr e ↦ rw e (each-kept P test f xs h)
]

pub children-tree : (node : Node) (paths : List (List ℕ)) → IsNode node →
    paths ≡ children node.ranked.mill (orders_of node.ranked) node.path →
    All (λ path. in_tree node.ranked.mill (orders_of node.ranked) path ≡ true) paths
children-tree node paths is e =
    let mill = node.ranked.mill in
    let orders = orders_of node.ranked in
    rw e (All-from_recursion (λ path. in_tree mill orders path ≡ true)
    (children mill orders node.path) (each-kept (λ path. in_tree mill orders path ≡ true)
    (may_go_on mill orders node.path) (λ g. node.path ++ g ∷ []) (below (suc (next_new node.path)))
    (λ g may. goes-append mill orders [] node.path g is.tree may)))
