-- The look for the least slack of the ascent ends at 0: no slack is below it.
use Rattle.std.proofs.Common.{ℕ, ◌<◌, ◌≤◌, ◌≡◌, List, [], ◌∷◌, map, flat_map, length, ℤ, pos, ◌-ℤ◌}
use Rattle.std.proofs.Common.{◌≤ℤ◌, Some, true, sym, subst, arith, inl, inr}
use Rattle.std.proofs.lemmas.Int.{ints}
use Rattle.list_laws.specs.Sets.{below}
use Rattle.list_laws.proofs.Among.{Among, Among-append_left, Among-append_right, Among-unappend}
use Rattle.list_laws.proofs.Among.{flat-among, flat-unamong, among-below, below-lt}
use Rattle.mill_model.specs.Slab.{legal}
use Rattle.mill_model.specs.Plan.{slab}
use Rattle.mill_model.specs.Tree.{next_new}
use Rattle.mill_model.specs.Prices.{least}
use Rattle.mill_model.specs.Bounds.{least_of, or_zero, ascent, ascent_slacks, first_slack}
use Rattle.mill_model.specs.Bounds.{slacks_on}
use Rattle.mill_laws.proofs.Ascent.{kept, price-not-negative}
use Rattle.mill_laws.proofs.Least.{or_zero-le}
use Rattle.order_symmetry.specs.Ranked.{orders_of}
use Rattle.split_tree.specs.Node.{Node}
use Rattle.column_price.specs.Nodes.{rest_of}
use Rattle.column_price.specs.Numbers.{new_slacks, ascent_numbers}
use Rattle.column_price.proofs.LeastOfParts.{least-here}

some-among : (xs : List ℤ) (v : ℤ) → least_of xs ≡ Some v → Among v xs
some-among [] v e = absurd (cc)
some-among (x ∷ xs) v e =
    let q : v ≡ least x xs = cc in subst (λ z. Among z (x ∷ xs)) (sym q) (least-here x xs)

module _ (node : Node) (charge : ℕ → ℕ)
    (slabs : (s : ℕ) → legal node.ranked.mill (slab s node.path (orders_of node.ranked)) ≡ true)
    (i g : ℕ) (here : i ≤ length (rest_of node)) (few : g ≤ next_new node.path) where
  abbrev prices : List ℤ
  prices = ascent node.ranked.mill charge (orders_of node.ranked) node.path i

  abbrev of_group : ℕ → List ℤ
  of_group h =
      map (λ s. s -ℤ first_slack node.ranked.mill charge (orders_of node.ranked) node.path h)
      (slacks_on node.ranked.mill charge (orders_of node.ranked) node.path prices i h)

  -- a number of the first groups is one of all groups
  more-groups : (x : ℤ) → Among x (ascent_numbers node charge prices i g) →
      Among x (ascent_numbers node charge prices i (next_new node.path))
  more-groups x a =
      let firsts = new_slacks node charge prices i in
      let all = flat_map of_group (below (next_new node.path)) in
      elim (Among-unappend x firsts (flat_map of_group (below g)) a) [
        | inl b ↦ Among-append_left x firsts all b
        | inr b ↦ (let r = flat-unamong of_group x (below g) b in
            let l : r.0 < g = below-lt r.0 g r.1 in
            Among-append_right x firsts all (flat-among of_group x r.0 (below (next_new node.path))
            (among-below r.0 (next_new node.path) (omega arith)) r.2))
      ]

  pub zero-ends : least_of (ascent_numbers node charge prices i g) ≡ Some (pos 0) →
      pos 0 ≡ or_zero (least_of (ascent_slacks node.ranked.mill charge (orders_of node.ranked)
      node.path prices i))
  zero-ends e =
      let all = ascent_slacks node.ranked.mill charge (orders_of node.ranked) node.path prices i in
      let there : Among (pos 0) all =
      more-groups (pos 0) (some-among (ascent_numbers node charge prices i g) (pos 0) e) in
      let at-most : or_zero (least_of all) ≤ℤ pos 0 = or_zero-le (pos 0) all there in
      let at-least : pos 0 ≤ℤ or_zero (least_of all) =
      price-not-negative node.ranked.mill charge (orders_of node.ranked) node.path slabs i
      (kept node.ranked.mill charge (orders_of node.ranked) node.path slabs i here) in
      same (or_zero (least_of all)) at-most at-least
    where
      same : (x : ℤ) → x ≤ℤ pos 0 → pos 0 ≤ℤ x → pos 0 ≡ x
      same x h k = omega (arith, ints)
