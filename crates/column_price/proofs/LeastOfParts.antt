-- The least of numbers that come in parts: those of new slabs, and of one group after another.
use Rattle.std.proofs.Common.{ℕ, suc, ◌≡◌, ◌⊎◌, Bool, true, false, cond, ◌||◌, List, [], ◌∷◌, ◌++◌}
use Rattle.std.proofs.Common.{map, filter, flat_map, ℤ, ◌-ℤ◌, ◌≤ℤ◌, Option, Some, None, refl, sym}
use Rattle.std.proofs.Common.{ap}
use Rattle.std.proofs.Common.{subst, ◌∙◌, arith, inl, inr, append-nil, append_assoc}
use Rattle.std.proofs.lemmas.Int.{ints}
use Rattle.std.proofs.lemmas.Grind.{flat_map-append}
use Rattle.std.proofs.lemmas.List.{map-append}
use Rattle.std.specs.Int.{int_min}
use Rattle.std.specs.List.{list_any}
use Rattle.list_laws.specs.Sets.{below}
use Rattle.list_laws.proofs.Among.{Among, Among-append_left, Among-append_right, Among-unappend}
use Rattle.list_laws.proofs.Among.{Among-filter, any-from}
use Rattle.list_laws.proofs.Tests.{either, clash}
use Rattle.mill_model.specs.Prices.{least, legal_sets, slack}
use Rattle.mill_model.specs.Bounds.{least_of, in_set, first_slack, slacks_on, least_on_with}
use Rattle.mill_model.specs.Bounds.{or_zero}
use Rattle.mill_model.specs.Bounds.{least_on_without, joining_cost}
use Rattle.mill_laws.proofs.Least.{least-in, least-first, least-among}
use Rattle.order_symmetry.specs.Ranked.{orders_of}
use Rattle.set_minima.proofs.Fits.{least-is}
use Rattle.split_tree.specs.Node.{Node, group_of}
use Rattle.column_price.specs.Nodes.{rest_of}
use Rattle.column_price.specs.Numbers.{lesser, less, new_slacks, ascent_numbers, swept_numbers}

pub least-here : (x : ℤ) (xs : List ℤ) → Among (least x xs) (x ∷ xs)
least-here x xs = elim (least-in x xs) [ inl e ↦ inl e | inr i ↦ inr i ]

least-below : (x : ℤ) (xs : List ℤ) (v : ℤ) → Among v (x ∷ xs) → least x xs ≤ℤ v
least-below x xs v (inl e) = rw e (least-first x xs)
least-below x xs v (inr i) = least-among x v xs i

int_min-is : (x y : ℤ) → (int_min x y ≡ x) ⊎ (int_min x y ≡ y)
int_min-is x y = grind (arith, ints)

int_min-left : (x y v : ℤ) → x ≤ℤ v → int_min x y ≤ℤ v
int_min-left x y v h = grind (arith, ints)

int_min-right : (x y v : ℤ) → y ≤ℤ v → int_min x y ≤ℤ v
int_min-right x y v h = grind (arith, ints)

-- the least of two parts is the lesser of their leasts
pub least-append : (xs ys : List ℤ) → least_of (xs ++ ys) ≡ lesser (least_of xs) (least_of ys)
least-append [] ys = refl
least-append (x ∷ xs) [] = ap least_of (append-nil (x ∷ xs))
least-append (x ∷ xs) (y ∷ ys) =
    least-is ((x ∷ xs) ++ (y ∷ ys)) (int_min (least x xs) (least y ys))
    (elim (int_min-is (least x xs) (least y ys)) [
      | inl e ↦ subst (λ z. Among z ((x ∷ xs) ++ (y ∷ ys))) (sym e)
          (Among-append_left (least x xs) (x ∷ xs) (y ∷ ys) (least-here x xs))
      | inr e ↦ subst (λ z. Among z ((x ∷ xs) ++ (y ∷ ys))) (sym e)
          (Among-append_right (least y ys) (x ∷ xs) (y ∷ ys) (least-here y ys))
    ])
    (λ v h. elim (Among-unappend v (x ∷ xs) (y ∷ ys) h) [
      | inl a ↦ int_min-left (least x xs) (least y ys) v (least-below x xs v a)
      | inr a ↦ int_min-right (least x xs) (least y ys) v (least-below y ys v a)
    ])

int_min-less : (x y z : ℤ) → int_min (x -ℤ z) (y -ℤ z) ≡ int_min x y -ℤ z
int_min-less x y z = grind (arith, ints)

least-less : (z x : ℤ) (xs : List ℤ) → least (x -ℤ z) (map (λ s. s -ℤ z) xs) ≡ least x xs -ℤ z
least-less z x [] = refl
least-less z x (y ∷ xs) =
    ap (λ v. int_min (y -ℤ z) v) (least-less z x xs) ∙ int_min-less y (least x xs) z

-- the least of numbers that are each less by z
pub less-is : (z : ℤ) (xs : List ℤ) → least_of (map (λ s. s -ℤ z) xs) ≡ less z (least_of xs)
less-is z [] = refl
less-is z (x ∷ xs) = ap Some (least-less z x xs)

filter-append : {X : Type 0} (p : X → Bool) (xs ys : List X) →
    filter p (xs ++ ys) ≡ filter p xs ++ filter p ys
filter-append p [] ys = refl
filter-append p (x ∷ xs) ys = go (p x) (filter-append p xs ys)
  where
    go : (b : Bool) → filter p (xs ++ ys) ≡ filter p xs ++ filter p ys →
        cond b (x ∷ filter p (xs ++ ys)) (filter p (xs ++ ys))
        ≡ cond b (x ∷ filter p xs) (filter p xs) ++ filter p ys
    go true e = ap (λ l. x ∷ l) e
    go false e = e

any-some : (p : List Bool → Bool) (f : List Bool → ℤ) (xs : List (List Bool)) →
    list_any p xs ≡ true →
    least_of (map f (filter p xs)) ≡ Some (or_zero (least_of (map f (filter p xs))))
any-some p f xs h =
    let r = any-from p xs h in go r.0 (filter p xs) (Among-filter p r.0 xs r.2 r.1)
  where
    go : (m : List Bool) (ys : List (List Bool)) → Among m ys →
        least_of (map f ys) ≡ Some (or_zero (least_of (map f ys)))
    go m [] a = absurd a
    go m (y ∷ ys) a = refl

any-none : (p : List Bool → Bool) (f : List Bool → ℤ) (xs : List (List Bool)) →
    list_any p xs ≡ false → least_of (map f (filter p xs)) ≡ None
any-none p f [] h = refl
any-none p f (x ∷ xs) h = go (p x) (list_any p xs) h (any-none p f xs)
  where
    go : (a b : Bool) → (a || b) ≡ false →
        (b ≡ false → least_of (map f (filter p xs)) ≡ None) →
        least_of (map f (cond a (x ∷ filter p xs) (filter p xs))) ≡ None
    go true b h ih = absurd (clash true refl h)
    go false b h ih = ih h

module _ (node : Node) (charge : ℕ → ℕ) (prices : List ℤ) (i g : ℕ) (best : Option ℤ) where
  -- the least slack of the group with order i, and without it
  abbrev pub held : Option ℤ
  held = least_on_with node.ranked.mill charge (group_of node g) (rest_of node) prices i

  abbrev pub other : Option ℤ
  other = least_on_without node.ranked.mill charge (group_of node g) (rest_of node) prices i

  abbrev first : ℕ → ℤ
  first g = first_slack node.ranked.mill charge (orders_of node.ranked) node.path g

  abbrev firsts : List ℤ
  firsts = new_slacks node charge prices i

  -- one group more in the ascent
  pub ascent-more : best ≡ least_of (ascent_numbers node charge prices i g) →
      lesser best (less (first g) held) ≡ least_of (ascent_numbers node charge prices i (suc g))
  ascent-more b =
      ap (λ v. lesser v (less (first g) held)) b
      ∙ ap (λ v. lesser (least_of (firsts ++ old)) v) (sym (less-is (first g) its))
      ∙ sym (least-append (firsts ++ old) (map (λ s. s -ℤ first g) its))
      ∙ ap least_of (append_assoc firsts old (map (λ s. s -ℤ first g) its))
      ∙ ap (λ l. least_of (firsts ++ l)) (sym one)
    where
      its : List ℤ
      its = slacks_on node.ranked.mill charge (orders_of node.ranked) node.path prices i g

      of_group : ℕ → List ℤ
      of_group h =
          map (λ s. s -ℤ first h)
          (slacks_on node.ranked.mill charge (orders_of node.ranked) node.path prices i h)

      old : List ℤ
      old = flat_map of_group (below g)

      one : flat_map of_group (below (suc g)) ≡ old ++ map (λ s. s -ℤ first g) its
      one =
          flat_map-append of_group (below g) (g ∷ [])
          ∙ ap (λ l. old ++ l) (append-nil (map (λ s. s -ℤ first g) its))

  -- one group more in the sweep
  pub swept-more : best ≡ least_of (swept_numbers node charge prices i g) →
      lesser best (less (or_zero other) held)
      ≡ least_of (swept_numbers node charge prices i (suc g))
  swept-more b =
      ap (λ v. lesser v (less (or_zero other) held)) b
      ∙ ap (λ v. lesser (least_of (firsts ++ old)) v) (one (either (joins g)))
      ∙ sym (least-append (firsts ++ old) (map cost (filter joins (g ∷ []))))
      ∙ ap least_of (append_assoc firsts old (map cost (filter joins (g ∷ []))))
      ∙ ap (λ l. least_of (firsts ++ l)) (sym more)
    where
      joins : ℕ → Bool
      joins h = list_any (in_set i) (legal_sets node.ranked.mill (group_of node h) (rest_of node))

      cost : ℕ → ℤ
      cost h = joining_cost node.ranked.mill charge (orders_of node.ranked) node.path prices i h

      old : List ℤ
      old = map cost (filter joins (below g))

      more : map cost (filter joins (below (suc g))) ≡ old ++ map cost (filter joins (g ∷ []))
      more =
          ap (λ l. map cost l) (filter-append joins (below g) (g ∷ []))
          ∙ map-append cost (filter joins (below g)) (filter joins (g ∷ []))

      one : (joins g ≡ true) ⊎ (joins g ≡ false) →
          less (or_zero other) held ≡ least_of (map cost (filter joins (g ∷ [])))
      one (inl t) =
          rw t (ap (λ v. less (or_zero other) v)
          (any-some (in_set i) (slack charge (group_of node g) (rest_of node) prices)
          (legal_sets node.ranked.mill (group_of node g) (rest_of node)) t))
      one (inr t) =
          rw t (ap (λ v. less (or_zero other) v)
          (any-none (in_set i) (slack charge (group_of node g) (rest_of node) prices)
          (legal_sets node.ranked.mill (group_of node g) (rest_of node)) t))
