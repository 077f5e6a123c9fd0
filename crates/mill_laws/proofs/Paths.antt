-- What the paths of the tree keep, and the words that lead from a path to a leaf.
use Rattle.std.proofs.Common.{ℕ, suc, ◌+◌, ◌≤◌, ◌≡◌, max, eqb, leb, true, false, ◌&&◌, List, []}
use Rattle.std.proofs.Common.{◌∷◌, ◌++◌, filter, length, refl, arith, inl, inr, eqb-true, leb-true}
use Rattle.std.proofs.Common.{append_assoc, append-nil, length-append, le-leb, ltb, ltb-true, ◌<◌}
use Rattle.std.proofs.Common.{Bool}
use Rattle.list_laws.specs.Sets.{holds, below}
use Rattle.mill_model.specs.Slab.{Mill, legal}
use Rattle.mill_model.specs.Plan.{slab}
use Rattle.mill_model.specs.Tree.{later_orders, next_new, may_go_on, children, goes_on, in_tree}
use Rattle.mill_model.specs.Log.{Task, left_open}
use Rattle.mill_model.specs.declared.closing.Closing.{Closing}
use Rattle.mill_model.specs.declared.closing.Closing.TheVariants.{Split, Leaf, Priced, Dominated}
use Rattle.mill_model.specs.declared.order.Order.{Order}
use Rattle.list_laws.proofs.Tests.{and-left, and-right, either}
use Rattle.mill_laws.proofs.Groups.{next_new-append}
use Rattle.list_laws.proofs.Among.{Among, Among-map, Among-unmap, Among-filter, among-below}
use Rattle.mill_model.proofs.Slabs.{slab-append, slab-unused, legal-none}
use Rattle.mill_laws.proofs.Canonical.{grows}
use Rattle.list_laws.proofs.Lists.{length-push}

-- One number that a path may go on with.

module _ (mill : Mill) (ranked : List Order) (path : List ℕ) (g : ℕ)
    (may : may_go_on mill ranked path g ≡ true) where
  abbrev to_come : Bool
  to_come = ltb (length path) (length ranked)

  abbrev is_next : Bool
  is_next = leb g (next_new path)

  abbrev stays_legal : Bool
  stays_legal = legal mill (slab g (path ++ g ∷ []) ranked)

  first-two : (to_come && is_next) ≡ true
  first-two =
      and-left (to_come && is_next) stays_legal
      (and-left ((to_come && is_next) && stays_legal) _ may)

  -- an order is still to come
  pub may-place : length path < length ranked
  may-place = ltb-true (length path) (length ranked) (and-left to_come is_next first-two)

  -- it is the number of a group or the next new one
  pub may-next : g ≤ next_new path
  may-next = leb-true g (next_new path) (and-right to_come is_next first-two)

  -- its group stays legal
  pub may-fits : legal mill (slab g (path ++ g ∷ []) ranked) ≡ true
  may-fits =
      and-right (to_come && is_next) stays_legal
      (and-left ((to_come && is_next) && stays_legal) _ may)

-- Numbers that a path goes on with, one after another.

module _ (mill : Mill) (ranked : List Order) where
  pub goes-first : (path : List ℕ) (g : ℕ) (more : List ℕ) →
      goes_on mill ranked path (g ∷ more) ≡ true → may_go_on mill ranked path g ≡ true
  goes-first path g more h = and-left (may_go_on mill ranked path g) _ h

  pub goes-later : (path : List ℕ) (g : ℕ) (more : List ℕ) →
      goes_on mill ranked path (g ∷ more) ≡ true → goes_on mill ranked (path ++ g ∷ []) more ≡ true
  goes-later path g more h = and-right (may_go_on mill ranked path g) _ h

  -- they grow
  pub goes-grows : (path more : List ℕ) → goes_on mill ranked path more ≡ true →
      grows (next_new path) more ≡ true
  goes-grows path [] h = refl
  goes-grows path (g ∷ more) h =
      let next : next_new (path ++ g ∷ []) ≡ max (suc g) (next_new path) =
      omega (arith, next_new-append path (g ∷ [])) in
      let old-or-next = may-next mill ranked path g (goes-first path g more h) in
      rw (le-leb g (next_new path) old-or-next)
      (rw next at (goes-grows (path ++ g ∷ []) more (goes-later path g more h)))

  -- all groups stay legal
  pub goes-fits : (path more : List ℕ) → ((s : ℕ) → legal mill (slab s path ranked) ≡ true) →
      goes_on mill ranked path more ≡ true → (s : ℕ) →
      legal mill (slab s (path ++ more) ranked) ≡ true
  goes-fits path [] f h s = rw append-nil (f s)
  goes-fits path (g ∷ more) f h s =
      rw (append_assoc path (g ∷ []) more) at (goes-fits (path ++ g ∷ []) more (λ t.
      one t (may-fits mill ranked path g (goes-first path g more h))) (goes-later path g more h) s)
    where
      one : (t : ℕ) → legal mill (slab g (path ++ g ∷ []) ranked) ≡ true →
          legal mill (slab t (path ++ g ∷ []) ranked) ≡ true
      one t here = elim (either (eqb t g)) [
        | inl e ↦ rw (eqb-true t g e) here
        | inr e ↦ (let none : holds t (g ∷ []) ≡ false = rw e refl in
            rw (
              slab-append t path (g ∷ []) ranked,
              slab-unused t (g ∷ []) (later_orders ranked path) none,
              append-nil,
            ) (f t))
      ]

  -- one more goes behind them
  pub goes-append : (path more : List ℕ) (g : ℕ) → goes_on mill ranked path more ≡ true →
      may_go_on mill ranked (path ++ more) g ≡ true →
      goes_on mill ranked path (more ++ g ∷ []) ≡ true
  goes-append path [] g h m = rw (rw append-nil at m) refl
  goes-append path (x ∷ more) g h m =
      rw (goes-first path x more h) (goes-append (path ++ x ∷ []) more g (goes-later path x more h)
      (rw (append_assoc path (x ∷ []) more) m))

  -- the slabs of a path of the tree are legal
  pub tree-fits : (path : List ℕ) → in_tree mill ranked path ≡ true → (s : ℕ) →
      legal mill (slab s path ranked) ≡ true
  tree-fits path h s = goes-fits [] path (λ t. legal-none mill) h s

  -- no more numbers than orders
  pub goes-length : (path more : List ℕ) → goes_on mill ranked path more ≡ true →
      length path ≤ length ranked → length path + length more ≤ length ranked
  goes-length path [] h l = omega arith
  goes-length path (g ∷ more) h l =
      let here = may-place mill ranked path g (goes-first path g more h) in
      omega (
        arith,
        length-push path g,
        goes-length (path ++ g ∷ []) more (goes-later path g more h)
            (omega (arith, length-push path g)),
      )

  pub tree-length : (path : List ℕ) → in_tree mill ranked path ≡ true →
      length path ≤ length ranked
  tree-length path h = omega (arith, goes-length [] path h (omega arith))

-- there are no more groups than orders
pub grows-bound : (m : ℕ) (more : List ℕ) → grows m more ≡ true →
    max m (next_new more) ≤ m + length more
grows-bound m [] h = omega arith
grows-bound m (g ∷ more) h =
    omega (
      arith,
      leb-true g m (and-left (leb g m) _ h),
      grows-bound (max (suc g) m) more (and-right (leb g m) _ h),
    )

pub tree-bound : (mill : Mill) (ranked : List Order) (path : List ℕ) →
    in_tree mill ranked path ≡ true → next_new path ≤ length path
tree-bound mill ranked path h =
    omega (
      arith,
      grows-bound 0 path (goes-grows mill ranked [] path h),
    )

-- Words: numbers that go on from a path to a leaf, whose slabs are legal.

pub record Word (task : Task) (path more : List ℕ) : Type 0 where
  pub long : length path + length more ≡ length task.ranked
  pub goes : goes_on task.mill task.ranked path more ≡ true
  pub fits : (s : ℕ) → legal task.mill (slab s (path ++ more) task.ranked) ≡ true
  pub numbers : next_new (path ++ more) ≤ length task.ranked

-- one step on
pub step-word : (task : Task) (path : List ℕ) (g : ℕ) (more : List ℕ) → Word task path (g ∷ more) →
    Word task (path ++ g ∷ []) more
step-word task path g more w =
    let e : (path ++ g ∷ []) ++ more ≡ path ++ g ∷ more = append_assoc path (g ∷ []) more in
    record {
      long = simp length-append (omega (arith, w.long));
      goes = goes-later task.mill task.ranked path g more w.goes;
      fits = λ s. rw e (w.fits s);
      numbers = rw e w.numbers;
    }

-- it leads to a child
pub first-child : (task : Task) (path : List ℕ) (g : ℕ) (more : List ℕ) →
    Word task path (g ∷ more) → Among (path ++ g ∷ []) (children task.mill task.ranked path)
first-child task path g more w =
    let may = goes-first task.mill task.ranked path g more w.goes in
    let next = may-next task.mill task.ranked path g may in
    Among-map (λ g. path ++ g ∷ []) g (filter (may_go_on task.mill task.ranked path)
    (below (suc (next_new path)))) (Among-filter (may_go_on task.mill task.ranked path) g
    (below (suc (next_new path))) may (among-below g (suc (next_new path)) (omega (arith, next))))

-- the paths that a record leaves open go on from its own by one number
pub left-open-goes-on : (task : Task) (path child : List ℕ) (closing : Closing) →
    Among child (left_open task path closing) → (g : ℕ) × (child ≡ path ++ g ∷ [])
left-open-goes-on task path child Split among =
    let r = Among-unmap (λ g. path ++ g ∷ []) child
    (filter (may_go_on task.mill task.ranked path) (below (suc (next_new path)))) among in
    (r.0, r.2)
left-open-goes-on task path child Leaf among = absurd among
left-open-goes-on task path child (Priced prices) among = absurd among
left-open-goes-on task path child (Dominated other) among = absurd among
