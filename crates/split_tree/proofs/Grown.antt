-- The groups of a path with one more number: an order joins one of them, or a new one.
use Rattle.std.proofs.Common.{ℕ, suc, ◌≤◌, ◌≡◌, ◌↔◌, true, false, List, [], ◌∷◌, ◌++◌, length, eqb}
use Rattle.std.proofs.Common.{leb, Some, refl, sym, ◌∙◌, arith, inl, inr, eqb-true, false-eqb}
use Rattle.std.proofs.Common.{leb-true, leb-false}
use Rattle.std.specs.List.{slice_get}
use Rattle.std.proofs.lemmas.List.{length-append}
use Rattle.list_laws.specs.Sets.{holds}
use Rattle.mill_model.specs.Slab.{Mill, legal}
use Rattle.mill_model.specs.declared.order.Order.{Order}
use Rattle.list_laws.proofs.Tests.{either}
use Rattle.mill_laws.proofs.Groups.{slab-new, next_new-push}
use Rattle.order_symmetry.specs.Ranked.{orders_of}
use Rattle.slab_rules.specs.OpenSlab.{OpenSlab, empty_on, joined, IsWithinBounds, IsOpenSlab}
use Rattle.slab_rules.specs.OpenSlab.{Carries, with_colour}
use Rattle.slab_rules.proofs.Joined.{Carries-joined, IsOpenSlab-joined, once-with_colour}
use Rattle.slab_rules.proofs.Joined.{bounds-legal}
use Rattle.split_tree.specs.Node.{Node, IsGroup, AreGroups, group_of}
use Rattle.split_tree.specs.Groups.{slab_at, with_order}
use Rattle.split_tree.proofs.Joins.{at-old, at-joined, length-with_order, slab_at-get, slab_at-new}
use Rattle.split_tree.proofs.Pushes.{slab-same, slab-other}

-- no order is on the empty slab, and it is within its bounds
pub IsOpenSlab-empty : (mill : Mill) → mill.largest ≤ 20000 → 1 ≤ mill.most_colours →
    mill.most_colours ≤ 8 → IsOpenSlab (empty_on mill)
IsOpenSlab-empty mill a b c = record {
  bounds = record { light = omega arith; few = omega arith };
  once = refl;
  size_limit = a;
  some_colour = b;
  colour_limit = c;
}

pub Carries-empty : (mill : Mill) → Carries (empty_on mill) []
Carries-empty mill = record { weight = refl; each = λ c. refl }

-- the slab that new groups begin as
pub empty-is : (mill : Mill) (largest p : ℕ) (empty : OpenSlab) → largest ≡ mill.largest →
    p ≡ mill.most_colours →
    empty ≡ empty_on (record { largest = largest; most_colours = p }) → empty ≡ empty_on mill
empty-is mill largest p empty l c e =
    e ∙ (λ i. empty_on (record { largest = l i; most_colours = c i }))

-- a slab has a colour when an order has joined it
some-colour : (cs : List ℕ) (c : ℕ) → 1 ≤ length (with_colour cs c)
some-colour cs c = elim (either (holds c cs)) [
  | inl old ↦ rw old (some cs old)
  | inr new ↦ rw (new, length-append) (omega arith)
]
  where
    some : (cs : List ℕ) → holds c cs ≡ true → 1 ≤ length cs
    some [] h = absurd (cc)
    some (x ∷ cs) h = omega arith

-- a slab that an order may be about to join: it carries the orders of a group, if there are any
record IsTarget (node : Node) (g : ℕ) (target : OpenSlab) : Type 0 where
  carries : Carries target (group_of node g)
  mill : target.mill ≡ node.ranked.mill
  open_slab : IsOpenSlab target

module _ (node : Node) (g : ℕ) (order : Order)
    (next : slice_get (orders_of node.ranked) (length node.path) ≡ Some order)
    (groups : List OpenSlab) (is : AreGroups node groups) (low : g ≤ length groups)
    (empty : OpenSlab) (start : empty ≡ empty_on node.ranked.mill)
    (open_slab : IsOpenSlab empty) where
  abbrev grown : Node
  grown = record { ranked = node.ranked; path = node.path ++ g ∷ [] }

  same : group_of grown g ≡ group_of node g ++ order ∷ []
  same = slab-same node.path (orders_of node.ranked) g order next

  -- what the order joins: a group, or the empty slab of a new one
  target : IsTarget node g (slab_at empty groups g)
  target = elim (either (leb (suc g) (length groups))) [
    | inl h ↦ (let group : IsGroup node g (slab_at empty groups g) =
        is.each g (slab_at empty groups g) (slab_at-get empty groups g (leb-true _ _ h)) in
        record { carries = group.carries; mill = group.mill; open_slab = group.open_slab })
    | inr h ↦ (let l : length groups ≤ g = omega (arith, leb-false _ _ h) in
        rw (slab_at-new empty groups g l) (record {
          carries =
              rw (start, slab-new g node.path (orders_of node.ranked) (omega (arith, is.count)))
              (Carries-empty node.ranked.mill);
          mill = rw start refl;
          open_slab = open_slab;
        }))
  ]

  joins : Carries (joined (slab_at empty groups g) order) (group_of grown g)
  joins = rw same (Carries-joined (slab_at empty groups g) (group_of node g) order target.carries)

  -- it may join exactly where the group stays legal
  pub fits-legal :
      IsWithinBounds (joined (slab_at empty groups g) order)
      ↔ (legal node.ranked.mill (group_of grown g) ≡ true)
  fits-legal =
      let old = slab_at empty groups g in
      let law = bounds-legal (joined old order) (group_of grown g)
      (once-with_colour old.colours order.colour target.open_slab.once) joins in
      (λ bounds. rw (← target.mill) (law.0 bounds), λ stays. law.1 (rw target.mill stays))

  module _ (fits : IsWithinBounds (joined (slab_at empty groups g) order)) where
    joined-group : (taken : OpenSlab) → taken ≡ joined (slab_at empty groups g) order →
        IsGroup grown g taken
    joined-group taken e = record {
      carries = rw e joins;
      mill = rw e target.mill;
      open_slab =
          rw e (IsOpenSlab-joined (slab_at empty groups g) order target.open_slab fits);
      is_legal = fits-legal.0 fits;
      some_colour = rw e (some-colour (slab_at empty groups g).colours order.colour);
    }

    old-group : (s : ℕ) (old : OpenSlab) → eqb s g ≡ false → slice_get groups s ≡ Some old →
        IsGroup grown s old
    old-group s old h e =
        let was : IsGroup node s old = is.each s old e in
        record {
          carries =
              rw (slab-other node.path (orders_of node.ranked) g order next s h) was.carries;
          mill = was.mill;
          open_slab = was.open_slab;
          is_legal =
              rw (slab-other node.path (orders_of node.ranked) g order next s h) was.is_legal;
          some_colour = was.some_colour;
        }

    -- and then these are the groups
    pub groups-grown : AreGroups grown (with_order empty groups g order)
    groups-grown = record {
      count =
          length-with_order empty groups g order low
          ∙ sym (next_new-push g node.path ∙ omega (arith, is.count));
      each = λ s group e. elim (either (eqb s g)) [
        | inl h ↦ rw (eqb-true s g h) (joined-group group (at-joined empty groups g order group
            low (rw (eqb-true s g h) at e)))
        | inr h ↦ old-group s group h (at-old empty groups g s order group
            (false-eqb s g (sym h)) low e)
      ];
    }
