-- What tables that serve a pricing say of it.
use Rattle.std.proofs.Common.{ℕ, ◌<◌, ◌≡◌, true, List, length, get_or, ℤ, sym, ap, ◌∙◌, subst}
use Rattle.std.proofs.Common.{arith}
use Rattle.std.proofs.lemmas.List.{get_or_default}
use Rattle.mill_model.specs.Charges.{ChargeTable, charge_of}
use Rattle.mill_model.specs.Slab.{Mill, legal}
use Rattle.mill_model.specs.Tree.{next_new}
use Rattle.mill_model.specs.declared.order.Order.{Order}
use Rattle.slab_rules.specs.OpenSlab.{Carries, OpenSlab, empty_on}
use Rattle.colour_tables.specs.Grouped.{GroupedOrders, IsGroup as IsGroupOf, group_at}
use Rattle.colour_tables.specs.Leasts.{two_colours}
use Rattle.knap_bound.specs.Later.{Later}
use Rattle.split_tree.specs.Node.{Node, AreGroups, IsGroup, group_of}
use Rattle.split_tree.proofs.Losses.{group-at}
use Rattle.column_price.specs.Nodes.{Pricing, rest_of}
use Rattle.column_price.specs.Served.{Serves, AreOf}
use Rattle.column_price.specs.declared.slacks.Tables.TheVariants.{Colours, Layers}
use Rattle.column_price.proofs.AtNode.{its-mill, of-pricing}

-- the group at a place is that of the node
pub known-group : (node : Node) (groups : List OpenSlab) → AreGroups node groups → (g : ℕ) →
    g < next_new node.path → IsGroup node g (group_at groups g)
known-group node groups are g h =
    let l : g < length groups = omega (arith, h, are.count) in
    group-at node groups are g (group_at groups g) l
    (get_or_default groups g (empty_on (two_colours 0)) (group_at groups g) l)

-- a node's group has the mill of the knapsack that serves it
pub group-mill : (inside : Pricing) (later : Later) → Serves inside (Layers later) →
    (groups : List OpenSlab) → AreGroups inside.node groups → (g : ℕ) (group : OpenSlab) →
    g < length groups → group ≡ get_or groups g group → group.mill ≡ later.mill
group-mill inside later serves groups are g group here is =
    (group-at inside.node groups are g group here is).mill
    ∙ sym (its-mill inside.node later serves.0)

-- What is found of a group's orders, of the orders to come and of their prices in tables that serve
-- a pricing is so of the node's group. The tables of two colours have groups of their own; a
-- knapsack is asked with the group.
module _ (pricing inside : Pricing) (is : inside ≡ pricing) {X : Type 0}
    (found : List Order → Mill → (ℕ → ℕ) → List Order → List ℤ → X) (g : ℕ) (prices : List ℤ)
    (same : prices ≡ inside.prices) (x : X) where
  abbrev IsFoundAt : Pricing → Type 0
  IsFoundAt p =
      x ≡ found (group_of p.node g) p.node.ranked.mill (charge_of p.charges) (rest_of p.node)
      p.prices

  pub on-colours : (tables : GroupedOrders) → Serves inside (Colours tables) →
      g < next_new pricing.node.path →
      ((group : List Order) → IsGroupOf tables g group → legal tables.mill group ≡ true →
      x ≡ found group tables.mill (charge_of tables.charges) tables.orders prices) →
      x ≡ found (group_of pricing.node g) pricing.node.ranked.mill (charge_of pricing.charges)
      (rest_of pricing.node) pricing.prices
  on-colours tables of here each =
      let here : g < next_new inside.node.path =
      subst (λ (p : Pricing). g < next_new p.node.path) (sym is) here in
      let group = known-group inside.node tables.groups of.groups g here in
      let fits : legal tables.mill (group_of inside.node g) ≡ true =
      subst (λ (m : Mill). legal m (group_of inside.node g) ≡ true)
      (sym (ap (λ (t : GroupedOrders). t.mill) of.same)) group.is_legal in
      subst IsFoundAt is
      (each (group_of inside.node g) group.carries fits
      ∙ ap (λ (t : GroupedOrders). found (group_of inside.node g) t.mill (charge_of t.charges)
      t.orders prices) of.same
      ∙ ap (λ (ys : List ℤ). found (group_of inside.node g) inside.node.ranked.mill
      (charge_of inside.charges) (rest_of inside.node) ys) same)

  pub on-layers : (later : Later) → Serves inside (Layers later) → (groups : List OpenSlab) →
      AreGroups inside.node groups → (group : OpenSlab) → g < length groups →
      group ≡ get_or groups g group →
      ((orders : List Order) → Carries group orders →
      x ≡ found orders later.mill (charge_of later.charges) later.orders prices) →
      x ≡ found (group_of pricing.node g) pricing.node.ranked.mill (charge_of pricing.charges)
      (rest_of pricing.node) pricing.prices
  on-layers later serves groups are group here at each =
      of-pricing (λ (node : Node) (mill : Mill) (charge : ℕ → ℕ) (rest : List Order)
      (prices : List ℤ). found (group_of node g) mill charge rest prices) pricing inside.node later
      inside.prices prices serves.0 same
      (ap (λ (charges : ChargeTable). record {
        node = inside.node;
        charges = charges;
        prices = inside.prices;
      }) serves.1 ∙ is) x
      (each (group_of inside.node g)
      (group-at inside.node groups are g group here at).carries)
