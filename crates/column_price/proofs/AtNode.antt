-- What a node gives: the orders and the mill of its knapsack, and prices within the limits of a
-- price all the way through the ascent and the sweep.
use Rattle.std.proofs.Common.{ℕ, suc, ◌<◌, ◌≤◌, ◌≡◌, true, All, List, length}
use Rattle.std.proofs.Common.{set, length-set, ℤ, pos, sym, ap, ◌∙◌, subst, arith}
use Rattle.std.proofs.lemmas.List.{length-map, length-drop}
use Rattle.std.proofs.lemmas.List.{get_or-set_same}
use Rattle.mill_model.specs.Charges.{ChargeTable, charge_of}
use Rattle.mill_model.specs.Limits.{IsPrice}
use Rattle.mill_model.specs.Plan.{slab}
use Rattle.mill_model.specs.Slab.{Mill, legal}
use Rattle.mill_model.specs.Bounds.{ascent, ascent_slacks, least_of, or_zero, sweep}
use Rattle.mill_model.specs.Bounds.{swept_price}
use Rattle.mill_model.specs.declared.order.Order.{Order}
use Rattle.mill_model.specs.declared.order.TheConstants.{MAX_ORDERS}
use Rattle.mill_laws.specs.PlanLaws.{EachFits}
use Rattle.mill_laws.proofs.Ascent.{ascent-length}
use Rattle.mill_laws.proofs.Charges.{charge-small}
use Rattle.mill_laws.proofs.Paths.{tree-fits}
use Rattle.mill_laws.proofs.PricesWithin.{ascent-within, sweep-within}
use Rattle.mill_laws.proofs.Sweep.{sweep-length}
use Rattle.order_symmetry.specs.Ranked.{orders_of}
use Rattle.order_symmetry.proofs.Limits.{few}
use Rattle.split_tree.specs.Node.{Node, IsNode}
use Rattle.knap_bound.specs.Later.{Later}
use Rattle.column_price.specs.Nodes.{Pricing, IsAt, AreFor}
use Rattle.column_price.specs.Nodes.{EachIsLight, are_valid}
use Rattle.column_price.specs.Nodes.{rest_of}

-- the orders and the mill of a knapsack for the node
module _ (node : Node) (later : Later) (at : IsAt node later) where
  pub its-orders : later.orders ≡ rest_of node
  its-orders = ap (λ (k : Later). k.orders) at.same

  pub its-mill : later.mill ≡ node.ranked.mill
  its-mill = ap (λ (k : Later). k.mill) at.same

-- what a knapsack says of its orders under some prices, it says of the pricing that it serves
pub of-pricing : {X : Type 0} (f : Node → Mill → (ℕ → ℕ) → List Order → List ℤ → X)
    (pricing : Pricing) (node : Node) (later : Later) (items prices : List ℤ) →
    IsAt node later → prices ≡ items →
    record { node = node; charges = later.charges; prices = items } ≡ pricing → (x : X) →
    x ≡ f node later.mill (charge_of later.charges) later.orders prices →
    x ≡ f pricing.node pricing.node.ranked.mill (charge_of pricing.charges) (rest_of pricing.node)
    pricing.prices
of-pricing f pricing node later items prices at same is x e =
    subst (λ (p : Pricing). x ≡ f p.node p.node.ranked.mill (charge_of p.charges) (rest_of p.node)
    p.prices) is
    (e ∙ ap (λ (m : Mill). f node m (charge_of later.charges) later.orders prices)
    (its-mill node later at)
    ∙ ap (λ (orders : List Order). f node node.ranked.mill (charge_of later.charges) orders prices)
    (its-orders node later at)
    ∙ ap (λ (ys : List ℤ). f node node.ranked.mill (charge_of later.charges) (rest_of node) ys)
    same)

-- a price that has been set is within the limits where all are
set-within : (ys : List ℤ) (i : ℕ) (y : ℤ) → i < length ys → All IsPrice (set ys i y) → IsPrice y
set-within ys i y h all =
    subst IsPrice (get_or-set_same ys i y (pos 0) h)
    (all i (pos 0) (omega (arith, h, length-set ys i y)))

module _ (node : Node) (is : IsNode node) where
  pub slabs : (s : ℕ) → legal node.ranked.mill (slab s node.path (orders_of node.ranked)) ≡ true
  slabs s = tree-fits node.ranked.mill (orders_of node.ranked) node.path is.tree s

  module _ (some : 1 ≤ node.ranked.mill.most_colours)
      (light : EachIsLight node)
      (table : ChargeTable) where
    pub each-fits : EachFits node.ranked.mill (orders_of node.ranked)
    each-fits = record { some_colour = some; not_too_heavy = light }

    pub ascent-for : (i : ℕ) → i ≤ length (rest_of node) →
        AreFor node (ascent node.ranked.mill (charge_of table) (orders_of node.ranked) node.path i)
    ascent-for i h = record {
      one_each =
          ascent-length node.ranked.mill (charge_of table) (orders_of node.ranked) node.path i;
      within =
          ascent-within node.ranked.mill (charge_of table) (orders_of node.ranked) node.path
          (charge-small table.list table.limit) each-fits slabs i h;
    }

    -- each price of the ascent is within the limits of a price
    pub ascent-price : (i : ℕ) → i < length (rest_of node) → (ys : List ℤ) →
        ys ≡ ascent node.ranked.mill (charge_of table) (orders_of node.ranked) node.path i →
        IsPrice (or_zero (least_of (ascent_slacks node.ranked.mill (charge_of table)
        (orders_of node.ranked) node.path ys i)))
    ascent-price i h ys e =
        let price = λ (zs : List ℤ). or_zero (least_of (ascent_slacks node.ranked.mill
        (charge_of table) (orders_of node.ranked) node.path zs i)) in
        let before =
        ascent node.ranked.mill (charge_of table) (orders_of node.ranked) node.path i in
        subst (λ (zs : List ℤ). IsPrice (price zs)) (sym e)
        (set-within before i (price before)
        (omega (arith, (ascent-for i (omega arith)).one_each))
        (ascent-for (suc i) (omega arith)).within)

    pub sweep-for : (prices : List ℤ) → AreFor node prices →
        are_valid node (charge_of table) prices → (i : ℕ) → i ≤ length (rest_of node) →
        AreFor node
        (sweep node.ranked.mill (charge_of table) (orders_of node.ranked) node.path prices i)
    sweep-for prices are v i h = record {
      one_each =
          sweep-length node.ranked.mill (charge_of table) (orders_of node.ranked) node.path prices i
          ∙ are.one_each;
      within =
          sweep-within node.ranked.mill (charge_of table) (orders_of node.ranked) node.path
          (charge-small table.list table.limit) each-fits prices slabs are.one_each v are.within i
          h;
    }

    -- and so is each price of a sweep
    pub sweep-price : (prices : List ℤ) → AreFor node prices →
        are_valid node (charge_of table) prices → (i : ℕ) → i < length (rest_of node) →
        (ys : List ℤ) →
        ys ≡ sweep node.ranked.mill (charge_of table) (orders_of node.ranked) node.path prices i →
        IsPrice (swept_price node.ranked.mill (charge_of table) (orders_of node.ranked) node.path
        (set ys i (pos 0)) i)
    sweep-price prices are v i h ys e =
        let price = λ (zs : List ℤ). swept_price node.ranked.mill (charge_of table)
        (orders_of node.ranked) node.path (set zs i (pos 0)) i in
        let before =
        sweep node.ranked.mill (charge_of table) (orders_of node.ranked) node.path prices i in
        subst (λ (zs : List ℤ). IsPrice (price zs)) (sym e)
        (set-within before i (price before)
        (omega (arith, (sweep-for prices are v i (omega arith)).one_each))
        (sweep-for prices are v (suc i) (omega arith)).within)

pub few-later : (node : Node) → IsNode node → length (rest_of node) ≤ MAX_ORDERS
few-later node is =
    let n : length (orders_of node.ranked) ≡ length node.ranked.placed =
    length-map node.ranked.placed (λ x. x.order) in
    let d = length-drop (length node.path) (orders_of node.ranked) in
    omega (arith, n, d, few node.ranked is.ranked)
