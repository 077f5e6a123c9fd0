-- The ascent and the sweep give valid prices, and the groups' least slacks under these.
use Rattle.std.proofs.Common.{ℕ, ◌≡◌, List, ◌++◌, length, take, drop, ℤ, ◌≤ℤ◌, sym, ap, ◌∙◌}
use Rattle.std.proofs.Common.{subst, arith, append-nil}
use Rattle.std.proofs.lemmas.List.{length-drop, take_all, drop_all}
use Rattle.mill_model.specs.Bounds.{no_prices}
use Rattle.mill_model.specs.Charges.{charge_of}
use Rattle.mill_laws.specs.PriceLaws.{AreValidAt}
use Rattle.mill_laws.proofs.Ascent.{least-stays}
use Rattle.mill_laws.proofs.Paths.{tree-length}
use Rattle.mill_laws.proofs.PriceLaws.{ascent-prices-are-valid, swept-prices-are-valid}
use Rattle.mill_laws.proofs.PriceLaws.{swept-prices-are-worth-no-less}
use Rattle.order_symmetry.specs.Ranked.{orders_of}
use Rattle.split_tree.specs.Node.{Node, IsNode}
use Rattle.column_price.specs.Nodes.{Pricing, IsPricing, AreSlacks, AreValidSlacks, EachIsLight}
use Rattle.column_price.specs.Nodes.{are_valid, with_prices, rest_of, ascent_at, swept_at, worth_at}
use Rattle.column_price.proofs.AtNode.{slabs}

-- the groups' least slacks at prices of zero stay through the ascent
pub slacks-stay : (node : Node) → IsNode node → (charge : ℕ → ℕ) (firsts : List ℤ) →
    AreSlacks node charge (no_prices (rest_of node)) firsts →
    AreSlacks node charge (ascent_at node charge) firsts
slacks-stay node is charge firsts are = record {
  count = are.count;
  each = λ g b.
      are.each g b
      ∙ sym (least-stays node.ranked.mill charge (orders_of node.ranked) node.path (slabs node is) g
      (omega (arith, are.count)));
  small = are.small;
}

-- the ascent's prices are valid, so that slacks under them are those of valid prices
pub ascent-valid-slacks : (start pricing : Pricing) (slacks : List ℤ) → IsNode start.node →
    pricing ≡ with_prices start (ascent_at start.node (charge_of start.charges)) →
    AreSlacks start.node (charge_of start.charges) pricing.prices slacks →
    AreValidSlacks pricing slacks
ascent-valid-slacks start pricing slacks is e are =
    let prices : pricing.prices ≡ ascent_at start.node (charge_of start.charges) =
    ap (λ (p : Pricing). p.prices) e in
    let raised = subst (λ (ys : List ℤ). AreSlacks start.node (charge_of start.charges) ys slacks)
    prices are in
    let law = ascent-prices-are-valid start.node.ranked.mill (charge_of start.charges)
    (orders_of start.node.ranked) start.node.path is.tree in
    subst (λ (p : Pricing). AreValidSlacks p slacks) (sym e)
    (record { of_valid = law.are_valid; are_least = raised })

-- so are prices after a sweep of valid ones, and they are worth no less
module _ (start pricing : Pricing) (is : IsPricing start) (light : EachIsLight start.node)
    (v : are_valid start.node (charge_of start.charges) start.prices)
    (e : pricing ≡ with_prices start
    (swept_at start.node (charge_of start.charges) start.prices)) where
  before : AreValidAt start.node.ranked.mill (charge_of start.charges)
      (orders_of start.node.ranked) start.node.path start.prices
  before = record {
    one_each =
        omega (
          arith,
          is.prices.one_each,
          length-drop (length start.node.path) (orders_of start.node.ranked),
          tree-length start.node.ranked.mill (orders_of start.node.ranked) start.node.path
              is.node.tree,
        );
    are_valid = v;
  }

  pub swept-valid-slacks : (slacks : List ℤ) →
      AreSlacks start.node (charge_of start.charges) pricing.prices slacks →
      AreValidSlacks pricing slacks
  swept-valid-slacks slacks are =
      let now = subst (λ (p : Pricing). AreSlacks start.node (charge_of start.charges) p.prices
      slacks) e are in
      let law = swept-prices-are-valid start.node.ranked.mill (charge_of start.charges)
      (orders_of start.node.ranked) start.node.path start.prices is.node.tree before in
      subst (λ (p : Pricing). AreValidSlacks p slacks) (sym e)
      (record { of_valid = law.are_valid; are_least = now })

  pub swept-no-less :
      worth_at start.node (charge_of start.charges) start.prices
      ≤ℤ worth_at start.node (charge_of start.charges) pricing.prices
  swept-no-less =
      subst (λ (p : Pricing). worth_at start.node (charge_of start.charges) start.prices
      ≤ℤ worth_at start.node (charge_of start.charges) p.prices) (sym e)
      (swept-prices-are-worth-no-less start.node.ranked.mill (charge_of start.charges)
      (orders_of start.node.ranked) start.node.path start.prices is.node.tree
      (record { some_colour = is.some_colour; not_too_heavy = light }) before)

-- what is written back into a whole list is what was written
pub written-back : (new items : List ℤ) (n : ℕ) → length new ≡ length items → n ≡ length items →
    take n (new ++ drop (length new) items) ≡ new
written-back new items n same whole =
    ap (λ (ys : List ℤ). take n (new ++ ys)) (drop_all (length new) items (omega arith))
    ∙ ap (take n) (append-nil new) ∙ take_all n new (omega arith)
