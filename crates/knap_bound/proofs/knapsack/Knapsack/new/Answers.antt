use Rattle.std.proofs.Common.{List, rules, subst}
use Rattle.mill_model.specs.declared.order.Order.{Order}
use Rattle.knap_bound.specs.Items.{AreItems}
use Rattle.knap_bound.proofs.LaterOrders.{later-limits}
use Rattle.knap_bound.proofs.knapsack.Knapsack.new.Goals as goal

pub invariant_of-result : goal.invariant_of-result
invariant_of-result c = record {
  limits = rw (
    c.in_ok-orders.ensures,
    c.largest-largest.ensures.is,
    c.p-most.ensures.is,
  ) (later-limits c.args.ranked.now c.p-most.ensures.kept c.args.charges.now c.args.from
      c.requires.reach);
  sorted =
      subst (λ (orders : List Order). AreItems orders c.in_ok-items.items.items)
      c.deref.ensures.value c.in_ok-items.ensures;
  one_long = search rules;
  layers_long = search rules;
}

pub returns-clause-kept : goal.returns-clause-kept
returns-clause-kept c = rw (
  c.in_ok-orders.ensures,
  c.largest-largest.ensures.is,
  c.p-most.ensures.is,
) (later-limits c.args.ranked.now c.p-most.ensures.kept c.args.charges.now c.args.from
    c.requires.reach)
