use Rattle.std.proofs.Common.{◌+ℤ◌, ◌∙◌, All, length, ap, ap₂, subst, sym, SFits, w64, to_z-of_z}
use Rattle.std.proofs.Common.{rules, arith}
use Rattle.std.proofs.lemmas.List.Elements.{All-weaker}
use Rattle.mill_model.specs.Charges.{charge_of}
use Rattle.mill_model.specs.Limits.{IsPrice}
use Rattle.list_laws.specs.Sets.{int_sum}
use Rattle.set_minima.specs.Cells.{IsSmall, slack_limit}
use Rattle.split_tree.proofs.Nodes.{few-groups}
use Rattle.column_price.proofs.AtNode.{few-later}
use Rattle.column_price.proofs.WorthSums.{worth-is, small-price}
use Rattle.column_price.proofs.node_prices.worth_of.Goals as goal

pub sum_of-requires-clause-few : goal.sum_of-requires-clause-few
sum_of-requires-clause-few c =
    omega (
      arith,
      c.requires.count,
      few-groups c.args.slacks.now.node c.prices-prices.ensures.kept.node,
    )

pub sum_of-requires-2-clause-few : goal.sum_of-requires-2-clause-few
sum_of-requires-2-clause-few c =
    let kept = c.prices-prices.ensures.kept in
    omega (
      arith,
      ap length c.prices-prices.ensures.is,
      kept.prices.one_each,
      few-later c.args.slacks.now.node kept.node,
    )

pub sum_of-requires-2-clause-small : goal.sum_of-requires-2-clause-small
sum_of-requires-2-clause-small c =
    subst (All (IsSmall slack_limit)) (sym c.prices-prices.ensures.is)
    (All-weaker IsPrice (IsSmall slack_limit) small-price c.args.slacks.now.prices
    c.prices-prices.ensures.kept.prices.within)

pub returns : goal.returns
returns c =
    let start = c.args.slacks.now in
    let f1 : SFits w64 c.sum_of.result = search rules in
    let f2 : SFits w64 c.sum_of-2.result = search rules in
    let f3 : SFits w64 (c.sum_of.result +ℤ c.sum_of-2.result) = search rules in
    simp to_z-of_z (ap₂ (λ a b. a +ℤ b) c.sum_of.ensures.is
    (c.sum_of-2.ensures.is ∙ ap int_sum c.prices-prices.ensures.is)
    ∙ worth-is start.node (charge_of start.charges) start.prices c.args.groups.now c.requires)
