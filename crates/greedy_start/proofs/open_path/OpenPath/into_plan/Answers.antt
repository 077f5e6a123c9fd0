use Rattle.std.proofs.Common.{◌≡◌, List, ℕ, sym, subst, true}
use Rattle.std.specs.Prelude.{IfOk}
use Rattle.mill_model.specs.Plan.{numbers_each}
use Rattle.mill_model.specs.Rank.{rank}
use Rattle.mill_model.specs.declared.order.Order.{Order}
use Rattle.order_symmetry.specs.Ranked.{IsPlanOf, orders_of}
use Rattle.split_tree.specs.Node.{Node}
use Rattle.split_tree.proofs.Nodes.{leaf-returned}
use Rattle.greedy_start.proofs.Wholes.{groups-legal}
use Rattle.greedy_start.proofs.open_path.OpenPath.into_plan.Goals as goal

pub plan_of-requires : goal.plan_of-requires
plan_of-requires c =
    let node : Node = record {
      ranked = c.args.self.ranked.now;
      path = c.args.self.numbers.items;
    } in
    subst (λ (path : List ℕ). numbers_each path (orders_of node.ranked) ≡ true)
    (sym c.from_list.ensures)
    (groups-legal node c.args.self.groups.items c.args.self.are_groups c.args.self.few_groups
    c.requires).each

pub returns-clause-legal : goal.returns-clause-legal
returns-clause-legal c =
    let node : Node = record {
      ranked = c.args.self.ranked.now;
      path = c.args.self.numbers.items;
    } in
    leaf-returned node c.plan_of-2.result
    (groups-legal node c.args.self.groups.items c.args.self.are_groups c.args.self.few_groups
    c.requires)
    (subst (λ (path : List ℕ). IfOk c.plan_of-2.result (λ plan. (orders : List Order) →
    node.ranked.placed ≡ rank orders → IsPlanOf orders path plan)) c.from_list.ensures
    c.plan_of-2.ensures)
