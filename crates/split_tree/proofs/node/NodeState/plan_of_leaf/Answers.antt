use Rattle.std.proofs.Common.{◌≡◌, List, subst}
use Rattle.std.specs.Prelude.{IfOk}
use Rattle.mill_model.specs.Plan.{IsLegalPlan}
use Rattle.mill_model.specs.Rank.{rank}
use Rattle.mill_model.specs.declared.order.Order.{Order}
use Rattle.split_tree.specs.Node.{Node}
use Rattle.split_tree.proofs.Nodes.{leaf-plan, leaf-returned}
use Rattle.split_tree.proofs.node.NodeState.plan_of_leaf.Goals as goal

pub plan_of-requires : goal.plan_of-requires
plan_of-requires c = (leaf-plan _ c.self.invariant.0 (rw (← c.self.view_is) at c.requires)).each

pub returns-clause-legal : goal.returns-clause-legal
returns-clause-legal c =
    subst (λ (node : Node). IfOk c.plan_of.result (λ plan. (orders : List Order) →
    node.ranked.placed ≡ rank orders → IsLegalPlan node.ranked.mill orders plan)) c.self.view_is
    (leaf-returned _ c.plan_of.result (leaf-plan _ c.self.invariant.0
    (rw (← c.self.view_is) at c.requires)) c.plan_of.ensures)
