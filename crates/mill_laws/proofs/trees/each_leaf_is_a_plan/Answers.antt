use Rattle.mill_laws.proofs.TreeLaws.{each-leaf-is-a-plan, each-path-is-canonical}
use Rattle.mill_laws.proofs.trees.each_leaf_is_a_plan.Goals as goal

pub returns-clause-legal : goal.returns-clause-legal
returns-clause-legal c = each-leaf-is-a-plan

pub returns-clause-canonical : goal.returns-clause-canonical
returns-clause-canonical c = each-path-is-canonical
