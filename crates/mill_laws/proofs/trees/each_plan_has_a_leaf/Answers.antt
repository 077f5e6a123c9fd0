use Rattle.mill_laws.proofs.TreeLaws.{each-plan-has-a-leaf}
use Rattle.mill_laws.proofs.trees.each_plan_has_a_leaf.Goals as goal

pub returns : goal.returns
returns c = each-plan-has-a-leaf
