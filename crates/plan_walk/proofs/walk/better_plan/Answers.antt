use Rattle.std.proofs.Common.{arith}
use Rattle.plan_walk.proofs.walk.better_plan.Goals as goal

pub returns : goal.returns
returns c = record {
  plan = (c.in_ok-loss.ensures.legal c.in-Legal.loss).0 c.in-Legal.is;
  less = omega arith;
}
