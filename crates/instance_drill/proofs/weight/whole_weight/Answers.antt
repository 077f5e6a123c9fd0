use Rattle.std.proofs.Common.{arith}
use Rattle.instance_drill.proofs.Orders.{load-small}
use Rattle.instance_drill.proofs.weight.whole_weight.Goals as goal

pub overflow_add-weight : goal.overflow_add-weight
overflow_add-weight c =
    let orders = c.args.instance.now.orders in
    let within = c.loop-order.invariant.kept.within in
    let small = load-small orders within.each_order in
    let few = within.few_orders in
    let sum = c.loop-order.invariant.sum in
    let next = c.from-weight.ensures in
    omega (arith, small, few, sum, next)
