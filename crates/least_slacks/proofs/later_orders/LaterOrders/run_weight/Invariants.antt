use Rattle.std.proofs.Common.{◌≡◌, ◌+◌, ◌-◌, ◌*◌, ◌^◌, ◌≤◌}
use Rattle.least_slacks.specs.Items.{carried}
use Rattle.least_slacks.proofs.later_orders.LaterOrders.run_weight.Given as goal

abbrev pub invariant-loop-t : goal.invariant-loop-t
invariant-loop-t l = record {
  is :
      carried l.self.rest.now l.self.items.now l.fn.run.0 + l.weight
      ≡ carried l.self.rest.now l.self.items.now l.t;
  small : l.weight ≤ (l.t - l.fn.run.0) * 2 ^ 32;
}
