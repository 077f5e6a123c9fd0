use Rattle.std.proofs.Common.{◌≡◌, ◌*◌}
use Rattle.instance_drill.specs.Draws.{state_after}
use Rattle.instance_drill.specs.Drilled.{orders_from}
use Rattle.instance_drill.proofs.drill.orders_of.Given as goal

abbrev pub invariant-loop : goal.invariant-loop
invariant-loop l = record {
  orders : l.orders.items ≡ orders_from l.seed l.counter;
  state : l.draws.state ≡ state_after l.seed (2 * l.counter);
}
