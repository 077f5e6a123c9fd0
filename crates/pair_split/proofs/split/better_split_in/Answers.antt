-- The cheapest of the loads that the table of all orders marks is the load of a cheapest split. So
-- where it loses less than the bound, the way back from its state marks such a split; where it
-- loses no less, or where no load is marked, no split is below the bound.
use Rattle.std.proofs.Common.{◌≡◌, ◌+◌, ℕ, arith, refl, Some, None, ap, ◌∙◌}
use Rattle.mill_model.specs.Charges.{charge_of}
use Rattle.mill_model.specs.Slab.{load}
use Rattle.pair_split.specs.Tables.{mill_in}
use Rattle.pair_split.specs.declared.state.State.{State}
use Rattle.pair_split.proofs.GatheredLoads.{some-cost}
use Rattle.pair_split.proofs.CheapestSplit.{grouped-drop, none-cheap, cheapest-split}
use Rattle.pair_split.proofs.CheapestSplit.{cheapest-state, cheapest-is, none-some}
use Rattle.pair_split.proofs.split.better_split_in.Goals as goal

pub fill_table-requires-clause-together : goal.fill_table-requires-clause-together
fill_table-requires-clause-together c = grouped-drop c.args.orders.now c.requires.together

pub mark_split-requires-clause-together : goal.mark_split-requires-clause-together
mark_split-requires-clause-together c = grouped-drop c.args.orders.now c.requires.together

pub state_with-target-requires-clause-load : goal.state_with-target-requires-clause-load
state_with-target-requires-clause-load c =
    let cheapest = cheapest-is (charge_of c.args.charges.now) (load c.args.orders.now)
    c.args.layout.largest (c.args.layout.largest + 1) c.gather_loads.new.loads _ _
    c.in-Some.is c.cheapest_load.ensures in
    omega (arith, (cheapest.marked (c.in-Some.load, c.in-Some.loss) refl).1)

pub state_with-target-requires-clause-some : goal.state_with-target-requires-clause-some
state_with-target-requires-clause-some c =
    let cheapest = cheapest-is (charge_of c.args.charges.now) (load c.args.orders.now)
    c.args.layout.largest (c.args.layout.largest + 1) c.gather_loads.new.loads _ _
    c.in-Some.is c.cheapest_load.ensures in
    cheapest-state (mill_in c.args.layout) (charge_of c.args.charges.now)
    c.args.orders.now c.args.layout.words c.fill_table.new.table c.gather_loads.new.loads
    c.fill_table.ensures.table c.gather_loads.ensures (c.in-Some.load, c.in-Some.loss) cheapest

pub mark_split-requires-clause-reached : goal.mark_split-requires-clause-reached
mark_split-requires-clause-reached c = c.fill_table.ensures.table.found
    c.state_with-target.result c.state_with-target.ensures.within
    c.state_with-target.ensures.marked

pub returns-clause-split : goal.returns-clause-split
returns-clause-split c =
    let cheapest = cheapest-is (charge_of c.args.charges.now) (load c.args.orders.now)
    c.args.layout.largest (c.args.layout.largest + 1) c.gather_loads.new.loads _ _
    c.in-Some.is c.cheapest_load.ensures in
    cheapest-split (mill_in c.args.layout) (charge_of c.args.charges.now)
    c.args.orders.now c.args.layout.words c.fill_table.new.table c.gather_loads.new.loads
    c.fill_table.ensures.table c.gather_loads.ensures (c.in-Some.load, c.in-Some.loss) cheapest
    c.mark_split.new.marks c.mark_split.ensures.part
    (ap (λ (s : State). s.load) c.mark_split.ensures.is ∙ c.state_with-target.ensures.load)

pub returns-then-bound-loss-clause-none : goal.returns-then-bound-loss-clause-none
returns-then-bound-loss-clause-none c =
    let b : ℕ × ℕ = (c.in-Some.load, c.in-Some.loss) in
    let cheapest = cheapest-is (charge_of c.args.charges.now) (load c.args.orders.now)
    c.args.layout.largest (c.args.layout.largest + 1) c.gather_loads.new.loads _ _
    c.in-Some.is c.cheapest_load.ensures in
    none-cheap (mill_in c.args.layout) (charge_of c.args.charges.now)
    c.args.orders.now c.args.layout.words c.fill_table.new.table c.gather_loads.new.loads
    c.fill_table.ensures.table c.gather_loads.ensures c.args.bound (Some b) cheapest
    (λ d e. (let same : c.in-Some.loss ≡ d.1 = some-cost b d e in
    omega (arith, same, c.if-bound-loss.true)))

pub returns-in_default-clause-none : goal.returns-in_default-clause-none
returns-in_default-clause-none c =
    let cheapest = cheapest-is (charge_of c.args.charges.now) (load c.args.orders.now)
    c.args.layout.largest (c.args.layout.largest + 1) c.gather_loads.new.loads _ _
    c.in_default.is c.cheapest_load.ensures in
    none-cheap (mill_in c.args.layout) (charge_of c.args.charges.now)
    c.args.orders.now c.args.layout.words c.fill_table.new.table c.gather_loads.new.loads
    c.fill_table.ensures.table c.gather_loads.ensures c.args.bound None cheapest
    (λ b e. none-some b e)
