use Rattle.std.proofs.Common.{◌∙◌, sym, SFits, w64, to_z-of_z, rules}
use Rattle.mill_model.specs.Charges.{charge_of}
use Rattle.set_minima.specs.Cells.{found}
use Rattle.set_minima.proofs.Least.{without-is}
use Rattle.knap_bound.proofs.JoinedOrders.{carried}
use Rattle.knap_bound.proofs.knapsack.Knapsack.least_on_without.Goals as goal

pub returns-clause-is : goal.returns-clause-is
returns-clause-is c group carries =
    let now = c.args.self.now in
    let largest = now.mill.largest in
    let most = now.mill.most_colours in
    let rest = now.orders in
    let prices = c.args.prices.now in
    let charge = charge_of now.charges in
    let slab = c.args.slab.now in
    let f : SFits w64 c.gain_on.result = search rules in
    let e = simp to_z-of_z at c.least_of.ensures.is in
    e ∙ sym (without-is largest most charge rest prices group slab.load slab.colours
    (carried slab group carries) c.args.i (found c.gain_on.result) c.gain_on.ensures.top)
