use Rattle.std.proofs.Common.{◌∙◌, subst, SFits, w64, to_z-of_z, rules}
use Rattle.mill_model.specs.Charges.{charge_of}
use Rattle.mill_model.specs.Prices.{least_slack}
use Rattle.set_minima.specs.Packs.{IsTop}
use Rattle.set_minima.specs.Joins.{gain, Joins, all_but}
use Rattle.set_minima.specs.Cells.{found}
use Rattle.set_minima.proofs.Least.{on-is}
use Rattle.knap_bound.proofs.SlabGains.{none-skipped, known-least}
use Rattle.knap_bound.proofs.JoinedOrders.{carried}
use Rattle.knap_bound.proofs.knapsack.Knapsack.least_on.Goals as goal

pub returns-clause-is : goal.returns-clause-is
returns-clause-is c group carries =
    let now = c.args.self.now in
    let largest = now.mill.largest in
    let most = now.mill.most_colours in
    let rest = now.orders in
    let prices = c.args.prices.now in
    let charge = charge_of now.charges in
    let slab = c.args.slab.now in
    let best = c.gain_on.result in
    let f : SFits w64 best = search rules in
    let g : SFits w64 c.negated.result = search rules in
    let e = simp to_z-of_z at c.negated.ensures.is in
    let top = subst (λ skip. IsTop (Joins (all_but skip) 0 largest slab.load slab.colours most rest)
    (gain charge slab.load rest prices) (found best)) c.len-skip.ensures.is c.gain_on.ensures.top in
    simp to_z-of_z (e ∙ known-least (least_slack now.mill charge group rest prices) best
    c.gain_on.ensures.some (on-is largest most charge rest prices group slab.load slab.colours
    (carried slab group carries) (found best) c.gain_on.ensures.light c.gain_on.ensures.few
    (none-skipped 0 largest slab.load most slab.colours rest (gain charge slab.load rest prices)
    (found best) top)))
