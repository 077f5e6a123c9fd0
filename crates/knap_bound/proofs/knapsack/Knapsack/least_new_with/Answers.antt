-- A set with the order is one without it on a slab that has the order, less the order's price.
use Rattle.std.proofs.Common.{◌≡◌, ◌+◌, ◌<◌, ◌∙◌, [], ◌∷◌, sym, subst, get_or, pos, SFits, w64}
use Rattle.std.proofs.Common.{to_z-of_z, rules}
use Rattle.std.proofs.Common.{arith}
use Rattle.mill_model.specs.Charges.{charge_of}
use Rattle.mill_model.specs.declared.order.Order.{Order}
use Rattle.set_minima.specs.Packs.{IsTop, nobody}
use Rattle.set_minima.specs.Joins.{gain, Joins, all_but}
use Rattle.set_minima.specs.Cells.{found}
use Rattle.set_minima.proofs.Holding.{with-is}
use Rattle.set_minima.proofs.Least.{new-slab}
use Rattle.knap_bound.proofs.SlabGains.{are-prices, gain-small}
use Rattle.knap_bound.proofs.JoinedOrders.{too-heavy}
use Rattle.knap_bound.proofs.knapsack.Knapsack.least_new_with.Goals as goal

pub returns-then-largest-weight-clause-is : goal.returns-then-largest-weight-clause-is
returns-then-largest-weight-clause-is c =
    let now = c.args.self.now in
    let largest = now.mill.largest in
    let most = now.mill.most_colours in
    let rest = now.orders in
    let prices = c.args.prices.now in
    let charge = charge_of now.charges in
    let w = c.order-order.ensures.is in
    sym (too-heavy now.mill charge rest prices c.args.i c.requires.here
    (subst (λ (o : Order). largest < o.weight) w
    (omega (arith, c.largest.ensures.is, c.if-largest-weight.true))))

pub returns-clause-is : goal.returns-clause-is
returns-clause-is c =
    let now = c.args.self.now in
    let largest = now.mill.largest in
    let most = now.mill.most_colours in
    let rest = now.orders in
    let prices = c.args.prices.now in
    let charge = charge_of now.charges in
    let i = c.args.i in
    let order = get_or rest i nobody in
    let best = found c.gain_beside-gain.result in
    let f : SFits w64 c.gain_beside-gain.result = search rules in
    let p : SFits w64 (get_or prices i (pos 0)) = search rules in
    let e = simp to_z-of_z at c.least_with.ensures.is in
    let top = subst (λ (o : Order). IsTop (Joins (all_but i) 0 largest o.weight (o.colour ∷ []) most
    rest) (gain charge o.weight rest prices) best) c.order-order.ensures.is
    c.gain_beside-gain.ensures.top in
    let z : order.weight ≡ 0 + order.weight = omega arith in
    let beside = subst (λ base. IsTop (Joins (all_but i) 0 largest base (order.colour ∷ []) most
    rest)
    (gain charge base rest prices) best) z top in
    e ∙ sym (with-is largest most charge rest prices [] 0 []
    (new-slab largest most charge rest prices) i c.requires.here c.requires.one_each best beside)

pub returns-clause-small : goal.returns-clause-small
returns-clause-small c =
    let now = c.args.self.now in
    let largest = now.mill.largest in
    let most = now.mill.most_colours in
    let rest = now.orders in
    let prices = c.args.prices.now in
    let charge = charge_of now.charges in
    let order = c.order-order.result in
    let best = found c.gain_beside-gain.result in
    let f : SFits w64 c.gain_beside-gain.result = search rules in
    let s = simp to_z-of_z at c.least_with.ensures.small in
    s (λ v e. gain-small (Joins (all_but c.args.i) 0 largest order.weight (order.colour ∷ []) most
    rest) now.charges order.weight rest prices best
    (omega (arith, c.requires.one_each, c.order-order.ensures.kept.few))
    (are-prices prices c.requires.priced) c.gain_beside-gain.ensures.top v e)
