-- A set with the order is one without it on the slab that the order joined, less the order's price.
use Rattle.std.proofs.Common.{◌≡◌, ◌∙◌, ◌++◌, ◌∷◌, [], false, sym}
use Rattle.std.proofs.Common.{subst, get_or}
use Rattle.std.proofs.Common.{pos, SFits, w64, to_z-of_z, rules, ◌+◌}
use Rattle.mill_model.specs.Charges.{charge_of}
use Rattle.mill_model.specs.Slab.{Mill, legal}
use Rattle.mill_model.specs.declared.order.Order.{Order}
use Rattle.set_minima.specs.Packs.{IsTop, nobody}
use Rattle.set_minima.specs.Joins.{gain, Joins, all_but}
use Rattle.set_minima.specs.Cells.{found}
use Rattle.set_minima.proofs.Holding.{with-is}
use Rattle.slab_rules.specs.OpenSlab.{OpenSlab, joined}
use Rattle.knap_bound.proofs.SlabGains.{found-same}
use Rattle.knap_bound.proofs.JoinedOrders.{carried, joined-top, none-holding, not-legal}
use Rattle.knap_bound.proofs.knapsack.Knapsack.least_on_with.Goals as goal

pub returns-then-not-fits-clause-is : goal.returns-then-not-fits-clause-is
returns-then-not-fits-clause-is c group carries =
    let now = c.args.self.now in
    let largest = now.mill.largest in
    let most = now.mill.most_colours in
    let rest = now.orders in
    let prices = c.args.prices.now in
    let charge = charge_of now.charges in
    let order = get_or rest c.args.i nobody in
    let refused : legal c.args.slab.now.mill (group ++ c.order-order.result ∷ []) ≡ false =
    not-legal c.fits.result _ c.if-not-fits.true (c.fits.ensures.legal group carries) in
    let there : legal c.args.slab.now.mill (group ++ order ∷ []) ≡ false =
    subst (λ (o : Order). legal c.args.slab.now.mill (group ++ o ∷ []) ≡ false)
    c.order-order.ensures.is refused in
    sym (none-holding now.mill charge group rest prices c.args.i c.requires.here
    (subst (λ (m : Mill). legal m (group ++ order ∷ []) ≡ false) c.requires.mill there))

pub returns-clause-is : goal.returns-clause-is
returns-clause-is c group carries =
    let now = c.args.self.now in
    let largest = now.mill.largest in
    let most = now.mill.most_colours in
    let rest = now.orders in
    let prices = c.args.prices.now in
    let charge = charge_of now.charges in
    let i = c.args.i in
    let slab = c.args.slab.now in
    let order = get_or rest i nobody in
    let best = found c.gain_on-gain.result in
    let f : SFits w64 c.gain_on-gain.result = search rules in
    let p : SFits w64 (get_or prices i (pos 0)) = search rules in
    let e = simp to_z-of_z at c.least_with.ensures.is in
    let its = λ (s : OpenSlab). IsTop (Joins (all_but i) 0 largest s.load s.colours most rest)
    (gain charge s.load rest prices) best in
    let top : its (joined slab c.order-order.result) =
    subst its c.with_order-joined.ensures c.gain_on-gain.ensures.top in
    let here : its (joined slab order) =
    subst (λ (o : Order). its (joined slab o)) c.order-order.ensures.is top in
    e ∙ sym (with-is largest most charge rest prices group slab.load slab.colours
    (carried slab group carries) i c.requires.here c.requires.one_each best
    (joined-top (all_but i) largest most rest (gain charge (slab.load + order.weight) rest prices)
    best slab order here))

pub returns-clause-small : goal.returns-clause-small
returns-clause-small c =
    let f : SFits w64 c.gain_on-gain.result = search rules in
    let s = simp to_z-of_z at c.least_with.ensures.small in
    s (λ v e. (let same : v ≡ c.gain_on-gain.result = found-same c.gain_on-gain.result v e in
    rw same c.gain_on-gain.ensures.small))
