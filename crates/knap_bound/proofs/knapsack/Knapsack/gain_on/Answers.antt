-- The tables' gain beside the load and the colours of a slab is that of a set, since the empty set
-- joins.
use Rattle.std.proofs.Common.{◌≡◌, ℕ, ◌≤◌, List, ap, sym, subst, SFits, w64, to_z-of_z}
use Rattle.std.proofs.Common.{rules, arith}
use Rattle.mill_model.specs.Charges.{charge_of}
use Rattle.mill_model.specs.Slab.{Mill}
use Rattle.list_laws.specs.Sets.{different}
use Rattle.set_minima.specs.Joins.{gain, Joins, all_but}
use Rattle.set_minima.specs.Cells.{found}
use Rattle.knap_bound.proofs.SlabGains.{gain-small, gain-found, are-prices}
use Rattle.knap_bound.proofs.knapsack.Knapsack.gain_on.Goals as goal

pub returns-clause-some : goal.returns-clause-some
returns-clause-some c =
    let now = c.args.self.now in
    let largest = now.mill.largest in
    let most = now.mill.most_colours in
    let rest = now.orders in
    let prices = c.args.prices.now in
    let charge = charge_of now.charges in
    let f : SFits w64 c.gain_beside.result = search rules in
    let kept = c.load.ensures.kept in
    let mill : c.args.slab.now.mill.largest ≡ largest =
    ap (λ (m : Mill). m.largest) c.requires.mill in
    let colours : c.args.slab.now.mill.most_colours ≡ most =
    ap (λ (m : Mill). m.most_colours) c.requires.mill in
    let light : c.load.result ≤ largest =
    omega (arith, c.load.ensures.is, kept.bounds.light, mill) in
    let own : different c.colours.result.now ≤ most =
    subst (λ (own : List ℕ). different own ≤ most) (sym c.colours.ensures.is)
    (omega (arith, kept.once, kept.bounds.few, colours)) in
    simp to_z-of_z (gain-found (all_but c.args.skip) largest c.load.result most
    c.colours.result.now rest (gain charge c.load.result rest prices) c.gain_beside.result light own
    c.gain_beside.ensures.top)

pub returns-clause-small : goal.returns-clause-small
returns-clause-small c =
    let now = c.args.self.now in
    let largest = now.mill.largest in
    let most = now.mill.most_colours in
    let rest = now.orders in
    let prices = c.args.prices.now in
    let charge = charge_of now.charges in
    let f : SFits w64 c.gain_beside.result = search rules in
    let limits = c.gain_beside.ensures.limits in
    let kept = c.load.ensures.kept in
    let mill : c.args.slab.now.mill.largest ≡ largest =
    ap (λ (m : Mill). m.largest) c.requires.mill in
    let colours : c.args.slab.now.mill.most_colours ≡ most =
    ap (λ (m : Mill). m.most_colours) c.requires.mill in
    let light : c.load.result ≤ largest =
    omega (arith, c.load.ensures.is, kept.bounds.light, mill) in
    let own : different c.colours.result.now ≤ most =
    subst (λ (own : List ℕ). different own ≤ most) (sym c.colours.ensures.is)
    (omega (arith, kept.once, kept.bounds.few, colours)) in
    simp to_z-of_z (gain-small (Joins (all_but c.args.skip) 0 largest c.load.result
    c.colours.result.now most rest) now.charges c.load.result rest prices
    (found c.gain_beside.result) (omega (arith, c.requires.one_each, limits.few))
    (are-prices prices c.requires.priced) c.gain_beside.ensures.top c.gain_beside.result
    (gain-found (all_but c.args.skip) largest c.load.result most
    c.colours.result.now rest (gain charge c.load.result rest prices) c.gain_beside.result light own
    c.gain_beside.ensures.top))
