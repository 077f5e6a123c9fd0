use Rattle.std.proofs.Common.{◌∙◌, [], sym, subst, SFits, w64, to_z-of_z, rules, arith}
use Rattle.mill_model.specs.Charges.{charge_of}
use Rattle.set_minima.specs.Packs.{IsTop}
use Rattle.set_minima.specs.Joins.{gain, Joins, all_but}
use Rattle.set_minima.specs.Cells.{found, slack_limit}
use Rattle.set_minima.proofs.Least.{new-is}
use Rattle.knap_bound.proofs.SlabGains.{are-orders, are-prices, none-skipped, gain-small}
use Rattle.knap_bound.proofs.SlabGains.{small-wider}
use Rattle.knap_bound.proofs.knapsack.Knapsack.least_new.Goals as goal

pub returns-clause-is : goal.returns-clause-is
returns-clause-is c =
    let now = c.args.self.now in
    let largest = now.mill.largest in
    let most = now.mill.most_colours in
    let rest = now.orders in
    let prices = c.args.prices.now in
    let charge = charge_of now.charges in
    let best = found c.gain_beside.result in
    let f : SFits w64 c.gain_beside.result = search rules in
    let e = simp to_z-of_z at c.least_of.ensures.is in
    let top = subst (λ skip. IsTop (Joins (all_but skip) 1 largest 0 [] most rest)
    (gain charge 0 rest prices) best) c.len-skip.ensures.is c.gain_beside.ensures.top in
    e ∙ sym (new-is largest most charge rest prices best
    (are-orders rest c.len-skip.ensures.kept.each)
    (none-skipped 1 largest 0 most [] rest (gain charge 0 rest prices) best top))

pub returns-clause-small : goal.returns-clause-small
returns-clause-small c =
    let now = c.args.self.now in
    let largest = now.mill.largest in
    let most = now.mill.most_colours in
    let rest = now.orders in
    let prices = c.args.prices.now in
    let charge = charge_of now.charges in
    let best = found c.gain_beside.result in
    let f : SFits w64 c.gain_beside.result = search rules in
    let s = simp to_z-of_z at (c.least_of.ensures.small slack_limit) in
    s (λ v e. small-wider v (gain-small (Joins (all_but c.len-skip.result) 1 largest 0 [] most rest)
    now.charges 0 rest prices best (omega (arith, c.requires.one_each, c.len-skip.ensures.kept.few))
    (are-prices prices c.requires.priced) c.gain_beside.ensures.top v e))
