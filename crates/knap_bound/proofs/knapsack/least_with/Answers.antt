use Rattle.std.proofs.Common.{◌+ℤ◌, SFits, w64, to_z-of_z, rules}
use Rattle.knap_bound.proofs.SlabGains.{priced-small}
use Rattle.knap_bound.proofs.knapsack.least_with.Goals as goal
use Rattle.set_minima.specs.Cells.{slack_limit}

pub returns-clause-small : goal.returns-clause-small
returns-clause-small c h =
    let g : SFits w64 c.args.gain = search rules in
    let p : SFits w64 c.args.price = search rules in
    let f : SFits w64 (c.args.gain +ℤ c.args.price) = search rules in
    let s = simp to_z-of_z at (c.least_of.ensures.small slack_limit) in
    s (priced-small c.args.gain c.args.price c.requires.near c.requires.price h)
