use Rattle.std.proofs.Common.{◌≡◌, ◌+◌, length, SFits, w64, to_z-of_z, rules}
use Rattle.set_minima.specs.Joins.{all_but}
use Rattle.knap_bound.proofs.gains.joined_gain.Goals as goal

pub returns-clause-top : goal.returns-clause-top
returns-clause-top c t once p =
    let packing = c.args.packing.now in
    let f : SFits w64 c.best_gain.result = search rules in
    let w : length c.join_layer.new.table ≡ length c.args.table.now = c.join_layer.auto.table in
    let top = rw w at (c.best_gain.ensures.top (all_but packing.skip) c.args.own.now
    (t + length c.args.own.now) packing.rest.now packing.prices.now) in
    simp to_z-of_z (top (c.join_layer.ensures.best t once p))
