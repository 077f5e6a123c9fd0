use Rattle.std.proofs.Common.{SFits, w64, to_z-of_z, rules}
use Rattle.colour_tables.proofs.ThreeGreatest.{same-three}
use Rattle.colour_tables.proofs.tops.Three.inserted.Goals as goal

pub returns : goal.returns
returns c =
    let fb : SFits w64 c.args.self.best = search rules in
    let fs : SFits w64 c.args.self.second = search rules in
    let ft : SFits w64 c.args.self.third = search rules in
    let fx : SFits w64 c.args.x = search rules in
    let go : SFits w64 c.min-out.result = search rules in
    let g0 : SFits w64 c.max.result = search rules in
    let g1 : SFits w64 c.max-2.result = search rules in
    let g2 : SFits w64 c.min.result = search rules in
    let g3 : SFits w64 c.max-3.result = search rules in
    let out = simp to_z-of_z at c.min-out.ensures.value in
    let best = simp to_z-of_z at c.max.ensures.value in
    let second = simp to_z-of_z at c.max-2.ensures.value in
    let below = simp to_z-of_z at c.min.ensures.value in
    let third = simp to_z-of_z at c.max-3.ensures.value in
    simp to_z-of_z (same-three _ _ _ _ _ _ best (rw out at second)
    (rw out at (rw below at third)))
