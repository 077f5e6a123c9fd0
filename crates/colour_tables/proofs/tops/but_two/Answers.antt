use Rattle.std.proofs.Common.{SFits, w64, to_z-of_z, rules}
use Rattle.colour_tables.proofs.ThreeGreatest.{two-middle, two-lower}
use Rattle.colour_tables.proofs.tops.but_two.Goals as goal

pub returns-then-low-second : goal.returns-then-low-second
returns-then-low-second c =
    let fx : SFits w64 c.args.x = search rules in
    let fy : SFits w64 c.args.y = search rules in
    let fb : SFits w64 c.args.best = search rules in
    let fs : SFits w64 c.args.second = search rules in
    let fh : SFits w64 c.max-high.result = search rules in
    let fl : SFits w64 c.min-low.result = search rules in
    let e = simp to_z-of_z at c.max-high.ensures.value in
    let d = simp to_z-of_z at c.min-low.ensures.value in
    let a = simp to_z-of_z at c.if-high-best.false in
    let b = simp to_z-of_z at c.if-low-second.true in
    simp to_z-of_z (two-middle c.args.x c.args.y c.args.best c.args.second c.args.third
    c.max-high.result c.min-low.result e d a b)

pub returns-else-low-second : goal.returns-else-low-second
returns-else-low-second c =
    let fx : SFits w64 c.args.x = search rules in
    let fy : SFits w64 c.args.y = search rules in
    let fb : SFits w64 c.args.best = search rules in
    let fs : SFits w64 c.args.second = search rules in
    let ft : SFits w64 c.args.third = search rules in
    let fh : SFits w64 c.max-high.result = search rules in
    let fl : SFits w64 c.min-low.result = search rules in
    let e = simp to_z-of_z at c.max-high.ensures.value in
    let d = simp to_z-of_z at c.min-low.ensures.value in
    let a = simp to_z-of_z at c.if-high-best.false in
    let b = simp to_z-of_z at c.if-low-second.false in
    simp to_z-of_z (two-lower c.args.x c.args.y c.args.best c.args.second c.args.third
    c.max-high.result c.min-low.result e d a b)
