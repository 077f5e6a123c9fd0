use Rattle.std.proofs.Common.{◌∙◌, ◌+◌, ◌*◌, get_or, pos, SFits, w64, to_z-of_z, rules}
use Rattle.colour_tables.specs.Threes.{row_entry}
use Rattle.colour_tables.proofs.ThreeGreatest.{three-next}
use Rattle.colour_tables.proofs.tops.look.Goals as goal

pub loop-i-preserved : goal.loop-i-preserved
loop-i-preserved c =
    let i = c.loop-i.i in
    let v = get_or c.args.rows.now (get_or c.args.present.now i 0 * c.args.width + c.args.load) (pos
    0) in
    let f : SFits w64 v = search rules in
    let e = simp to_z-of_z at c.inserted-tops.ensures in
    e ∙ three-next (row_entry c.args.rows.now c.args.width c.args.load) c.args.present.now i
    c.loop-i-test.true c.loop-i.tops c.loop-i.invariant
