use Rattle.std.proofs.Common.{SFits, w64, to_z-of_z, rules, arith, get_or, pos}
use Rattle.colour_tables.specs.Entries.{entry}
use Rattle.colour_tables.specs.Threes.{IsButOne}
use Rattle.colour_tables.proofs.LoadsWritten.{below-set}
use Rattle.colour_tables.proofs.tops.others.Goals as goal

pub loop-l-preserved : goal.loop-l-preserved
loop-l-preserved c =
    let f : SFits w64 c.but_one.result = search rules in
    let fx : SFits w64 (get_or c.args.row.now c.loop-l.l (pos 0)) = search rules in
    let fb : SFits w64 (get_or c.args.best.now c.loop-l.l (pos 0)) = search rules in
    let fs : SFits w64 (get_or c.args.second.now c.loop-l.l (pos 0)) = search rules in
    let e = simp to_z-of_z at c.but_one.ensures in
    simp to_z-of_z (below-set (λ k e. IsButOne (entry c.args.row.now k) (entry c.args.best.now k)
    (entry c.args.second.now k) e) c.loop-l.to c.loop-l.l c.but_one.result (omega arith) e
    c.loop-l.invariant)
