use Rattle.std.proofs.Common.{ℤ, ◌≡◌, get_or, pos, SFits, w64, to_z-of_z, rules, arith}
use Rattle.std.specs.Int.{int_max}
use Rattle.colour_tables.specs.Entries.{entry}
use Rattle.colour_tables.specs.Threes.{IsButTwo}
use Rattle.colour_tables.proofs.LoadsWritten.{below-set, first-set}
use Rattle.colour_tables.proofs.tops.others_of_two.Goals as goal

pub loop-l-preserved : goal.loop-l-preserved
loop-l-preserved c =
    let f : SFits w64 c.max.result = search rules in
    let fo : SFits w64 c.but_two.result = search rules in
    let fx : SFits w64 (get_or c.args.x.now c.loop-l.l (pos 0)) = search rules in
    let fz : SFits w64 (get_or c.args.z.now c.loop-l.l (pos 0)) = search rules in
    let fy : SFits w64 (get_or c.args.y.now c.loop-l.l (pos 0)) = search rules in
    let ft : SFits w64 (get_or c.args.third.now c.loop-l.l (pos 0)) = search rules in
    let fb : SFits w64 (get_or c.args.best.now c.loop-l.l (pos 0)) = search rules in
    let fs : SFits w64 (get_or c.args.second.now c.loop-l.l (pos 0)) = search rules in
    let e = simp to_z-of_z at c.but_two.ensures in
    let m = simp to_z-of_z at c.max.ensures.value in
    simp to_z-of_z (below-set (λ k e. (w : ℤ) × IsButTwo (entry c.args.x.now k) (entry c.args.y.now
    k)
    (entry c.args.best.now k) (entry c.args.second.now k) (entry c.args.third.now k) w
    × (e ≡ int_max w (entry c.args.z.now k))) c.loop-l.to c.loop-l.l c.max.result (omega arith)
    (c.but_two.result, e, m) c.loop-l.invariant)

pub returns-clause-other : goal.returns-clause-other
returns-clause-other c l a b =
    first-set (λ k e. (w : ℤ) × IsButTwo (entry c.args.x.now k) (entry c.args.y.now k)
    (entry c.args.best.now k) (entry c.args.second.now k) (entry c.args.third.now k) w
    × (e ≡ int_max w (entry c.args.z.now k))) c.loop-l.to (pos 0) c.loop-l.l c.loop-l.invariant l a
    (omega arith)
