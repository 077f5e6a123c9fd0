use Rattle.std.proofs.Common.{SFits, w64, to_z-of_z, rules, ◌∙◌}
use Rattle.colour_tables.proofs.LeastNumbers.{le-true, le-false, lt-true}
use Rattle.colour_tables.proofs.ThreeGreatest.{replaced, stays, same-three}
use Rattle.colour_tables.proofs.tops.mended.Goals as goal

pub returns-then-tops-value : goal.returns-then-tops-value
returns-then-tops-value c =
    let fo : SFits w64 c.args.old = search rules in
    let fv : SFits w64 c.args.value = search rules in
    let fb : SFits w64 c.args.tops.best = search rules in
    let fs : SFits w64 c.args.tops.second = search rules in
    let ft : SFits w64 c.args.tops.third = search rules in
    let gx : SFits w64 c.left-x.result.0 = search rules in
    let gy : SFits w64 c.left-x.result.1 = search rules in
    let g0 : SFits w64 c.min-out.result = search rules in
    let g1 : SFits w64 c.max.result = search rules in
    let g2 : SFits w64 c.max-then-tops-value.result = search rules in
    let g3 : SFits w64 c.min.result = search rules in
    let a = le-true c.args.tops.third c.args.value (simp to_z-of_z at c.if-tops-value.true) in
    let l = simp to_z-of_z at c.left-x.ensures in
    let o = simp to_z-of_z at c.min-out.ensures.value in
    let e = simp to_z-of_z at c.max.ensures.value in
    let d = simp to_z-of_z at c.max-then-tops-value.ensures.value in
    let b = simp to_z-of_z at c.min.ensures.value in
    simp to_z-of_z (record {
      is = λ r sorted before after.
          same-three _ _ _ _ _ _ e (rw o at d) (rw o at b)
          ∙ replaced c.args.old c.args.value c.left-x.result.0 c.left-x.result.1
          c.args.tops r sorted before a l;
    })

pub returns-then-old-tops : goal.returns-then-old-tops
returns-then-old-tops c =
    let fo : SFits w64 c.args.old = search rules in
    let fv : SFits w64 c.args.value = search rules in
    let fb : SFits w64 c.args.tops.best = search rules in
    let fs : SFits w64 c.args.tops.second = search rules in
    let ft : SFits w64 c.args.tops.third = search rules in
    let a = le-false c.args.tops.third c.args.value (simp to_z-of_z at c.if-tops-value.false) in
    let b = lt-true c.args.old c.args.tops.third (simp to_z-of_z at c.if-old-tops.true) in
    record {
      is = λ r sorted before after.
          stays c.args.old c.args.value
          c.args.tops r sorted before b a;
    }
