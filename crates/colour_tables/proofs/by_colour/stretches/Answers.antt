use Rattle.std.proofs.Common.{◌≡◌, ◌++◌, ◌∷◌, [], arith, rules, sym, subst}
use Rattle.colour_tables.specs.Stretches.{IsStretch, AreStretches}
use Rattle.colour_tables.proofs.StretchesFound.{stretch-from, before-end, no-stretch, next-stretch}
use Rattle.colour_tables.proofs.by_colour.stretches.Goals as goal

pub loop-at-init : goal.loop-at-init
loop-at-init c = record {
  inside = omega arith;
  border = λ h s b. absurd (omega arith);
  done =
      let e : c.in_ok-ends.ends.items ≡ [] = search rules in
      subst (λ xs. AreStretches c.args.sorted.now 0 xs) (sym e) (no-stretch c.args.sorted.now);
}

pub loop-at-preserved : goal.loop-at-preserved
loop-at-preserved c =
    let run : IsStretch c.args.sorted.now c.loop-at.at c.stretch_end-end.result =
    stretch-from c.args.sorted.now c.requires.rising c.loop-at.at c.stretch_end-end.result
    c.stretch_end-end.ensures.some c.stretch_end-end.ensures.ends
    (c.loop-at.invariant.border c.loop-at-test.true) c.stretch_end-end.ensures.alike
    c.stretch_end-end.ensures.other in
    let e : c.push.new.self.items ≡ c.loop-at.ends.items
    ++ (c.loop-at.at, c.stretch_end-end.result) ∷ [] = search rules in
    record {
      inside = c.stretch_end-end.ensures.ends;
      border = before-end c.args.sorted.now c.loop-at.at c.stretch_end-end.result run;
      done =
          next-stretch c.args.sorted.now c.loop-at.at c.stretch_end-end.result c.loop-at.ends.items
          c.push.new.self.items e c.loop-at.invariant.done run;
    }
