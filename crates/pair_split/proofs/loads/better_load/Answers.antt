use Rattle.std.proofs.Common.{◌≡◌, arith}
use Rattle.pair_split.proofs.GatheredLoads.{cheapest-skip, cheapest-keep, not-true, some-cost}
use Rattle.pair_split.proofs.loads.better_load.Goals as goal
use Rattle.std.proofs.Common.{sym, ◌∙◌}
use Rattle.mill_model.specs.Charges.{charge_of}

pub returns-then-not-bit_of : goal.returns-then-not-bit_of
returns-then-not-bit_of c =
    cheapest-skip (charge_of c.args.charges.now) c.args.whole c.args.largest c.args.load
    c.args.loads.now c.args.best c.requires.best
    (λ m. absurd (not-true (c.if-not-bit_of.ensures.1 m)))

pub returns-in-Some-best : goal.returns-in-Some-best
returns-in-Some-best c =
    let s = c.in-Some.ensures.some in
    cheapest-keep (charge_of c.args.charges.now) c.args.whole c.args.largest c.args.load
    c.args.loads.now c.args.best c.requires.best (c.in-Some-best.field-0-0, c.in-Some-best.least)
    c.in-Some-best.is
    (λ d e. (let q : c.in-Some-best.least ≡ d.1 =
    some-cost (c.in-Some-best.field-0-0, c.in-Some-best.least) d (sym c.in-Some-best.is ∙ e) in
    omega (arith, q, c.if-least-loss.true, s.1)))
