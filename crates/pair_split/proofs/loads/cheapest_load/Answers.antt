use Rattle.std.proofs.Common.{◌≡◌, ◌+◌, arith, subst}
use Rattle.mill_model.specs.Charges.{charge_of}
use Rattle.pair_split.specs.Loads.{IsCheapest}
use Rattle.pair_split.proofs.loads.cheapest_load.Goals as goal

pub returns : goal.returns
returns c =
    let end : c.loop-load.load ≡ c.args.layout.largest + 1 =
    omega (arith, c.loop-load.auto.load-end, c.loop-load-test.false) in
    subst (λ whole. IsCheapest (charge_of c.args.charges.now) whole
    c.args.layout.largest (c.args.layout.largest + 1) c.args.loads.now c.loop-load.best)
    c.load_of-whole.ensures.is
    (subst (λ n. IsCheapest (charge_of c.args.charges.now) c.load_of-whole.result
    c.args.layout.largest n c.args.loads.now c.loop-load.best) end c.loop-load.invariant)
