use Rattle.std.proofs.Common.{arith, refl, ◌∙◌}
use Rattle.pair_split.proofs.Pushed.{spreads-first, spreads-less, spreads-nothing}
use Rattle.pair_split.proofs.spread.spread.Goals as goal

pub loop-first-init : goal.loop-first-init
loop-first-init c = record {
  spreads = spreads-nothing _ _ _ _ _ _ _ (λ s q. absurd (omega (arith, q)));
  size = refl;
}

pub loop-first-preserved : goal.loop-first-preserved
loop-first-preserved c = record {
  spreads = spreads-first _ _ _ _ _ _ _ _ _ c.loop-first.invariant.spreads c.spread_second.ensures;
  size = c.spread_second.auto.new ∙ c.loop-first.invariant.size;
}

pub returns : goal.returns
returns c =
    spreads-less _ _ _ _ _ _ _ _ _ c.loop-first.invariant.spreads
    (λ s q h. omega (arith, q, c.loop-first-test.false))
