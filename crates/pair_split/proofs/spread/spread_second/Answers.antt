use Rattle.std.proofs.Common.{arith, refl, ◌∙◌}
use Rattle.pair_split.proofs.Pushed.{spreads-second, spreads-less, spreads-nothing}
use Rattle.pair_split.proofs.spread.spread_second.Goals as goal

pub loop-second-init : goal.loop-second-init
loop-second-init c = record {
  spreads = spreads-nothing _ _ _ _ _ _ _ (λ s q. absurd (omega (arith, q.1)));
  size = refl;
}

pub loop-second-preserved : goal.loop-second-preserved
loop-second-preserved c = record {
  spreads = spreads-second _ _ _ _ _ _ _ _ _ _ c.loop-second.invariant.spreads
      c.spread_flags.ensures;
  size = c.spread_flags.auto.new ∙ c.loop-second.invariant.size;
}

pub returns : goal.returns
returns c =
    spreads-less _ _ _ _ _ _ _ _ _ c.loop-second.invariant.spreads
    (λ s q h. (q, omega (arith, h.few_others, c.loop-second-test.false)))
