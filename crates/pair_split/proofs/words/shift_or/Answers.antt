use Rattle.std.specs.Prelude.{bit_or}
use Rattle.std.proofs.Common.{◌/◌, length, arith, rules, refl, sym, subst}
use Rattle.pair_split.proofs.ShiftedBits.{IsShifted, shifted-before, shifted-first, shifted-next}
use Rattle.pair_split.proofs.ShiftedBits.{shifted-set, rest-set, bits-shifted, bits-low}
use Rattle.pair_split.proofs.words.shift_or.Goals as goal

pub loop-k-init : goal.loop-k-init
loop-k-init c = record {
  done = shifted-set c.args.to.now c.args.from.now c.args.weight c.args.to.now (c.args.weight / 64)
      _ (omega (arith, c.if-whole-to.false))
      (shifted-before c.args.to.now c.args.from.now c.args.weight)
      (shifted-first c.args.to.now c.args.from.now c.args.weight);
  rest = rest-set c.args.to.now c.args.to.now (c.args.weight / 64) _ (λ j l. refl);
  size = search rules;
}

pub loop-k-preserved : goal.loop-k-preserved
loop-k-preserved c = record {
  done =
      shifted-set c.args.to.now c.args.from.now c.args.weight c.loop-k.to c.loop-k.k _
      (omega (arith, c.loop-k.invariant.size, c.loop-k-test.true)) c.loop-k.invariant.done
      (subst (λ x.
      IsShifted c.args.to.now c.args.from.now c.args.weight c.loop-k.k (bit_or x c.joined.result))
      (sym (c.loop-k.invariant.rest c.loop-k.k (omega arith)))
      (shifted-next c.args.to.now c.args.from.now c.args.weight c.loop-k.k c.joined.result
      (omega (arith, c.loop-k.auto.k)) c.joined.ensures.high c.joined.ensures.low));
  rest = rest-set c.args.to.now c.loop-k.to c.loop-k.k _ c.loop-k.invariant.rest;
  size = search rules;
}

pub returns-clause-shifted : goal.returns-clause-shifted
returns-clause-shifted c l h below =
    bits-shifted c.args.to.now c.args.from.now c.args.weight (length c.args.to.now) c.loop-k.to
    (λ j a. c.loop-k.invariant.done j (omega (arith, a, c.loop-k-test.false))) l h below

pub returns-clause-low : goal.returns-clause-low
returns-clause-low c l h below =
    bits-low c.args.to.now c.args.from.now c.args.weight (length c.args.to.now) c.loop-k.to
    (λ j a. c.loop-k.invariant.done j (omega (arith, a, c.loop-k-test.false))) l h below
