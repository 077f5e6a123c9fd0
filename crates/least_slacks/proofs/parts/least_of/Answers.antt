use Rattle.std.proofs.Common.{◌≡◌, ◌<◌, ◌≤◌, get_or, arith, inl, inr, subst}
use Rattle.std.proofs.lemmas.List.{get_or_default}
use Rattle.std.proofs.lemmas.Bool.{cases_lt}
use Rattle.least_slacks.specs.Keys.{no_key}
use Rattle.least_slacks.specs.declared.key.Key.{Key}
use Rattle.least_slacks.proofs.parts.least_of.Goals as goal

pub loop-i-preserved : goal.loop-i-preserved
loop-i-preserved c = record {
  few = omega (arith, c.with_key-least.ensures.less.0, c.loop-i.invariant.few);
  light = omega (arith, c.with_key-least.ensures.less.1, c.loop-i.invariant.light);
  least = λ j b few. elim (cases_lt j c.loop-i.i) [
    | inl l ↦ (let old = c.loop-i.invariant.least j l few in (
      omega (arith, c.with_key-least.ensures.less.0, old.0),
      omega (arith, c.with_key-least.ensures.less.1, old.1),
    ))
    | inr l ↦ (let e : c.loop-i.i ≡ j = omega arith in
        subst (λ k. (get_or c.args.keys.now k no_key).colours < c.args.limits.now.most →
        (c.with_key-least.result.0 ≤ (get_or c.args.keys.now k no_key).colours)
        × (c.with_key-least.result.1 ≤ (get_or c.args.keys.now k no_key).load)) e
        (subst (λ (key : Key). key.colours < c.args.limits.now.most →
        (c.with_key-least.result.0 ≤ key.colours) × (c.with_key-least.result.1 ≤ key.load))
        (get_or_default c.args.keys.now c.loop-i.i _ no_key c.loop-i-test.true)
        c.with_key-least.ensures.here) few)
  ];
}

pub returns-clause-least : goal.returns-clause-least
returns-clause-least c i d h few =
    subst (λ (key : Key). key.colours < c.args.limits.now.most →
    (c.loop-i.least.0 ≤ key.colours) × (c.loop-i.least.1 ≤ key.load))
    (get_or_default c.args.keys.now i no_key d h)
    (c.loop-i.invariant.least i (omega (arith, c.loop-i-test.false))) few
