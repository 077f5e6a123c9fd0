use Rattle.std.proofs.Common.{◌≡◌, ◌<◌, get_or, arith, inl, inr, subst}
use Rattle.std.proofs.lemmas.List.{get_or_default}
use Rattle.std.proofs.lemmas.Bool.{cases_lt}
use Rattle.least_slacks.specs.Keys.{no_key}
use Rattle.least_slacks.specs.declared.key.Key.{Key}
use Rattle.least_slacks.proofs.KeysLeftOut.{same-names, single-names}
use Rattle.least_slacks.proofs.parts.name_the_same.Goals as goal

pub loop-i-preserved : goal.loop-i-preserved
loop-i-preserved c j b = elim (cases_lt j c.loop-i.i) [
  | inl l ↦ c.loop-i.invariant j l
  | inr l ↦ (let e : c.loop-i.i ≡ j = omega arith in
      subst (λ k. (get_or c.args.keys.now k no_key).colours < c.args.most →
      (get_or c.args.keys.now k no_key).coming ≡ c.first_coming-coming.result) e
      (subst (λ (key : Key). key.colours < c.args.most →
      key.coming ≡ c.first_coming-coming.result)
      (get_or_default c.args.keys.now c.loop-i.i _ no_key c.loop-i-test.true)
      (c.differs.ensures c.if-differs.false)))
]

pub returns-then-keys-lt2-clause-same : goal.returns-then-keys-lt2-clause-same
returns-then-keys-lt2-clause-same c h =
    single-names c.args.most c.args.keys.now (omega (arith, c.if-keys-lt2.true))

pub returns-clause-same : goal.returns-clause-same
returns-clause-same c h =
    same-names c.args.most c.args.keys.now c.first_coming-coming.result
    (λ i b few. c.loop-i.invariant i (omega (arith, c.loop-i-test.false)) few)
