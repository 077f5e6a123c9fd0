use Rattle.std.proofs.Common.{ℕ, ◌≡◌, ◌<◌, ◌≤◌, ◌^◌, arith, inl, inr, subst}
use Rattle.std.proofs.lemmas.Bool.{cases_lt}
use Rattle.std.proofs.lemmas.Nat.{one_shl}
use Rattle.least_slacks.proofs.halving.halvings.Goals as goal

-- fewer levels are too few
least : (count found : ℕ) → ((fewer : ℕ) → fewer < found → 2 ^ fewer < count) →
    (levels : ℕ) → count ≤ 2 ^ levels → found ≤ levels
least count found few levels h = elim (cases_lt levels found) [
  | inl b ↦ (let less : 2 ^ levels < count = few levels b in absurd (omega arith))
  | inr b ↦ b
]

pub loop-levels-preserved : goal.loop-levels-preserved
loop-levels-preserved c fewer h =
    let shifted = one_shl c.loop-levels.levels 64 c.loop-levels-test.true in
    let here = rw shifted at c.if-count-levels.false in
    elim (cases_lt fewer c.loop-levels.levels) [
      | inl b ↦ c.loop-levels.invariant fewer b
      | inr b ↦ (let e : c.loop-levels.levels ≡ fewer = omega arith in
          subst (λ l. 2 ^ l < c.args.count) e here)
    ]

pub returns-then-count-levels-clause-least : goal.returns-then-count-levels-clause-least
returns-then-count-levels-clause-least c =
    least c.args.count c.loop-levels.levels c.loop-levels.invariant

pub returns-clause-least : goal.returns-clause-least
returns-clause-least c =
    least c.args.count 64 (λ fewer h. c.loop-levels.invariant fewer
    (omega (arith, c.loop-levels-test.false)))
