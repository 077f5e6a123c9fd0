-- Key by key: the slacks before place `i` are the least.
use Rattle.std.proofs.Common.{◌≡◌, ℕ, ℤ, List, ◌+◌, ◌<◌, ◌∙◌, get_or, set, length, pos}
use Rattle.std.proofs.Common.{arith, inl, inr, sym, subst, slice_index, SFits, w64, to_z-of_z}
use Rattle.std.proofs.Common.{rules}
use Rattle.std.proofs.lemmas.List.{get_or_default, get_or-set_same, get_or-set_other}
use Rattle.std.proofs.lemmas.Bool.{cases_lt}
use Rattle.mill_model.specs.Prices.{least_slack}
use Rattle.mill_model.specs.declared.order.Order.{Order}
use Rattle.set_minima.specs.Joins.{IsSlab}
use Rattle.set_minima.specs.Cells.{IsSmall, slack_limit}
use Rattle.least_slacks.specs.Keys.{HasColours, no_key}
use Rattle.least_slacks.specs.Limits.{mill_within}
use Rattle.least_slacks.specs.declared.key.Key.{Key}
use Rattle.least_slacks.proofs.least_slack.judge_each.Goals as goal

-- what holds of the numbers before a place, and of the one that is put there
one-more : (P : ℕ → ℤ → Type 0) (xs : List ℤ) (i : ℕ) (z : ℤ) → i < length xs → P i z →
    ((j : ℕ) → j < i → P j (get_or xs j (pos 0))) →
    (j : ℕ) → j < i + 1 → P j (get_or (set xs i z) j (pos 0))
one-more P xs i z h p each j a = elim (cases_lt j i) [
  | inl l ↦ subst (λ x. P j x)
      (sym (get_or-set_other xs i j z (pos 0) (λ e. absurd (omega arith)))) (each j l)
  | inr l ↦ (let e : i ≡ j = omega arith in
      subst (λ k. P k (get_or (set xs i z) k (pos 0))) e
      (subst (λ x. P i x) (sym (get_or-set_same xs i z (pos 0) h)) p))
]

pub loop-i-init : goal.loop-i-init
loop-i-init c = record {
  joined =
      record {
        inside = omega arith;
        table = λ own once count same l b. absurd (omega arith);
        near = λ l b. absurd (omega arith);
      };
  done = λ j a. absurd (omega arith);
}

pub loop-i-preserved : goal.loop-i-preserved
loop-i-preserved c =
    let i = c.loop-i.i in
    let rest = c.args.later.now.rest.now in
    let prices = c.args.later.now.prices.now in
    let keys = c.args.keys.now in
    let here : i < length keys = c.loop-i-test.true in
    let f : SFits w64 c.slack_of-slack.result.0 = search rules in
    let its = subst (λ (key : Key). (own : List ℕ) → HasColours rest key own →
    (IsSmall slack_limit c.slack_of-slack.result.0) ×
    ((group : List Order) → IsSlab group key.load own → c.slack_of-slack.result.0 ≡
    least_slack (mill_within c.args.limits.now)
    (λ l. slice_index c.args.limits.now.charges.now l) group rest prices))
    (get_or_default keys i _ no_key here) c.slack_of-slack.ensures.is in
    simp to_z-of_z (record {
      joined = c.slack_of-slack.ensures.joined;
      done = one-more (λ j x. (own : List ℕ) → HasColours rest (get_or keys j no_key) own →
          (IsSmall slack_limit x) ×
          ((group : List Order) → IsSlab group (get_or keys j no_key).load own → x ≡
          least_slack (mill_within c.args.limits.now)
          (λ l. slice_index c.args.limits.now.charges.now l) group rest prices))
          c.loop-i.slacks i c.slack_of-slack.result.0
          (omega (arith, here, c.loop-i.auto.slacks, c.requires.long)) its
          c.loop-i.invariant.done;
    })

pub returns : goal.returns
returns c = record {
  long = c.loop-i.auto.slacks ∙ c.requires.long;
  small = λ j b own has. (c.loop-i.invariant.done j
      (omega (arith, c.loop-i-test.false)) own has).0;
  least = λ j b own group has slab. (c.loop-i.invariant.done j
      (omega (arith, c.loop-i-test.false)) own has).1 group slab;
}
