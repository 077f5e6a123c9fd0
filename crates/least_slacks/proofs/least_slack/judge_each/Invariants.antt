use Rattle.std.proofs.Common.{◌≡◌, ℕ, List, ◌<◌, get_or, pos, slice_index}
use Rattle.mill_model.specs.Prices.{least_slack}
use Rattle.mill_model.specs.declared.order.Order.{Order}
use Rattle.set_minima.specs.Joins.{IsSlab}
use Rattle.set_minima.specs.Cells.{IsSmall, slack_limit}
use Rattle.least_slacks.specs.Keys.{HasColours, IsJoined, no_key}
use Rattle.least_slacks.specs.Limits.{mill_within}
use Rattle.least_slacks.proofs.least_slack.judge_each.Given as goal

abbrev pub invariant-loop-i : goal.invariant-loop-i
invariant-loop-i l = record {
  joined : IsJoined l.later l.limits.most l.joined l.one;
  done :
      (j : ℕ) → j < l.i → (own : List ℕ) →
      HasColours l.later.rest.now (get_or l.keys j no_key) own →
      (IsSmall slack_limit (get_or l.slacks j (pos 0))) ×
      ((group : List Order) → IsSlab group (get_or l.keys j no_key).load own →
      get_or l.slacks j (pos 0) ≡
      least_slack (mill_within l.limits) (λ k. slice_index l.limits.charges.now k) group
      l.later.rest.now l.later.prices.now);
}
