use Rattle.std.proofs.Common.{◌≡◌}
use Rattle.price_trials.proofs.tables.agree.Given as goal

abbrev pub invariant-loop-i : goal.invariant-loop-i
invariant-loop-i l = record {
  tables : l.tables ≡ l.initial.tables;
  knapsack : l.knapsack ≡ l.initial.knapsack;
}
