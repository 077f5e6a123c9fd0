use Rattle.std.proofs.Common.{◌≡◌, ◌∷◌, [], drop, length, true}
use Rattle.std.specs.List.{list_all}
use Rattle.least_slacks.specs.Keys.{HasRoom}
use Rattle.log_checker.specs.ByRules.{task_by}
use Rattle.log_checker.specs.Verdict.{verdict_from}
use Rattle.log_checker.specs.Agenda.{to_come, is_within}
use Rattle.log_checker.proofs.check.check_by.Given as goal

abbrev pub invariant-loop-i : goal.invariant-loop-i
invariant-loop-i l = record {
  is : verdict_from (task_by l.rules) l.loss l.log (to_come l.log l.waiting.items)
      (drop l.i l.log) ≡ verdict_from (task_by l.rules) l.loss l.log ([] ∷ []) l.log;
  room : HasRoom l.rules.largest l.rules.most_colours l.tables;
  within : list_all (is_within (length l.log)) l.waiting.items ≡ true;
}
