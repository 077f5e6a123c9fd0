use Rattle.std.proofs.Common.{◌<◌, All}
use Rattle.replay_trials.proofs.schedules.Draws.schedule.Given as goal

abbrev pub invariant-loop : goal.invariant-loop
invariant-loop l = All (λ number. number < l.workers) l.schedule.items
