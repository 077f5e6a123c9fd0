use Rattle.schedule_text.proofs.Decided.{one-schedule, schedule-below}
use Rattle.schedule_text.proofs.laws.one_schedule.Goals as goal

pub returns-clause-one : goal.returns-clause-one
returns-clause-one c = one-schedule

pub returns-clause-workers : goal.returns-clause-workers
returns-clause-workers c = schedule-below
