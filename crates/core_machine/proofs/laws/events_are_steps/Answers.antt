use Rattle.core_machine.proofs.RunLaws.{events-are-steps, steps-are-events}
use Rattle.core_machine.proofs.laws.events_are_steps.Goals as goal

pub returns-clause-event : goal.returns-clause-event
returns-clause-event c = events-are-steps

pub returns-clause-step : goal.returns-clause-step
returns-clause-step c = steps-are-events
