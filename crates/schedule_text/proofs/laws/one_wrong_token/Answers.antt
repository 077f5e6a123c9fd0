use Rattle.schedule_text.proofs.Decided.{one-token, never-both}
use Rattle.schedule_text.proofs.laws.one_wrong_token.Goals as goal

pub returns-clause-one : goal.returns-clause-one
returns-clause-one c = one-token

pub returns-clause-apart : goal.returns-clause-apart
returns-clause-apart c = never-both
