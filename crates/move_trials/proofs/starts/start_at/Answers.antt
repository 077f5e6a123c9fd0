use Rattle.move_trials.proofs.starts.start_at.Goals as goal

pub returns-in-Legal : goal.returns-in-Legal
returns-in-Legal c = (c.in_ok-loss.ensures.legal c.in-Legal.loss).0 c.in-Legal.is
