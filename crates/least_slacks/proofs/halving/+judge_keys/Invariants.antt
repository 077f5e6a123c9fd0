use Rattle.least_slacks.proofs.halving.+judge_keys.Given as goal

abbrev pub decreases-judge_keys : goal.decreases-judge_keys
decreases-judge_keys l = l.levels
