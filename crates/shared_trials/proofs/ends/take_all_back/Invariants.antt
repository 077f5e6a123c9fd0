use Rattle.std.proofs.Common.{vec_len}
use Rattle.shared_trials.proofs.ends.take_all_back.Given as goal

abbrev pub decreases-loop-other : goal.decreases-loop-other
decreases-loop-other g l = vec_len l.others
