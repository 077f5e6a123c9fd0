use Rattle.std.proofs.Common.{vec_len}
use Rattle.shared_trials.proofs.ends.end_all.Given as goal

abbrev pub decreases-loop-ends : goal.decreases-loop-ends
decreases-loop-ends g l = vec_len l.all

abbrev pub decreases-loop-owner : goal.decreases-loop-owner
decreases-loop-owner g l = vec_len l.owners
