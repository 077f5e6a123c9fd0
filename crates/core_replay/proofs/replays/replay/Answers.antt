use Rattle.std.proofs.Common.{rules, refl}
use Rattle.core_replay.proofs.Resuming.{in-another-way, left-by}
use Rattle.core_replay.proofs.replays.replay.Goals as goal

pub returns-clause-core : goal.returns-clause-core
returns-clause-core c =
    in-another-way c.resume.result _ _ c.resume.ensures.resumed
    (λ run resumed. left-by c.args.ranked.now c.args.charges.now c.args.limits.nodes
    c.args.limits.workers c.args.schedule.now _ run (search rules) (search rules) refl resumed)
