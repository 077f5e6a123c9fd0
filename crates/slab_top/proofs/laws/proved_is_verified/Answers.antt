use Rattle.job_words.specs.declared.command.Command.TheVariants.{Prove, Verify}
use Rattle.slab_top.specs.BothHalves.{verified_as}
use Rattle.slab_top.proofs.BothHalves.{verify-behind-prove, right-behind}
use Rattle.slab_top.proofs.laws.proved_is_verified.Goals as goal

pub returns-clause-jobs : goal.returns-clause-jobs
returns-clause-jobs c = verify-behind-prove

pub returns-clause-runs : goal.returns-clause-runs
returns-clause-runs c = right-behind Prove Verify verified_as verify-behind-prove
