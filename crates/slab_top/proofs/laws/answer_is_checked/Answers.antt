use Rattle.job_words.specs.declared.command.Command.TheVariants.{Solve, Prove, Check}
use Rattle.slab_top.specs.BothHalves.{checked_as}
use Rattle.slab_top.proofs.BothHalves.{check-behind-prove, check-behind-solve, right-behind}
use Rattle.slab_top.proofs.laws.answer_is_checked.Goals as goal

pub returns-clause-solved : goal.returns-clause-solved
returns-clause-solved c = check-behind-solve

pub returns-clause-proved : goal.returns-clause-proved
returns-clause-proved c = check-behind-prove

pub returns-clause-solved_runs : goal.returns-clause-solved_runs
returns-clause-solved_runs c = right-behind Solve Check checked_as check-behind-solve

pub returns-clause-proved_runs : goal.returns-clause-proved_runs
returns-clause-proved_runs c = right-behind Prove Check checked_as check-behind-prove
