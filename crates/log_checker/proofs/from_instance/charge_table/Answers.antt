use Rattle.std.proofs.Common.{◌∙◌, arith}
use Rattle.std.proofs.lemmas.List.{take_all}
use Rattle.log_checker.proofs.from_instance.charge_table.Goals as goal

pub returns : goal.returns
returns c =
    c.loop-load.invariant
    ∙ take_all c.loop-load.load c.args.charges.now.list
    (omega (arith, c.loop-load-test.false, c.requires.reach))
