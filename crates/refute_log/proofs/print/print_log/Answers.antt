use Rattle.std.proofs.Common.{rules}
use Rattle.refute_log.proofs.PrintedLog.{printed-log}
use Rattle.refute_log.proofs.print.print_log.Goals as goal

pub returns-in-Ok-clause-text : goal.returns-in-Ok-clause-text
returns-in-Ok-clause-text c = search rules

pub returns-in-Ok-clause-read_back : goal.returns-in-Ok-clause-read_back
returns-in-Ok-clause-read_back c =
    printed-log c.args.log.now c.into_bytes.result.items c.write_log.ensures.kept
    (returns-in-Ok-clause-text c)
