use Rattle.refute_log.proofs.read.parse_log.Goals as goal

pub returns-clause-log : goal.returns-clause-log
returns-clause-log c log = rw c.new.ensures.is at (c.read_log.ensures.log log)
