use Rattle.std.proofs.Common.{Ok, Err, arith}
use Rattle.refute_log.specs.declared.error.LogTextError.TheVariants.{BadLine, NotRising}
use Rattle.refute_log.specs.declared.error.LogTextError.TheVariants.{CountDiffers}
use Rattle.refute_log.proofs.Unique.{comes-where}
use Rattle.refute_log.proofs.read.read_log.Goals as goal

pub returns-clause-log : goal.returns-clause-log
returns-clause-log c log =
    comes-where c.args.orders c.args.first c.args.lines c.judged.result (Ok log) (omega arith)
    c.judged.ensures (λ e. cc)

pub returns-clause-bad_line : goal.returns-clause-bad_line
returns-clause-bad_line c line =
    comes-where c.args.orders c.args.first c.args.lines c.judged.result (Err (BadLine line))
    (omega arith) c.judged.ensures (λ e. cc)

pub returns-clause-not_rising : goal.returns-clause-not_rising
returns-clause-not_rising c line =
    comes-where c.args.orders c.args.first c.args.lines c.judged.result (Err (NotRising line))
    (omega arith) c.judged.ensures (λ e. cc)

pub returns-clause-count_differs : goal.returns-clause-count_differs
returns-clause-count_differs c stated found =
    comes-where c.args.orders c.args.first c.args.lines c.judged.result
    (Err (CountDiffers stated found)) (omega arith) c.judged.ensures (λ e. cc)
