use Rattle.std.proofs.Common.{arith}
use Rattle.schedule_text.proofs.WorkerNumbers.{worker-told, too-great, not-digits}
use Rattle.schedule_text.proofs.read.worker_of.Goals as goal

pub returns-then-number-from-clause-some : goal.returns-then-number-from-clause-some
returns-then-number-from-clause-some c =
    let digits = c.leading_digits-count in
    worker-told c.args.workers digits.result.0 digits.result.1 c.args.token.now
    c.ranges.workers.fits digits.ensures.count digits.ensures.value c.if-count-token.true
    (omega (arith, c.from.ensures, c.if-number-from.true))

pub returns-else-count-token-clause-none : goal.returns-else-count-token-clause-none
returns-else-count-token-clause-none c =
    let digits = c.leading_digits-count in
    elim c.else-count-token.branch [
      | goal.else-count-token-via-then-count-token+else-number-from w ↦
          too-great c.args.workers digits.result.0 digits.result.1 c.args.token.now
          c.ranges.workers.fits digits.ensures.count digits.ensures.value w.if-count-token.true
          (omega (arith, w.from.ensures, w.if-number-from.false))
      | goal.else-count-token-via-else-count-token w ↦
          not-digits c.args.workers digits.result.0 digits.result.1 c.args.token.now
          c.ranges.workers.fits digits.ensures.count digits.ensures.value w.if-count-token.false
    ]
