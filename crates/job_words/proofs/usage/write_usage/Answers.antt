use Rattle.std.proofs.Common.{[], append-nil, refl, sym}
use Rattle.std.proofs.lemmas.Result.{on_err_weaker, on_ok_weaker}
use Rattle.mill_io.proofs.Blockwise.{cause-behind, front-written-last, put-fails, text-written}
use Rattle.mill_io.proofs.Fronts.{two-writes-append-to-both}
use Rattle.job_words.specs.Usage.{usage_line}
use Rattle.job_words.proofs.usage.write_usage.Goals as goal

pub returns-clause-ok : goal.returns-clause-ok
returns-clause-ok g c =
    on_ok_weaker c.finish.result (text-written _ _ _ _ _ _ _ c.new-block.ensures refl
    c.in_ok-put_usage.ensures.whole) c.finish.ensures.ok

pub returns-clause-err : goal.returns-clause-err
returns-clause-err g c =
    on_err_weaker c.finish.result (front-written-last _ _ _ _ _ _ _ c.new-block.ensures refl
    c.in_ok-put_usage.ensures.whole) c.finish.ensures.err

pub returns-clause-held : goal.returns-clause-held
returns-clause-held g c =
    two-writes-append-to-both _ _ _ _ _ _ c.in_ok-put_usage.ensures.both c.finish.ensures.held

pub returns-clause-cause : goal.returns-clause-cause
returns-clause-cause g c =
    cause-behind _ _ _ _ c.finish.result c.in_ok-put_usage.ensures.cause c.finish.ensures.cause

-- a front of the line was written where it wasn't put in whole

pub returns-in_err-put_usage-clause-err : goal.returns-in_err-put_usage-clause-err
returns-in_err-put_usage-clause-err g c =
    let failed = put-fails _ _ _ _ _ _ _ [] usage_line [] _ _ c.from_residual.result
    (sym (append-nil usage_line))
    c.from_residual.ensures.0 c.in_err-put_usage.ensures in
    on_err_weaker c.from_residual.result (λ front. rw c.new-block.ensures at front) failed.front

pub returns-in_err-put_usage-clause-cause : goal.returns-in_err-put_usage-clause-cause
returns-in_err-put_usage-clause-cause g c =
    let failed = put-fails _ _ _ _ _ _ _ [] usage_line [] _ _ c.from_residual.result
    (sym (append-nil usage_line))
    c.from_residual.ensures.0 c.in_err-put_usage.ensures in
    failed.cause
