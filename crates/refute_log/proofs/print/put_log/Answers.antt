use Rattle.std.proofs.Common.{◌∷◌, ◌++◌, ◌∙◌, [], append_assoc, codes, flat_map, length, refl, sym}
use Rattle.std.specs.Fmt.{decimal}
use Rattle.mill_io.proofs.Blockwise.{put-behind, put-fails, put-fails-behind}
use Rattle.refute_log.specs.Text.{record_line}
use Rattle.refute_log.proofs.PrintedLog.{log-parts}
use Rattle.refute_log.proofs.print.put_log.Goals as goal

pub returns-in_err-put_named-clause-puts : goal.returns-in_err-put_named-clause-puts
returns-in_err-put_named-clause-puts g c =
    put-fails _ _ _ _ _ _ _ _ _
    (10 ∷ flat_map (λ e. record_line e ++ 10 ∷ []) c.entries-entries.result.now) _ _
    c.from_residual.result
    (log-parts c.args.log.now.entries c.entries-entries.result.now c.entries-entries.ensures.is)
    c.from_residual.ensures.0 c.in_err-put_named.ensures

pub returns-in_err-put-clause-puts : goal.returns-in_err-put-clause-puts
returns-in_err-put-clause-puts g c =
    put-fails-behind _ _ _ _ _ _ _ _ _ _ _ _
    (flat_map (λ e. record_line e ++ 10 ∷ []) c.entries-entries.result.now)
    _ _ _ c.from_residual-in_err-put.result
    (log-parts c.args.log.now.entries c.entries-entries.result.now c.entries-entries.ensures.is)
    c.from_residual-in_err-put.ensures.0 c.in_ok-put_named.ensures c.in_err-put.ensures

pub returns-clause-puts : goal.returns-clause-puts
returns-clause-puts g c =
    let given = c.entries-entries.result.now in
    put-behind _ _ _ _ _ _ _ _ _ _ _ _ _ c.put_records.result
    (log-parts c.args.log.now.entries given c.entries-entries.ensures.is
    ∙ sym (append_assoc (codes "log 1 " ++ decimal (length given)) (10 ∷ [])
    (flat_map (λ e. record_line e ++ 10 ∷ []) given)))
    (put-behind _ _ _ _ _ _ _ _ _ _ _ _ _ _ refl c.in_ok-put_named.ensures c.in_ok-put.ensures)
    c.put_records.ensures
