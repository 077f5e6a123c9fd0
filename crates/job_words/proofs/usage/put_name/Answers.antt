use Rattle.std.proofs.Common.{◌++◌, ◌∙◌, ap₂, append_assoc, refl, sym}
use Rattle.mill_io.proofs.Blockwise.{put-behind, put-fails, put-fails-behind}
use Rattle.job_words.proofs.usage.put_name.Goals as goal

pub returns-in_err-put : goal.returns-in_err-put
returns-in_err-put g c =
    put-fails _ _ _ _ _ _ _ _ _ (c.args.name.now ++ c.args.behind.now) _ _
    c.from_residual.result
    (ap₂ (λ before rest. before ++ rest) (sym c.as_bytes.ensures.value) refl)
    c.from_residual.ensures.0 c.in_err-put.ensures

pub returns-in_err-put-2 : goal.returns-in_err-put-2
returns-in_err-put-2 g c =
    put-fails-behind _ _ _ _ _ _ _ _ _ _ _ _ c.args.behind.now
    _ _ _ c.from_residual-in_err-put-2.result
    (ap₂ (λ before name. before ++ (name ++ c.args.behind.now))
    (sym c.as_bytes.ensures.value) (sym c.as_bytes-2.ensures.value))
    c.from_residual-in_err-put-2.ensures.0 c.in_ok-put.ensures c.in_err-put-2.ensures

pub returns : goal.returns
returns g c =
    put-behind _ _ _ _ _ _ _ _ _ _ _ _ _ c.put-3.result
    (rw (
      c.as_bytes.ensures.value,
      c.as_bytes-2.ensures.value,
      c.as_bytes-3.ensures.value,
      append_assoc,
    ) refl)
    (put-behind _ _ _ _ _ _ _ _ _ _ _ _ _ _ refl c.in_ok-put.ensures c.in_ok-put-2.ensures)
    c.put-3.ensures
