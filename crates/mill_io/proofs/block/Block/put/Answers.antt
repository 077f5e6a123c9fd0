use Rattle.std.proofs.Common.{◌++◌, ◌∙◌, ap, ap₂, refl, sym, append_assoc}
use Rattle.mill_io.proofs.Blockwise.{put-behind, put-fails-behind, split-at}
use Rattle.mill_io.proofs.block.Block.put.Goals as goal

pub returns-in_err-put_short : goal.returns-in_err-put_short
returns-in_err-put_short g c =
    put-fails-behind _ _ _ _ _ _ _ _ _ _ _ _ c.split_at.result.1.now _ _ _ c.from_residual.result
    (c.loop-left.invariant.1 ∙ ap (λ l. c.loop-left.invariant.0 ++ l)
    (split-at _ _ _ _ c.split_at.ensures.front c.split_at.ensures.back))
    c.from_residual.ensures.0 c.loop-left.invariant.2 c.in_err-put_short.ensures

pub loop-left-preserved : goal.loop-left-preserved
loop-left-preserved g c = (
  c.loop-left.invariant.0 ++ c.split_at.result.0.now,
  c.loop-left.invariant.1 ∙ ap (λ l. c.loop-left.invariant.0 ++ l)
      (split-at _ _ _ _ c.split_at.ensures.front c.split_at.ensures.back)
      ∙ sym (append_assoc c.loop-left.invariant.0 _ _),
  put-behind _ _ _ _ _ _ _ _ _ _ _ _ _ _ refl c.loop-left.invariant.2 c.in_ok-put_short.ensures,
)
