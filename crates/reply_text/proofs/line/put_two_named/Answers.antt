use Rattle.std.proofs.Common.{◌++◌, append_assoc}
use Rattle.std.specs.Prelude.{decimal}
use Rattle.mill_io.proofs.Blockwise.{put-behind, put-fails}
use Rattle.reply_text.proofs.line.put_two_named.Goals as goal

pub returns-in_err-put_named : goal.returns-in_err-put_named
returns-in_err-put_named g c =
    put-fails _ _ _ _ _ _ _ _ _ (c.args.other.now ++ decimal c.args.count) _ _
    c.from_residual.result
    (append_assoc (c.args.name.now ++ decimal c.args.number) c.args.other.now
    (decimal c.args.count))
    c.from_residual.ensures.0 c.in_err-put_named.ensures

pub returns : goal.returns
returns g c =
    put-behind _ _ _ _ _ _ _ _ _ _ _ _ _ c.put_named-2.result
    (append_assoc (c.args.name.now ++ decimal c.args.number) c.args.other.now
    (decimal c.args.count))
    c.in_ok-put_named.ensures c.put_named-2.ensures
