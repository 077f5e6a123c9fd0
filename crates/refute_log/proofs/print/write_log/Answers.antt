use Rattle.std.proofs.Common.{refl}
use Rattle.std.proofs.lemmas.Result.{on_ok_weaker}
use Rattle.mill_io.proofs.Blockwise.{put-behind, text-written}
use Rattle.refute_log.proofs.PrintedLog.{log-and-end}
use Rattle.refute_log.proofs.print.write_log.Goals as goal

pub returns-clause-whole : goal.returns-clause-whole
returns-clause-whole g c =
    let all = put-behind _ _ _ _ _ _ _ _ _ _ _ _ _ _ (log-and-end c.args.log.now)
    c.in_ok-put_log.ensures.puts c.in_ok-put.ensures in
    on_ok_weaker c.finish.result
    (text-written _ _ _ _ _ _ _ c.new-block.ensures refl all.whole) c.finish.ensures.ok
