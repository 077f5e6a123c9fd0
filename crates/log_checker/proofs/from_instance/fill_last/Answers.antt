use Rattle.std.proofs.Common.{◌≡◌, suc, ◌+◌, arith}
use Rattle.std.proofs.lemmas.List.{take_all}
use Rattle.log_checker.specs.Groups.{no_order}
use Rattle.log_checker.proofs.LastRanks.{ends-none, ends-more}
use Rattle.log_checker.proofs.from_instance.fill_last.Goals as goal

pub loop-rank-init : goal.loop-rank-init
loop-rank-init c = ends-none c.args.last.now c.args.ranked.now c.requires.empty

pub loop-rank-preserved : goal.loop-rank-preserved
loop-rank-preserved c colour k =
    let e : c.loop-rank.rank + 1 ≡ suc c.loop-rank.rank = omega arith in
    let o = c.requires.orders c.loop-rank.rank no_order c.loop-rank-test.true in
    rw e (ends-more c.loop-rank.last c.args.ranked.now c.loop-rank.rank c.loop-rank-test.true
    (omega (arith, o.1.1, c.loop-rank.auto.last, c.requires.long)) c.loop-rank.invariant colour k)

pub returns : goal.returns
returns c colour k =
    rw (take_all c.loop-rank.rank c.args.ranked.now (omega (arith, c.loop-rank-test.false)))
    at (c.loop-rank.invariant colour k)
