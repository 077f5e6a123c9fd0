use Rattle.std.proofs.Common.{arith}
use Rattle.large_moves.proofs.Betters.{linked-length}
use Rattle.large_moves.proofs.pair.try_split.Goals as goal

pub gather_pair-count-requires-clause-second : goal.gather_pair-count-requires-clause-second
gather_pair-count-requires-clause-second c =
    let long = linked-length c.args.splitter.now c.args.orders.now.list.now c.args.links.now
    c.requires.legal in
    omega (arith, long, c.requires.second)

pub gather_pair-count-requires-clause-same : goal.gather_pair-count-requires-clause-same
gather_pair-count-requires-clause-same c =
    linked-length c.args.splitter.now c.args.orders.now.list.now c.args.links.now
    c.requires.legal
