use Rattle.std.proofs.Common.{rules}
use Rattle.steal_workers.proofs.Thieves.{given-to}
use Rattle.steal_workers.proofs.lending.give.Goals as goal

pub returns : goal.returns
returns c =
    given-to c.args.all_thieves.now.items c.args.taker c.index_mut.result.now c.push.new.self
    c.args.thief (search rules) c.index_mut.ensures.value c.in_ok-push.ensures.items
