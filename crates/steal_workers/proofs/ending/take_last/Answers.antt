use Rattle.std.proofs.Common.{rules}
use Rattle.steal_workers.proofs.Thieves.{taken-from}
use Rattle.steal_workers.proofs.ending.take_last.Goals as goal

pub returns-clause-last : goal.returns-clause-last
returns-clause-last c =
    (taken-from c.args.all_thieves.now.items c.args.taker c.index_mut.result.now c.pop.new.self
    _ (search rules) c.index_mut.ensures.value (search rules)).0

pub returns-clause-others : goal.returns-clause-others
returns-clause-others c =
    (taken-from c.args.all_thieves.now.items c.args.taker c.index_mut.result.now c.pop.new.self
    c.in-Some.thief (search rules) c.index_mut.ensures.value c.in-Some.ensures.items).1
