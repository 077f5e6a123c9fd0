use Rattle.std.proofs.Common.{length}
use Rattle.steal_workers.specs.Deques.{thieves_in}
use Rattle.steal_workers.proofs.Backs.{ends-one}
use Rattle.steal_workers.proofs.Thieves.{thieves-length}
use Rattle.steal_workers.proofs.ending.end_deque.Goals as goal

pub returns : goal.returns
returns c = record {
  ended = ends-one c.args.own c.take_all_back.new.own c.args.number
      (length c.args.all_thieves.now.items)
      (thieves_in c.args.all_thieves.now.items) (thieves_in c.take_all_back.new.all_thieves.items)
      c.args.left.now.items c.in_ok-gathered.gathered.left.items c.append.new.self.items
      (thieves-length c.args.all_thieves.now.items) c.take_all_back.ensures
      c.in_ok-gathered.ensures c.in_ok-append.ensures.items;
}
