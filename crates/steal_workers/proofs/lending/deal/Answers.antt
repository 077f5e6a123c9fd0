use Rattle.std.proofs.Common.{rules, ◌∙◌, length}
use Rattle.steal_workers.specs.Deques.{thieves_in}
use Rattle.steal_workers.proofs.Deals.{all-new, dealt-more, new-owner}
use Rattle.steal_workers.proofs.Thieves.{thieves-length}
use Rattle.steal_workers.proofs.lending.deal.Goals as goal

pub loop-number-preserved : goal.loop-number-preserved
loop-number-preserved c = record {
  owners = (search rules);
  new = all-new c.loop-number.owns.items c.in_ok-own.own c.lend_to_others.new.own c.args.ranked.now
      c.args.workers c.in_ok-lend_to_others.ensures.lent c.push.new.self.items
      c.in_ok-push.ensures.items c.loop-number.invariant.new
      (new-owner c.loop-number.owns.items c.in_ok-own.own c.lend_to_others.new.own
      c.args.ranked.now c.args.workers c.in_ok-lend_to_others.ensures.lent
      (search rules) (search rules) (search rules) (search rules) (search rules));
  takers = c.in_ok-lend_to_others.ensures.dealt.count ∙ c.loop-number.invariant.takers;
  thieves = dealt-more c.loop-number.owns.items c.in_ok-own.own c.lend_to_others.new.own
      c.args.ranked.now c.args.workers c.in_ok-lend_to_others.ensures.lent c.push.new.self.items
      (thieves_in c.loop-number.all_thieves.items)
      (thieves_in c.lend_to_others.new.all_thieves.items) c.from-in-loop-number.result
      (length c.loop-number.all_thieves.items) c.in_ok-push.ensures.items (search rules)
      (thieves-length c.loop-number.all_thieves.items)
      (search (rules, thieves-length c.loop-number.all_thieves.items))
      c.loop-number.invariant.thieves c.in_ok-lend_to_others.ensures.dealt;
}
