use Rattle.std.proofs.Common.{rules, ◌∙◌, ◌+◌, arith, length}
use Rattle.steal_workers.specs.Deques.{all_popped, all_pushed, all_stolen, thieves_in}
use Rattle.steal_workers.proofs.Backs.{last-thieves, less-lent, less-thieves, none-left, paths-more}
use Rattle.steal_workers.proofs.ending.end_deques.Goals as goal

pub end_deque-requires-clause-thieves : goal.end_deque-requires-clause-thieves
end_deque-requires-clause-thieves c =
    last-thieves c.loop-own.owns.items c.pop.new.self.items c.in-Some.own
    (thieves_in c.loop-own.all_thieves.items) c.len.result c.in-Some.ensures.items (search rules)
    c.loop-own.invariant.thieves

pub loop-own-preserved : goal.loop-own-preserved
loop-own-preserved c = record {
  workers = c.in_ok-end_deque.ensures.ended.given.count ∙ c.loop-own.invariant.workers;
  few = (search rules);
  lent = less-lent c.loop-own.owns.items c.pop.new.self.items c.in-Some.own
      (thieves_in c.loop-own.all_thieves.items) c.len.result c.in-Some.ensures.items (search rules)
      c.loop-own.invariant.thieves (length c.args.owns.items) c.loop-own.invariant.lent;
  thieves = less-thieves c.loop-own.owns.items c.pop.new.self.items c.in-Some.own
      (thieves_in c.loop-own.all_thieves.items) c.len.result c.in-Some.ensures.items (search rules)
      c.loop-own.invariant.thieves (thieves_in c.end_deque.new.all_thieves.items)
      c.in_ok-end_deque.ensures.ended.given;
  paths = λ x. (
      let more =
      paths-more c.loop-own.owns.items c.pop.new.self.items c.in-Some.own
      (thieves_in c.loop-own.all_thieves.items) c.len.result c.in-Some.ensures.items (search rules)
      c.loop-own.invariant.thieves x
      (all_pushed x c.args.owns.items)
      (all_popped x c.args.owns.items + all_stolen x (thieves_in c.args.all_thieves.items))
      (thieves_in c.end_deque.new.all_thieves.items) c.loop-own.left.items
      c.end_deque.new.left.items c.in_ok-end_deque.ensures.ended
      (omega (arith, c.loop-own.invariant.paths x)) in omega (arith, more));
}

pub returns : goal.returns
returns c x =
    let none =
    none-left c.loop-own.owns.items (thieves_in c.loop-own.all_thieves.items) x (search rules)
    c.loop-own.invariant.thieves in
    omega (arith, none.0, none.1, none.2, c.loop-own.invariant.paths x)
