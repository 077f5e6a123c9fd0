-- The thieves of a deque are taken from the other workers, each of which has one last.
use Rattle.std.proofs.Common.{rules, ◌∙◌, ap, sym}
use Rattle.steal_deques.specs.Deque.{DequeOwner}
use Rattle.steal_workers.specs.Deques.{Home, home_of, thieves_in, thieves_of}
use Rattle.steal_workers.proofs.Backs.{back-next, back-owner, last-home, next-has, some-last}
use Rattle.steal_workers.proofs.Thieves.{thieves-length}
use Rattle.steal_workers.proofs.ending.take_all_back.Goals as goal
use Rattle.steal_workers.proofs.ending.take_all_back.Goals.{then-taker-number, else-taker-number}

pub take_last-requires-clause-some : goal.take_last-requires-clause-some
take_last-requires-clause-some c =
    let has =
    next-has c.args.own.now c.loop-taker.own c.args.number c.loop-taker.taker
    (thieves_in c.args.all_thieves.now.items) (thieves_in c.loop-taker.all_thieves.items)
    c.loop-taker.invariant c.requires.thieves
    (search (rules, thieves-length c.args.all_thieves.now.items)) (search rules) in
    some-last (thieves_of (thieves_in c.loop-taker.all_thieves.items) c.loop-taker.taker) has.0
    (home_of c.args.own.now) has.1

pub take_back-requires : goal.take_back-requires
take_back-requires c =
    let has =
    next-has c.args.own.now c.loop-taker.own c.args.number c.loop-taker.taker
    (thieves_in c.args.all_thieves.now.items) (thieves_in c.loop-taker.all_thieves.items)
    c.loop-taker.invariant c.requires.thieves
    (search (rules, thieves-length c.args.all_thieves.now.items)) (search rules) in
    let home =
    (last-home (thieves_of (thieves_in c.loop-taker.all_thieves.items) c.loop-taker.taker)
    (thieves_of (thieves_in c.take_last.new.all_thieves.items) c.loop-taker.taker)
    c.take_last.result has.0
    (home_of c.args.own.now) has.1 c.take_last.ensures.last).1 in (
      ap (λ (h : Home). h.0) home
          ∙ sym (ap (λ (o : DequeOwner). o.deque) c.loop-taker.invariant.same),
      ap (λ (h : Home). h.1) home
          ∙ sym (ap (λ (o : DequeOwner). o.ranked) c.loop-taker.invariant.same),
    )

pub loop-taker-preserved : goal.loop-taker-preserved
loop-taker-preserved c = elim c.if-taker-number.branch [
  | then-taker-number w ↦ rw w.own-is (rw w.all_thieves-is
      (back-next c.args.own.now c.loop-taker.own c.args.number c.loop-taker.taker
      (thieves_in c.args.all_thieves.now.items) (thieves_in c.loop-taker.all_thieves.items)
      c.loop-taker.invariant
      w.take_back.new.self (thieves_in w.take_last.new.all_thieves.items) w.take_last.result
      (search (rules, thieves-length c.args.all_thieves.now.items)) (search rules)
      w.take_last.ensures.last w.take_last.ensures.others
      w.take_back.ensures))
  | else-taker-number w ↦ rw w.own-is (rw w.all_thieves-is
      (back-owner c.args.own.now c.loop-taker.own c.args.number c.loop-taker.taker
      (thieves_in c.args.all_thieves.now.items) (thieves_in c.loop-taker.all_thieves.items)
      c.loop-taker.invariant
      (search rules)))
]
