-- Job by job: deques, thieves and seats are those handed out; the rest of each is still to come.
use Rattle.std.proofs.Common.{ap, arith, length, length-append, ◌∷◌, []}
use Rattle.std.specs.Vec.Iter.{into_iter_items}
use Rattle.running_worker.specs.declared.job.Job.{Job}
use Rattle.steal_workers.specs.Deques.{thieves_in}
use Rattle.steal_workers.specs.Rounds.{job_seats}
use Rattle.steal_workers.proofs.Begun.{all-numbered, mapped-more, number-fits}
use Rattle.steal_workers.proofs.jobs.make_jobs.Goals as goal

pub loop-own-preserved : goal.loop-own-preserved
loop-own-preserved c =
    let own = c.in-Some.own in
    let job : Job = record {
      number = c.loop-own.number;
      loss_seat = c.in-Some-next-2.field-0.loss;
      ticket_seat = c.in-Some-next-2.field-0.ticket;
      own = own;
      thieves = c.in-Some-next.thieves;
    } in record {
      number = omega (
        arith,
        c.loop-own.invariant.number,
        ap length c.in_ok-push.ensures.items,
        length-append c.loop-own.jobs.items (job ∷ []),
      );
      each = all-numbered (length c.args.dealt.owns.items) c.loop-own.jobs.items
          c.push.new.self.items job c.in_ok-push.ensures.items c.loop-own.invariant.each
          (number-fits c.loop-own.number c.loop-own.jobs.items own
          c.loop-own.own-iterator.rest.items c.next.new.self.rest.items
          c.args.dealt.owns.items c.loop-own.invariant.number c.loop-own.invariant.owns
          c.in-Some.ensures.steps.0);
      owns = mapped-more (λ (j : Job). j.own) c.loop-own.jobs.items c.push.new.self.items job
          c.loop-own.own-iterator.rest.items c.next.new.self.rest.items
          c.args.dealt.owns.items c.in_ok-push.ensures.items c.loop-own.invariant.owns
          c.in-Some.ensures.steps.0;
      all_thieves = mapped-more (λ (j : Job). j.thieves.items) c.loop-own.jobs.items
          c.push.new.self.items job (thieves_in (into_iter_items c.loop-own.all_thieves))
          (thieves_in (into_iter_items c.next-in-loop-own.new.self))
          (thieves_in c.args.dealt.all_thieves.items) c.in_ok-push.ensures.items
          c.loop-own.invariant.all_thieves (ap thieves_in c.in-Some-next.ensures.items);
      seats = mapped-more job_seats c.loop-own.jobs.items c.push.new.self.items job
          (into_iter_items c.loop-own.seats) (into_iter_items c.next-in-loop-own-2.new.self)
          c.args.seats.items c.in_ok-push.ensures.items c.loop-own.invariant.seats
          c.in-Some-next-2.ensures.items;
      thieves_long = omega (
        arith,
        c.in-Some-next.ensures.len,
        ap length c.in-Some-next.ensures.items,
        c.loop-own.invariant.thieves_long,
      );
      seats_long = omega (
        arith,
        c.in-Some-next-2.ensures.len,
        ap length c.in-Some-next-2.ensures.items,
        c.loop-own.invariant.seats_long,
      );
    }
