use Rattle.std.proofs.Common.{◌≤◌, [], ◌∷◌, ◌++◌, IsNone, Some, arith}
use Rattle.std.proofs.lemmas.List.Elements.{All-pop, All-push, All-same}
use Rattle.shared_trials.specs.Trials.{AreSeatsOf}
use Rattle.shared_trials.specs.declared.together.Worker.{Worker}
use Rattle.shared_trials.specs.declared.words.Seats.{Seats}
use Rattle.shared_trials.proofs.together.pair.Goals as goal

pub loop-seats-preserved : goal.loop-seats-preserved
loop-seats-preserved g c =
    let kept = c.loop-seats.invariant in
    let may_draw : Seats → Type 0 = λ s. AreSeatsOf c.args.best.now c.args.meter.now s.loss s.ticket
    × (IsNone s.past → 1 ≤ s.ticket.spends) in
    let worker_may : Worker g.row.J.Denot g.J.Numbering → Type 0 = λ w. may_draw w.seats in
    let worker : Worker g.row.J.Denot g.J.Numbering =
    record { seats = c.in-Some.seats; ends = c.in_ok-ends.ends } in
    let workers = c.loop-seats.workers.items in
    let popped = All-pop may_draw c.loop-seats.seats.items c.pop.new.self.items
    (Some c.in-Some.seats) c.in-Some.ensures.items kept.seats in
    record {
      count = omega (arith, c.in-Some.ensures.len, c.in_ok-push.ensures.len);
      seats = popped.0;
      workers = All-same worker_may c.push.new.self.items (workers ++ worker ∷ [])
          c.in_ok-push.ensures.items (All-push worker_may workers worker kept.workers popped.1);
    }
