use Rattle.std.proofs.Common.{[], ◌∷◌, ◌++◌, Some, arith}
use Rattle.std.proofs.lemmas.List.Elements.{All-pop, All-push, All-same}
use Rattle.shared_trials.specs.Trials.{AreSeatsOf}
use Rattle.shared_trials.specs.declared.together.Worker.{Worker}
use Rattle.shared_trials.specs.declared.words.Seats.{Seats}
use Rattle.shared_trials.proofs.together.part.Goals as goal

pub loop-worker-preserved : goal.loop-worker-preserved
loop-worker-preserved g c =
    let kept = c.loop-worker.invariant in
    let is_one : Seats → Type 0 =
    λ s. AreSeatsOf c.args.best.now c.args.meter.now s.loss s.ticket in
    let has_one : Worker g.row.J.Denot g.J.Numbering → Type 0 = λ w. is_one w.seats in
    let worker = c.in-Some.worker in
    let seats = c.loop-worker.seats.items in
    let popped = All-pop has_one c.loop-worker.workers.items c.pop.new.self.items (Some worker)
    c.in-Some.ensures.items kept.workers in
    record {
      count = omega (arith, c.in-Some.ensures.len, c.in_ok-push.ensures.len);
      workers = popped.0;
      seats = All-same is_one c.push.new.self.items (seats ++ worker.seats ∷ [])
          c.in_ok-push.ensures.items (All-push is_one seats worker.seats kept.seats popped.1);
    }
