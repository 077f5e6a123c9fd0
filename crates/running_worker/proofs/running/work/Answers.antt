use Rattle.std.proofs.Common.{◌∙◌, rules}
use Rattle.running_worker.proofs.Ends.{begins, has-worked}
use Rattle.running_worker.specs.Jobs.{hand_of}
use Rattle.running_worker.proofs.running.work.Goals as goal

pub returns : goal.returns
returns g c =
    let ranked = c.args.ranked.now in
    let charges = c.args.charges.now in
    let round = c.args.round.now in
    let made = c.new-worker.ensures in
    let ran = c.in_ok-run.ensures in
    let left = c.finish.ensures in
    let ended = c.end.ensures in
    let begun =
    begins ranked charges round c.args.job c.requires.job
    (record {
      of_instance = c.len-orders.ensures.kept;
      light = c.requires.light;
      reach = c.requires.reach;
    }) c.new-worker.result made.ranked made.charges made.number made.workers made.parts
    made.honest c.new-hand.result c.new-hand.ensures in
    has-worked ranked charges round c.args.job c.requires.job c.run.new.worker c.run.new.hand
    c.end.result (ran.work round.loss (hand_of ranked round c.args.job) begun)
    (ran.orders ∙ made.ranked) (ran.charges ∙ made.charges) ran.calm (search rules) ended.number
    ended.loss_seat ended.ticket_seat ended.own ended.thieves
