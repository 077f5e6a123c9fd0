use Rattle.steal_workers.proofs.Seatings.{closes}
use Rattle.steal_workers.proofs.words.close_round.Goals as goal

pub returns : goal.returns
returns c =
    closes c.args.round.best.start c.args.round.meter.nodes c.args.round.best c.args.round.meter
    c.args.seats.items c.join_seats-loss.result c.close-least.result c.close.result
    c.join_seats-loss.ensures c.close-least.ensures.from c.close-least.ensures.seen
    c.close.ensures.each
