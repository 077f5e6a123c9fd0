use Rattle.std.proofs.Common.{◌∙◌, ◌∷◌, [], ◌++◌, ap, append_assoc}
use Rattle.steal_workers.proofs.Seatings.{joins-more, joins-one, starts-joined}
use Rattle.steal_workers.proofs.seats.join_seats.Goals as goal

pub loop-other-init : goal.loop-other-init
loop-other-init c =
    let each =
    starts-joined c.args.best.now c.args.meter.now c.args.seats.items c.pop.new.self.items
    c.in-Some.whole c.in-Some.ensures.items c.requires.each in record {
      taken = c.in-Some.whole ∷ [];
      all = c.in-Some.ensures.items;
      each = each.0;
      joined = joins-one c.args.best.now c.args.meter.now c.in-Some.whole each.1;
    }

pub join_one-requires-clause-other : goal.join_one-requires-clause-other
join_one-requires-clause-other c =
    (starts-joined c.args.best.now c.args.meter.now c.loop-other.seats.items
    c.pop-in-loop-other.new.self.items c.in-Some-pop.other c.in-Some-pop.ensures.items
    c.loop-other.invariant.each).1

pub loop-other-preserved : goal.loop-other-preserved
loop-other-preserved c =
    let each =
    starts-joined c.args.best.now c.args.meter.now c.loop-other.seats.items
    c.pop-in-loop-other.new.self.items c.in-Some-pop.other c.in-Some-pop.ensures.items
    c.loop-other.invariant.each in record {
      taken = c.in-Some-pop.other ∷ c.loop-other.invariant.taken;
      all = c.loop-other.invariant.all
          ∙ ap (λ l. l ++ c.loop-other.invariant.taken) c.in-Some-pop.ensures.items
          ∙ append_assoc c.pop-in-loop-other.new.self.items (c.in-Some-pop.other ∷ [])
          c.loop-other.invariant.taken;
      each = each.0;
      joined = joins-more c.args.best.now c.args.meter.now c.in-Some-pop.other
          c.loop-other.invariant.taken c.loop-other.whole c.join_one.new.whole each.1
          c.loop-other.invariant.joined c.join_one.ensures;
    }
