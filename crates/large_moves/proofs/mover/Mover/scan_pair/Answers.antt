use Rattle.std.proofs.Common.{sym, ◌∙◌, arith, refl}
use Rattle.mill_model.specs.Charges.{charge_of}
use Rattle.large_moves.proofs.Scanned.{free-closed, pair-closed}
use Rattle.large_moves.proofs.Timed.{changed-times, changed-length}
use Rattle.large_moves.proofs.mover.Mover.scan_pair.Goals as goal

pub returns-then-loss-eq0-clause-scan : goal.returns-then-loss-eq0-clause-scan
returns-then-loss-eq0-clause-scan c = (
  refl,
  pair-closed (charge_of c.args.charges.now) c.args.self.now c.args.a c.args.b
      (free-closed (charge_of c.args.charges.now) c.args.self.now c.args.a c.args.b
      (sym c.pair_loss-loss.ensures.is ∙ c.if-loss-eq0.true)),
  omega arith,
)

pub returns-clause-times : goal.returns-clause-times
returns-clause-times c =
    changed-times (charge_of c.args.charges.now) c.args.self.now c.args.tries.now
    c.change.new.self c.requires.times c.try_pair.new.self c.in-Some.ensures.same c.args.a
    c.in-Some.c c.in-Some.ensures.stay
    (changed-length c.args.tries.now.changed c.args.a c.in-Some.c c.change.new.self.left
    c.change.ensures.changed) c.change.ensures.elsewhere
