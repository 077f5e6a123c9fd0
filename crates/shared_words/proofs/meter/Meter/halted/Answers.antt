use Rattle.std.proofs.Common.{rules, arith}
use Rattle.shared_words.proofs.MeterKeeps.{hears}
use Rattle.shared_words.proofs.meter.Meter.halted.Goals as goal

pub load-requires : goal.load-requires
load-requires c =
    (search rules, omega (arith, c.self.invariant), hears _ _ _ _ _ c.seat.invariant.1)
