use Rattle.std.proofs.Common.{rules, arith}
use Rattle.shared_words.proofs.MeterKeeps.{halts}
use Rattle.shared_words.proofs.meter.Meter.halt.Goals as goal

pub store-requires : goal.store-requires
store-requires c =
    (search rules, omega (arith, c.self.invariant), halts _ _ _ _ _ c.seat.invariant.1)
