use Rattle.std.proofs.Common.{rules, arith}
use Rattle.shared_words.proofs.MeterKeeps.{draws}
use Rattle.shared_words.proofs.meter.Meter.draw.Goals as goal

pub fetch_add-number-requires : goal.fetch_add-number-requires
fetch_add-number-requires c = (
  search rules,
  omega (arith, c.self.invariant),
  draws _ _ _ _ _ c.seat.invariant.1 (search rules),
)
