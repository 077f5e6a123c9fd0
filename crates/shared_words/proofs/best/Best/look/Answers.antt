use Rattle.std.proofs.Common.{rules, arith}
use Rattle.shared_words.proofs.BestKeeps.{looks}
use Rattle.shared_words.proofs.best.Best.look.Goals as goal

pub load-requires : goal.load-requires
load-requires c =
    (search rules, omega (arith, c.self.invariant), looks _ _ _ _ _ c.seat.invariant.1)
