use Rattle.std.proofs.Common.{arith}
use Rattle.shared_words.proofs.BestKeeps.{publishes}
use Rattle.shared_words.proofs.best.lower.Goals as goal

pub fetch_min-requires : goal.fetch_min-requires
fetch_min-requires c =
    (c.requires.own, omega (arith, c.requires.words), publishes _ _ _ _ _ _ c.requires.some)
