use Rattle.std.proofs.Common.{◌-◌, arith}
use Rattle.large_moves.proofs.Timed.{changed-elsewhere}
use Rattle.large_moves.proofs.tries.Tries.change.Goals as goal

pub returns-clause-elsewhere : goal.returns-clause-elsewhere
returns-clause-elsewhere c =
    let some = rw (← c.self.view_is) at c.requires.some in
    let first = rw (← c.self.view_is) at c.requires.first in
    let second = rw (← c.self.view_is) at c.requires.second in
    rw (← c.self.view_is) (changed-elsewhere _ c.self.invariant (c.self.inside.left - 1) c.args.a
    c.args.c (omega (arith, some)) first second)
