use Rattle.std.proofs.Common.{arith}
use Rattle.std.proofs.lemmas.List.{length-map}
use Rattle.large_moves.proofs.Homes.{home-at}
use Rattle.large_moves.proofs.by_colour.read_plan.Goals as goal

pub bounds-slabs-c : goal.bounds-slabs-c
bounds-slabs-c c =
    let count = length-map c.args.coloured.now (λ c. c.home) in
    let home = home-at c.args.coloured.now c.loop-c.c-index c.loop-c-test.true in
    let within = c.requires.within c.loop-c.c-index (omega (arith, count, c.loop-c-test.true)) in
    omega (arith, home, within)
