use Rattle.std.proofs.Common.{rules, arith}
use Rattle.colour_tables.proofs.KnownColours.{at-no-place, at-place}
use Rattle.colour_tables.proofs.known.find_colour.Goals as goal

pub returns-then-colours-c : goal.returns-then-colours-c
returns-then-colours-c c =
    at-place c.args.colours.now c.args.colour c.loop-c.c (search rules) (search rules)

pub returns : goal.returns
returns c =
    at-no-place c.args.colours.now c.args.colour
    (λ k b. c.loop-c.invariant k (omega (arith, b, c.loop-c-test.false)))
