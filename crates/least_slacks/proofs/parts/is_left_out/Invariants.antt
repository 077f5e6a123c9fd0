use Rattle.std.proofs.Common.{◌≡◌, drop}
use Rattle.list_laws.specs.Sets.{holds}
use Rattle.least_slacks.specs.Parts.{out_of}
use Rattle.least_slacks.proofs.parts.is_left_out.Given as goal

abbrev pub invariant-loop-i : goal.invariant-loop-i
invariant-loop-i l =
    holds l.colour (out_of l.most l.keys) ≡ holds l.colour (out_of l.most (drop l.i l.keys))
