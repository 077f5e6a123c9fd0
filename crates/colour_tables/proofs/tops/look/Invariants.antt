use Rattle.std.proofs.Common.{◌≡◌, take}
use Rattle.colour_tables.specs.Threes.{three, row_entry}
use Rattle.colour_tables.proofs.tops.look.Given as goal

abbrev pub invariant-loop-i : goal.invariant-loop-i
invariant-loop-i l = l.tops ≡ three (row_entry l.rows l.width l.load) (take l.i l.present)
