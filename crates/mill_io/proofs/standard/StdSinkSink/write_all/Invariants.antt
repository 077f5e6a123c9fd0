use Rattle.std.proofs.Common.{◌≡◌, ◌++◌, ◌≤◌, ◌-◌, length, take}
use Rattle.std.specs.Io.KnownBytes.{Appends}
use Rattle.mill_io.proofs.standard.StdSinkSink.write_all.Given as goal

abbrev pub invariant-loop-at : goal.invariant-loop-at
invariant-loop-at g l = record {
  within : l.at ≤ length l.piece;
  written :
      Appends (g.W.Write.contents l.fn.self.inner) (g.W.Write.contents l.self.inner)
      (take l.at l.piece);
  taken : l.self.taken.bytes ≡ l.fn.self.taken.bytes ++ take l.at l.piece;
  faults : l.self.faults ≡ l.fn.self.faults;
}

abbrev pub decreases-loop-at : goal.decreases-loop-at
decreases-loop-at g l = length l.piece - l.at
