use Rattle.std.proofs.Common.{◌≡◌, ◌++◌, ◌≤◌, ◌-◌, vec_len}
use Rattle.std.specs.Io.KnownBytes.{Consumes}
use Rattle.mill_io.proofs.read.read_all.Given as goal

abbrev pub invariant-loop-count : goal.invariant-loop-count
invariant-loop-count g l = record {
  all : Consumes (g.S.Source.left l.fn.source) (g.S.Source.left l.source) l.bytes.items;
  given : g.S.Source.given l.source ≡ g.S.Source.given l.fn.source ++ l.bytes.items;
  within : vec_len l.bytes ≤ l.limit;
  no_fault : g.S.Source.faults l.source ≡ g.S.Source.faults l.fn.source;
}

abbrev pub decreases-loop-count : goal.decreases-loop-count
decreases-loop-count g l = l.limit - vec_len l.bytes
