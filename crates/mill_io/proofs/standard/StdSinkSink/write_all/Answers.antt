use Rattle.std.proofs.Common.{arith, length-take, length-drop}
use Rattle.std.specs.Prelude.{Some}
use Rattle.mill_io.proofs.Fronts.{front-written, taken-goes-on, written-goes-on}
use Rattle.mill_io.proofs.standard.StdSinkSink.write_all.Goals as goal

pub returns-then-count-eq0-clause-inner_err : goal.returns-then-count-eq0-clause-inner_err
returns-then-count-eq0-clause-inner_err g c =
    front-written _ _ _ _
    (written-goes-on _ _ _ _ c.loop-at.at _ c.loop-at.invariant.written
    c.write_some-count.ensures.bytes)

pub returns-then-count-eq0-clause-err : goal.returns-then-count-eq0-clause-err
returns-then-count-eq0-clause-err g c =
    front-written (Some _) (Some _) _ c.loop-at.at c.loop-at.invariant.taken

pub loop-at-preserved : goal.loop-at-preserved
loop-at-preserved g c = record {
  within = omega (arith, simp (length-take, length-drop) at c.write_some-count.ensures.within);
  written =
      written-goes-on _ _ _ _ c.loop-at.at _ c.loop-at.invariant.written
      c.write_some-count.ensures.bytes;
  taken =
      taken-goes-on _ _ _ _ c.loop-at.at c.write_some-count.result c.loop-at.invariant.taken
      c.note.ensures;
  faults = c.loop-at.invariant.faults;
}
