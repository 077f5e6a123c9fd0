use Rattle.std.proofs.Common.{add-one, arith}
use Rattle.mill_model.specs.declared.order.Order.{Order}
use Rattle.large_moves.proofs.Loads.{marked-more, unmarked-more}
use Rattle.large_moves.proofs.pair.part_loads.Goals as goal
use Rattle.large_moves.proofs.pair.part_loads.Goals.{then-marks-i, else-marks-i}

abbrev none : Order
none = record { weight = 0; colour = 0 }

pub loop-i-preserved : goal.loop-i-preserved
loop-i-preserved c =
    let marked = marked-more c.loop-i.i c.args.marks.now c.args.items.now none (omega arith)
    (omega arith) in
    let others = unmarked-more c.loop-i.i c.args.marks.now c.args.items.now none (omega arith)
    (omega arith) in
    elim c.if-marks-i.branch [
      | then-marks-i w ↦ (let more = rw w.if-marks-i.true at marked in
          let same = rw w.if-marks-i.true at others in
          record {
            marked = rw add-one (omega (arith, more, w.first-is, c.loop-i.invariant.marked));
            others = rw add-one (omega (arith, same, w.second-is, c.loop-i.invariant.others));
            first_small = omega (
              arith,
              w.first-is,
              c.loop-i.invariant.first_small,
              c.loop-i-test.element_fits.fits,
            );
            second_small = omega (arith, w.second-is, c.loop-i.invariant.second_small);
          })
      | else-marks-i w ↦ (let same = rw w.if-marks-i.false at marked in
          let more = rw w.if-marks-i.false at others in
          record {
            marked = rw add-one (omega (arith, same, w.first-is, c.loop-i.invariant.marked));
            others = rw add-one (omega (arith, more, w.second-is, c.loop-i.invariant.others));
            first_small = omega (arith, w.first-is, c.loop-i.invariant.first_small);
            second_small = omega (
              arith,
              w.second-is,
              c.loop-i.invariant.second_small,
              c.loop-i-test.element_fits.fits,
            );
          })
    ]
