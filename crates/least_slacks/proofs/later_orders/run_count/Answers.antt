use Rattle.std.proofs.Common.{rules, ◌≡◌, ◌-◌, arith}
use Rattle.least_slacks.specs.Items.{item_at}
use Rattle.least_slacks.proofs.ColoursCounted.{colours-more, colours-same}
use Rattle.least_slacks.proofs.later_orders.run_count.Goals.{then-t-eq0, else-t-eq0+else-items-t}
use Rattle.least_slacks.proofs.later_orders.run_count.Goals as goal

pub loop-t-preserved : goal.loop-t-preserved
loop-t-preserved c = elim c.if-t-eq0.branch [
  | then-t-eq0 w ↦ (let more = colours-more c.args.items.now c.loop-t.t c.loop-t-test.true in
      record {
        few = omega (arith, more, w.count-is, c.loop-t.invariant.few);
        small = omega (arith, w.count-is, c.loop-t.invariant.small);
      })
  | else-t-eq0+else-items-t w ↦ (
      let like : (item_at c.args.items.now c.loop-t.t).colour
      ≡ (item_at c.args.items.now (c.loop-t.t - 1)).colour = search rules in
      let same = colours-same c.args.items.now c.loop-t.t c.loop-t-test.true
      (omega (arith, w.if-t-eq0)) like in
      record {
        few = omega (arith, same, w.count-is, c.loop-t.invariant.few);
        small = omega (arith, w.count-is, c.loop-t.invariant.small);
      })
]
