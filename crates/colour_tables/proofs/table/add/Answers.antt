-- Four loads at a time, from the top: the order is let in above, and the loads below are as before.
use Rattle.std.proofs.Common.{ℕ, ◌≡◌, ◌+◌, ◌-◌, ◌*◌, ◌/◌, ◌<◌, ◌≤◌, ◌∙◌, get_or, length, pos, refl}
use Rattle.std.proofs.Common.{SFits, w64, to_z-of_z, rules, arith}
use Rattle.std.proofs.lemmas.List.{length-take-le}
use Rattle.set_minima.proofs.CellNumbers.{near-wider}
use Rattle.colour_tables.proofs.FourWritten.{more-done, more-old, more-near, last-cells, last-near}
use Rattle.colour_tables.proofs.table.add.Goals as goal
use Rattle.mill_model.specs.declared.prices.TheConstants.{MAX_PRICE}

pub loop-i-init : goal.loop-i-init
loop-i-init c = record {
  done = λ k a b. absurd (omega arith);
  old = λ k b. refl;
  near = λ n h l.
      near-wider n (n + MAX_PRICE) (get_or c.args.table.now l (pos 0)) (omega arith) (h l);
}

pub loop-i-preserved : goal.loop-i-preserved
loop-i-preserved c =
    let f : SFits w64 c.args.price = search rules in
    let len = length c.args.table.now in
    let i = c.loop-i.i in
    let a = len - 4 * (i + 1) in
    let w : length c.loop-i.table ≡ length c.args.table.now = c.loop-i.auto.table in
    let v : length c.add_four.new.table ≡ length c.args.table.now = c.add_four.auto.table ∙ w in
    let room : c.args.weight + 4 * (c.loop-i.i + 1) ≤ length c.args.table.now =
    omega (arith, c.loop-i-test.true, c.if-weight-len.true) in
    let cells = simp to_z-of_z at c.add_four.ensures.cells in
    let done = simp to_z-of_z at c.loop-i.invariant.done in
    let old = λ (k : ℕ) (b : k < len - 4 * i). c.loop-i.invariant.old k (omega arith) in
    simp to_z-of_z (record {
      done = λ k b e.
          more-done c.args.weight c.args.price c.args.table.now c.loop-i.table
          c.add_four.new.table len i a refl room old c.add_four.ensures.others
          (λ j p q. done j (omega arith) (omega arith)) cells k (omega arith) (omega arith);
      old = λ k b.
          more-old c.args.weight c.args.price c.args.table.now c.loop-i.table
          c.add_four.new.table len i a refl room old c.add_four.ensures.others k (omega arith);
      near = λ n h.
          more-near c.args.weight c.args.price c.args.table.now c.loop-i.table
          c.add_four.new.table len i a refl room old c.add_four.ensures.others n h
          (c.loop-i.invariant.near n h) (c.add_four.ensures.near n);
    })

pub returns-after-loop-i-clause-cells : goal.returns-after-loop-i-clause-cells
returns-after-loop-i-clause-cells c =
    let f : SFits w64 c.args.price = search rules in
    let len = length c.args.table.now in
    let fours = (len - c.args.weight) / 4 in
    let w : length c.loop-i.table ≡ length c.args.table.now = c.loop-i.auto.table in
    let e : c.loop-i.i ≡ (length c.args.table.now - c.args.weight) / 4 =
    omega (arith, c.loop-i-test.false, c.loop-i.auto.i-end) in
    let cells = simp to_z-of_z at c.add_tail.ensures.cells in
    let done = simp to_z-of_z at c.loop-i.invariant.done in
    last-cells c.args.weight c.args.price c.args.table.now c.loop-i.table c.add_tail.new.table len
    (len - 4 * fours) (omega (arith, c.if-weight-len.true)) (omega arith) w
    (c.add_tail.auto.table ∙ length-take-le (len - 4 * fours) c.loop-i.table (omega arith))
    (λ k b. c.loop-i.invariant.old k (omega arith))
    (λ k p q. done k (omega arith) (omega arith)) cells

pub returns-after-loop-i-clause-near : goal.returns-after-loop-i-clause-near
returns-after-loop-i-clause-near c n h =
    let len = length c.args.table.now in
    let fours = (len - c.args.weight) / 4 in
    let w : length c.loop-i.table ≡ length c.args.table.now = c.loop-i.auto.table in
    let e : c.loop-i.i ≡ (length c.args.table.now - c.args.weight) / 4 =
    omega (arith, c.loop-i-test.false, c.loop-i.auto.i-end) in
    last-near c.args.weight c.args.price c.args.table.now c.loop-i.table c.add_tail.new.table len
    (len - 4 * fours) (omega (arith, c.if-weight-len.true)) (omega arith) w
    (c.add_tail.auto.table ∙ length-take-le (len - 4 * fours) c.loop-i.table (omega arith))
    (λ k b. c.loop-i.invariant.old k (omega arith)) n h
    (c.loop-i.invariant.near n h) (c.add_tail.ensures.near n)
