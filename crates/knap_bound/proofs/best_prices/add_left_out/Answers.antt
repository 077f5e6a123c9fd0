-- Item by item: the table has the orders left out that stand before `t`, beside all others.
use Rattle.std.proofs.Common.{◌≡◌, ◌+◌, ◌*◌, length, get_or, pos, arith, sym}
use Rattle.set_minima.specs.Cells.{cell}
use Rattle.set_minima.specs.Joins.{all_but}
use Rattle.knap_bound.specs.Packing.{joined_to, others_of}
use Rattle.set_minima.proofs.CellNumbers.{near-wider}
use Rattle.knap_bound.proofs.ItemsLetIn.{none-joined, all-joined}
use Rattle.set_minima.proofs.WholeTables.{table-allowed, table-width}
use Rattle.mill_model.specs.declared.prices.TheConstants.{MAX_PRICE}
use Rattle.knap_bound.proofs.best_prices.add_left_out.Goals as goal

pub consider-requires-clause-near : goal.consider-requires-clause-near
consider-requires-clause-near c l =
    near-wider (200000000000000000 + c.loop-t.t * MAX_PRICE) 576460752303423488
    (get_or c.loop-t.table l (pos 0))
    (omega (arith, c.requires.packing.few, c.requires.packing.sorted.count))
    (c.loop-t.invariant.near l)

pub loop-t-init : goal.loop-t-init
loop-t-init c = record {
  best = λ k p.
      table-allowed c.args.packing.now.rest.now c.args.packing.now.prices.now
      (others_of c.args.packing.now c.args.out.now)
      (joined_to c.args.packing.now c.args.out.now 0) c.args.out.now k
      (length c.args.table.now) (cell c.args.table.now)
      (λ i b. none-joined c.args.packing.now.rest.now c.args.packing.now.items.now c.args.out.now
      c.args.packing.now.skip i) p;
  near = λ l. near-wider 200000000000000000 (200000000000000000 + 0 * MAX_PRICE)
      (get_or c.args.table.now l (pos 0)) (omega arith)
      (c.requires.near l);
}

pub loop-t-preserved : goal.loop-t-preserved
loop-t-preserved c = record {
  best = λ k p.
      let t = c.loop-t.t in
      let w : length c.loop-t.table ≡ length c.args.table.now = c.loop-t.auto.table in
      let now = joined_to c.args.packing.now c.args.out.now t in
      let then = joined_to c.args.packing.now c.args.out.now (t + 1) in
      table-width c.args.packing.now.rest.now c.args.packing.now.prices.now then c.args.out.now k
      (length c.loop-t.table) (length c.args.table.now) (cell c.consider.new.table) w
      (c.consider.ensures.best k (table-width c.args.packing.now.rest.now
      c.args.packing.now.prices.now
      now c.args.out.now k (length c.args.table.now) (length c.loop-t.table) (cell c.loop-t.table)
      (sym w) (c.loop-t.invariant.best k p)));
  near = λ l.
      near-wider (200000000000000000 + c.loop-t.t * MAX_PRICE + MAX_PRICE)
      (200000000000000000 + (c.loop-t.t + 1) * MAX_PRICE)
      (get_or c.consider.new.table l (pos 0)) (omega arith)
      (c.consider.ensures.near (200000000000000000 + c.loop-t.t * MAX_PRICE)
      c.loop-t.invariant.near l);
}

pub returns-clause-best : goal.returns-clause-best
returns-clause-best c k p =
    table-allowed c.args.packing.now.rest.now c.args.packing.now.prices.now
    (joined_to c.args.packing.now c.args.out.now c.loop-t.t)
    (all_but c.args.packing.now.skip) c.args.out.now k (length c.args.table.now)
    (cell c.loop-t.table)
    (λ i b. all-joined c.args.packing.now.rest.now c.args.packing.now.items.now
    c.requires.packing.sorted c.args.out.now c.args.packing.now.skip c.loop-t.t i
    (omega (arith, c.loop-t-test.false)) b) (c.loop-t.invariant.best k p)

pub returns-clause-near : goal.returns-clause-near
returns-clause-near c l =
    near-wider (200000000000000000 + c.loop-t.t * MAX_PRICE) 300000000000000000
    (get_or c.loop-t.table l (pos 0))
    (omega (arith, c.requires.packing.few, c.requires.packing.sorted.count, c.loop-t.auto.t-end))
    (c.loop-t.invariant.near l)
