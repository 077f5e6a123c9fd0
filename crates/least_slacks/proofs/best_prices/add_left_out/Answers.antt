-- Run by run: the table has the orders left out that stand before `at`, beside all others.
use Rattle.std.proofs.Common.{◌≡◌, ◌+◌, ◌-◌, ◌*◌, length, get_or, pos, arith, sym}
use Rattle.set_minima.specs.Cells.{cell}
use Rattle.set_minima.specs.Joins.{all_places}
use Rattle.least_slacks.specs.Items.{IsStretch}
use Rattle.least_slacks.specs.Later.{joined_to, others_of}
use Rattle.set_minima.proofs.CellNumbers.{near-wider}
use Rattle.set_minima.proofs.WholeTables.{table-allowed, table-width}
use Rattle.least_slacks.proofs.ItemsLetIn.{stretch-from, before-end, none-joined, all-joined}
use Rattle.mill_model.specs.declared.prices.TheConstants.{MAX_PRICE}
use Rattle.least_slacks.proofs.best_prices.add_left_out.Goals as goal

pub add_run_left_out-requires-clause-stretch : goal.add_run_left_out-requires-clause-stretch
add_run_left_out-requires-clause-stretch c =
    stretch-from c.args.later.now.rest.now c.args.later.now.items.now c.requires.later.sorted
    c.loop-at.at c.run_end-end.result c.run_end-end.ensures.some c.run_end-end.ensures.ends
    (c.loop-at.invariant.border c.loop-at-test.true) c.run_end-end.ensures.alike
    c.run_end-end.ensures.other

pub add_run_left_out-requires-clause-near : goal.add_run_left_out-requires-clause-near
add_run_left_out-requires-clause-near c l =
    near-wider (200000000000000000 + c.loop-at.at * MAX_PRICE) 288230376151711744
    (get_or c.loop-at.table l (pos 0))
    (omega (arith, c.requires.later.few, c.requires.later.sorted.count, c.loop-at-test.true))
    (c.loop-at.invariant.near l)

pub loop-at-init : goal.loop-at-init
loop-at-init c = record {
  inside = omega arith;
  border = λ h s b. absurd (omega arith);
  best = λ own k have p.
      table-allowed c.args.later.now.rest.now c.args.later.now.prices.now
      (others_of c.args.later.now c.args.out.now)
      (joined_to c.args.later.now c.args.out.now 0) own k
      (length c.args.table.now) (cell c.args.table.now)
      (λ i b. none-joined c.args.later.now.rest.now c.args.later.now.items.now c.args.out.now i) p;
  near = λ l. near-wider 200000000000000000 (200000000000000000 + 0 * MAX_PRICE)
      (get_or c.args.table.now l (pos 0)) (omega arith)
      (c.requires.near l);
}

pub loop-at-preserved : goal.loop-at-preserved
loop-at-preserved c =
    let later = c.args.later.now in
    let at = c.loop-at.at in
    let end = c.run_end-end.result in
    let run : IsStretch later.items.now at end =
    stretch-from later.rest.now later.items.now c.requires.later.sorted at end
    c.run_end-end.ensures.some c.run_end-end.ensures.ends
    (c.loop-at.invariant.border c.loop-at-test.true) c.run_end-end.ensures.alike
    c.run_end-end.ensures.other in
    let w : length c.loop-at.table ≡ length c.args.table.now = c.loop-at.auto.table in
    let now = joined_to later c.args.out.now at in
    let then = joined_to later c.args.out.now end in
    record {
      inside = c.run_end-end.ensures.ends;
      border = before-end later.items.now at end run;
      best = λ own k have p.
          table-width later.rest.now later.prices.now then own k
          (length c.loop-at.table) (length c.args.table.now) (cell c.add_run_left_out.new.table) w
          (c.add_run_left_out.ensures.best own k have (table-width later.rest.now
          later.prices.now now own k (length c.args.table.now) (length c.loop-at.table)
          (cell c.loop-at.table) (sym w) (c.loop-at.invariant.best own k have p)));
      near = λ l.
          near-wider (200000000000000000 + at * MAX_PRICE + (end - at) * MAX_PRICE)
          (200000000000000000 + end * MAX_PRICE)
          (get_or c.add_run_left_out.new.table l (pos 0))
          (omega (arith, c.run_end-end.ensures.some))
          (c.add_run_left_out.ensures.near (200000000000000000 + at * MAX_PRICE)
          c.loop-at.invariant.near l);
    }

pub returns-clause-best : goal.returns-clause-best
returns-clause-best c own k have p =
    table-allowed c.args.later.now.rest.now c.args.later.now.prices.now
    (joined_to c.args.later.now c.args.out.now c.loop-at.at)
    all_places own k (length c.args.table.now)
    (cell c.loop-at.table)
    (λ i b. all-joined c.args.later.now.rest.now c.args.later.now.items.now c.requires.later.sorted
    c.args.out.now
    c.loop-at.at i (omega (arith, c.loop-at-test.false)) b) (c.loop-at.invariant.best own k have p)

pub returns-clause-near : goal.returns-clause-near
returns-clause-near c l =
    near-wider (200000000000000000 + c.loop-at.at * MAX_PRICE) 300000000000000000
    (get_or c.loop-at.table l (pos 0))
    (omega (arith, c.requires.later.few, c.requires.later.sorted.count, c.loop-at.invariant.inside))
    (c.loop-at.invariant.near l)
