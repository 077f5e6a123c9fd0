-- Item by item: the table has the best of the sets of what was let in so far.
use Rattle.std.proofs.Common.{◌≡◌, ◌+◌, ◌*◌, length, get_or, pos, arith, subst, sym}
use Rattle.set_minima.specs.Packs.{IsTable}
use Rattle.set_minima.specs.Cells.{cell}
use Rattle.colour_tables.specs.Items.{let_in}
use Rattle.set_minima.proofs.CellNumbers.{near-wider}
use Rattle.colour_tables.proofs.RunsLetIn.{first-let_in}
use Rattle.set_minima.proofs.WholeTables.{table-allowed}
use Rattle.colour_tables.proofs.table.add_run.Goals as goal
use Rattle.mill_model.specs.declared.prices.TheConstants.{MAX_PRICE}
use Rattle.mill_model.specs.Limits.{all_prices}

pub consider-requires-clause-near : goal.consider-requires-clause-near
consider-requires-clause-near c l =
    near-wider (288230376151711744 + c.loop-t.t * MAX_PRICE) 576460752303423488
    (get_or c.loop-t.table l (pos 0)) (omega (arith, c.requires.small.few, c.loop-t-test.true))
    (c.loop-t.invariant.near 288230376151711744 c.requires.near l)

pub loop-t-init : goal.loop-t-init
loop-t-init c = record {
  best = λ rest prices colour is before own k paid new h.
      table-allowed rest prices before (let_in before c.args.run.now c.args.skip 0) own k
      (length c.args.table.now) (cell c.args.table.now)
      (λ i b. first-let_in before c.args.run.now c.args.skip i) h;
  near = λ n h l.
      near-wider n (n + 0 * MAX_PRICE) (get_or c.args.table.now l (pos 0)) (omega arith) (h l);
}

pub loop-t-preserved : goal.loop-t-preserved
loop-t-preserved c = record {
  best = λ rest prices colour is before own k paid new h.
      let w : length c.loop-t.table ≡ length c.args.table.now = c.loop-t.auto.table in
      subst (λ z. IsTable (let_in before c.args.run.now c.args.skip (c.loop-t.t + 1)) own k rest
      prices z (cell c.consider.new.table)) w
      (c.consider.ensures.best rest prices colour is before own k paid new
      (subst (λ z. IsTable (let_in before c.args.run.now c.args.skip c.loop-t.t) own k rest prices z
      (cell c.loop-t.table)) (sym w)
      (c.loop-t.invariant.best rest prices colour is before own k paid new h)));
  near = λ n h l.
      near-wider (n + c.loop-t.t * MAX_PRICE + MAX_PRICE)
      (n + (c.loop-t.t + 1) * MAX_PRICE) (get_or c.consider.new.table l (pos 0))
      (omega arith)
      (c.consider.ensures.near (n + c.loop-t.t * MAX_PRICE) (c.loop-t.invariant.near n h) l);
}

pub returns-clause-best : goal.returns-clause-best
returns-clause-best c rest prices colour is before own k paid new h =
    let e : c.loop-t.t ≡ length c.args.run.now = omega (
      arith,
      c.loop-t-test.false,
      c.loop-t.auto.t-end,
    ) in
    subst (λ t. IsTable (let_in before c.args.run.now c.args.skip t) own k rest prices
    (length c.args.table.now) (cell c.loop-t.table)) e
    (c.loop-t.invariant.best rest prices colour is before own k paid new h)

pub returns-clause-near : goal.returns-clause-near
returns-clause-near c n h l =
    near-wider (n + c.loop-t.t * MAX_PRICE) (n + all_prices)
    (get_or c.loop-t.table l (pos 0))
    (omega (arith, c.requires.small.few, c.loop-t.auto.t-end))
    (c.loop-t.invariant.near n h l)
