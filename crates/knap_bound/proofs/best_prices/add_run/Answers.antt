-- Item by item: the table has the orders of the run before `t`.
use Rattle.std.proofs.Common.{[], true, ◌≡◌, ◌+◌, ◌-◌, ◌*◌, ◌∷◌, false, get_or, pos, length, arith}
use Rattle.std.proofs.Common.{subst, sym, eq-eqb, eqb, refl}
use Rattle.list_laws.specs.Sets.{holds}
use Rattle.list_laws.proofs.Tests.{or-left}
use Rattle.set_minima.specs.Packs.{colour_at}
use Rattle.set_minima.specs.Cells.{cell}
use Rattle.knap_bound.specs.Items.{item_at}
use Rattle.knap_bound.specs.Packing.{let_to, IsTableOf}
use Rattle.set_minima.proofs.CellNumbers.{near-wider}
use Rattle.set_minima.proofs.WholeTables.{table-width}
use Rattle.mill_model.specs.Limits.{all_prices}
use Rattle.mill_model.specs.declared.prices.TheConstants.{MAX_PRICE}
use Rattle.knap_bound.proofs.best_prices.add_run.Goals as goal

pub add_kept-requires-clause-near : goal.add_kept-requires-clause-near
add_kept-requires-clause-near c l =
    near-wider (288230376151711744 + (c.loop-t.t - c.args.at) * MAX_PRICE) 576460752303423488
    (get_or c.loop-t.table l (pos 0))
    (omega (arith, c.requires.packing.few, c.requires.packing.sorted.count, c.requires.ends))
    (c.loop-t.invariant.near 288230376151711744 c.requires.near l)

pub loop-t-init : goal.loop-t-init
loop-t-init c = record {
  best = λ out colour k run p. p;
  near = λ n h l.
      near-wider n (n + (c.args.at - c.args.at) * MAX_PRICE) (get_or c.args.table.now l (pos 0))
      (omega arith) (h l);
}

pub loop-t-preserved : goal.loop-t-preserved
loop-t-preserved c = record {
  best = λ out colour k run p.
      let t = c.loop-t.t in
      let a : colour_at c.args.packing.now.rest.now (item_at c.args.packing.now.items.now t).place ≡
      colour =
      run.alike t c.loop-t.auto.t c.loop-t-test.true in
      let n : holds (colour_at c.args.packing.now.rest.now (item_at c.args.packing.now.items.now
      t).place) out ≡ false =
      rw a run.not_out in
      let paid : holds (colour_at c.args.packing.now.rest.now (item_at c.args.packing.now.items.now
      t).place) (colour ∷ [])
      ≡ true = subst (λ x. holds x (colour ∷ []) ≡ true) (sym a)
      (or-left (eqb colour colour) (holds colour []) (eq-eqb colour colour refl)) in
      let w : length c.loop-t.table ≡ length c.args.table.now = c.loop-t.auto.table in
      let now = let_to c.args.packing.now out t in
      let then = let_to c.args.packing.now out (t + 1) in
      table-width c.args.packing.now.rest.now c.args.packing.now.prices.now then (colour ∷ []) k
      (length c.loop-t.table) (length c.args.table.now) (cell c.add_kept.new.table) w
      (c.add_kept.ensures.best out (colour ∷ []) k n
      paid (table-width c.args.packing.now.rest.now c.args.packing.now.prices.now now
      (colour ∷ []) k (length c.args.table.now) (length c.loop-t.table) (cell c.loop-t.table)
      (sym w)
      (c.loop-t.invariant.best out colour k run p)));
  near = λ n h l.
      near-wider (n + (c.loop-t.t - c.args.at) * MAX_PRICE + MAX_PRICE)
      (n + (c.loop-t.t + 1 - c.args.at) * MAX_PRICE) (get_or c.add_kept.new.table l (pos 0))
      (omega (arith, c.loop-t.auto.t))
      (c.add_kept.ensures.near (n + (c.loop-t.t - c.args.at) * MAX_PRICE)
      (c.loop-t.invariant.near n h) l);
}

pub returns-clause-best : goal.returns-clause-best
returns-clause-best c out colour k run p =
    let e : c.loop-t.t ≡ c.args.end = omega (arith, c.loop-t.auto.t-end, c.requires.order) in
    subst (λ t. IsTableOf c.args.packing.now (let_to c.args.packing.now out t) (colour ∷ []) k
    (length
    c.args.table.now) (cell c.loop-t.table)) e
    (c.loop-t.invariant.best out colour k run p)

pub returns-clause-near : goal.returns-clause-near
returns-clause-near c n h l =
    near-wider (n + (c.loop-t.t - c.args.at) * MAX_PRICE) (n + all_prices)
    (get_or c.loop-t.table l (pos 0))
    (omega (
      arith,
      c.requires.packing.few,
      c.requires.packing.sorted.count,
      c.requires.ends,
      c.loop-t.auto.t-end,
      c.requires.order,
    ))
    (c.loop-t.invariant.near n h l)
