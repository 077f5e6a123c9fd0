-- Item by item: the table has the orders of the run before `t`.
use Rattle.std.proofs.Common.{[], true, ◌≡◌, ◌+◌, ◌-◌, ◌*◌, ◌∷◌, false, get_or, pos, length, arith}
use Rattle.std.proofs.Common.{subst, sym, eq-eqb, eqb, refl}
use Rattle.list_laws.specs.Sets.{holds}
use Rattle.list_laws.proofs.Tests.{or-left}
use Rattle.set_minima.specs.Packs.{colour_at}
use Rattle.set_minima.specs.Cells.{cell}
use Rattle.least_slacks.specs.Items.{item_at}
use Rattle.least_slacks.specs.Later.{let_to, IsTableOf}
use Rattle.set_minima.proofs.CellNumbers.{near-wider}
use Rattle.set_minima.proofs.WholeTables.{table-width}
use Rattle.least_slacks.proofs.ItemsLetIn.{next-let_in}
use Rattle.mill_model.specs.declared.prices.TheConstants.{MAX_PRICE}
use Rattle.least_slacks.proofs.best_prices.add_run.Goals as goal

pub add_item-requires-clause-near : goal.add_item-requires-clause-near
add_item-requires-clause-near c l =
    near-wider (288230376151711744 + (c.loop-t.t - c.args.at) * MAX_PRICE) 576460752303423488
    (get_or c.loop-t.table l (pos 0))
    (omega (arith, c.requires.later.few, c.requires.later.sorted.count, c.requires.ends))
    (c.loop-t.invariant.near 288230376151711744 c.requires.near l)

pub loop-t-init : goal.loop-t-init
loop-t-init c = record {
  best = λ letting colour k run p. p;
  near = λ n h l.
      near-wider n (n + (c.args.at - c.args.at) * MAX_PRICE) (get_or c.args.table.now l (pos 0))
      (omega arith) (h l);
}

pub loop-t-preserved : goal.loop-t-preserved
loop-t-preserved c = record {
  best = λ letting colour k run p.
      let t = c.loop-t.t in
      let a : colour_at c.args.later.now.rest.now (item_at c.args.later.now.items.now t).place ≡
      colour =
      run.alike t c.loop-t.auto.t c.loop-t-test.true in
      let was : holds (colour_at c.args.later.now.rest.now (item_at c.args.later.now.items.now
      t).place) letting.before ≡ true =
      rw a run.was_out in
      let n : holds (colour_at c.args.later.now.rest.now (item_at c.args.later.now.items.now
      t).place) letting.after ≡ false =
      rw a run.not_out in
      let paid : holds (colour_at c.args.later.now.rest.now (item_at c.args.later.now.items.now
      t).place) (colour ∷ [])
      ≡ true = subst (λ x. holds x (colour ∷ []) ≡ true) (sym a)
      (or-left (eqb colour colour) (holds colour []) (eq-eqb colour colour refl)) in
      let w : length c.loop-t.table ≡ length c.args.table.now = c.loop-t.auto.table in
      let now = let_to c.args.later.now letting t in
      let then = let_to c.args.later.now letting (t + 1) in
      table-width c.args.later.now.rest.now c.args.later.now.prices.now then (colour ∷ []) k
      (length c.loop-t.table) (length c.args.table.now) (cell c.add_item.new.table) w
      (c.add_item.ensures.best now then (colour ∷ []) k
      (next-let_in c.args.later.now.rest.now c.args.later.now.items.now c.requires.later.sorted
      letting
      t (omega arith) was n)
      paid (table-width c.args.later.now.rest.now c.args.later.now.prices.now now (colour ∷ []) k
      (length c.args.table.now) (length c.loop-t.table) (cell c.loop-t.table) (sym w)
      (c.loop-t.invariant.best letting colour k run p)));
  near = λ n h l.
      near-wider (n + (c.loop-t.t - c.args.at) * MAX_PRICE + MAX_PRICE)
      (n + (c.loop-t.t + 1 - c.args.at) * MAX_PRICE) (get_or c.add_item.new.table l (pos 0))
      (omega (arith, c.loop-t.auto.t))
      (c.add_item.ensures.near (n + (c.loop-t.t - c.args.at) * MAX_PRICE)
      (c.loop-t.invariant.near n h) l);
}

pub returns-clause-best : goal.returns-clause-best
returns-clause-best c letting colour k run p =
    let e : c.loop-t.t ≡ c.args.end = omega (arith, c.loop-t.auto.t-end, c.requires.order) in
    subst (λ t. IsTableOf c.args.later.now (let_to c.args.later.now letting t) (colour ∷ []) k
    (length
    c.args.table.now) (cell c.loop-t.table)) e
    (c.loop-t.invariant.best letting colour k run p)

pub returns-clause-near : goal.returns-clause-near
returns-clause-near c n h l =
    near-wider (n + (c.loop-t.t - c.args.at) * MAX_PRICE)
    (n + (c.args.end - c.args.at) * MAX_PRICE) (get_or c.loop-t.table l (pos 0))
    (omega (arith, c.loop-t.auto.t-end, c.requires.order)) (c.loop-t.invariant.near n h l)
