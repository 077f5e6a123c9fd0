-- Item by item: the table has the orders of the run before `t`.
use Rattle.std.proofs.Common.{true, ◌≡◌, ◌+◌, ◌-◌, ◌*◌, ◌<◌, ◌≤◌, ◌∙◌, get_or, pos, length, arith}
use Rattle.std.proofs.Common.{subst, sym, ap}
use Rattle.list_laws.specs.Sets.{holds}
use Rattle.set_minima.specs.Packs.{colour_at}
use Rattle.set_minima.specs.Cells.{cell}
use Rattle.least_slacks.specs.Items.{item_at}
use Rattle.least_slacks.specs.Later.{joined_to, IsTableOf}
use Rattle.set_minima.proofs.CellNumbers.{near-wider}
use Rattle.set_minima.proofs.WholeTables.{table-width}
use Rattle.least_slacks.proofs.ItemsLetIn.{next-joined}
use Rattle.mill_model.specs.declared.prices.TheConstants.{MAX_PRICE}
use Rattle.least_slacks.proofs.best_prices.add_own_run.Goals as goal

pub add_item-requires-clause-near : goal.add_item-requires-clause-near
add_item-requires-clause-near c l =
    near-wider (288230376151711744 + (c.loop-t.t - c.args.at) * MAX_PRICE) 576460752303423488
    (get_or c.loop-t.table l (pos 0))
    (omega (arith, c.requires.later.few, c.requires.later.sorted.count, c.requires.stretch.ends))
    (c.loop-t.invariant.near 288230376151711744 c.requires.near l)

pub loop-t-init : goal.loop-t-init
loop-t-init c = record {
  best = λ out own k have has p. p;
  near = λ n h l.
      near-wider n (n + (c.args.at - c.args.at) * MAX_PRICE) (get_or c.args.table.now l (pos 0))
      (omega arith) (h l);
}

pub loop-t-preserved : goal.loop-t-preserved
loop-t-preserved c = record {
  best = λ out own k have has p.
      let later = c.args.later.now in
      let rest = later.rest.now in
      let items = later.items.now in
      let t = c.loop-t.t in
      let ends : c.args.end ≤ length items = c.requires.stretch.ends in
      let here : t < length items = omega (arith, ends, c.loop-t-test.true) in
      let alike : colour_at rest (item_at items t).place ≡ (item_at items c.args.at).colour =
      sym (c.requires.later.sorted.coloured t here)
      ∙ c.requires.stretch.alike t c.loop-t.auto.t c.loop-t-test.true in
      let out_too : holds (colour_at rest (item_at items t).place) out ≡ true =
      ap (λ x. holds x out) alike ∙ has in
      let w : length c.loop-t.table ≡ length c.args.table.now = c.loop-t.auto.table in
      let now = joined_to later out t in
      let then = joined_to later out (t + 1) in
      table-width rest later.prices.now then own k
      (length c.loop-t.table) (length c.args.table.now) (cell c.add_item.new.table) w
      (c.add_item.ensures.best now then own k
      (next-joined rest items c.requires.later.sorted out t here out_too)
      (have (item_at items t).place (c.requires.later.sorted.inside t here) ∙ out_too)
      (table-width rest later.prices.now now own k
      (length c.args.table.now) (length c.loop-t.table) (cell c.loop-t.table) (sym w)
      (c.loop-t.invariant.best out own k have has p)));
  near = λ n h l.
      near-wider (n + (c.loop-t.t - c.args.at) * MAX_PRICE + MAX_PRICE)
      (n + (c.loop-t.t + 1 - c.args.at) * MAX_PRICE) (get_or c.add_item.new.table l (pos 0))
      (omega (arith, c.loop-t.auto.t))
      (c.add_item.ensures.near (n + (c.loop-t.t - c.args.at) * MAX_PRICE)
      (c.loop-t.invariant.near n h) l);
}

pub returns-clause-best : goal.returns-clause-best
returns-clause-best c out own k have has p =
    let e : c.loop-t.t ≡ c.args.end =
    omega (arith, c.loop-t.auto.t-end, c.loop-t-test.false, c.requires.stretch.some) in
    subst (λ t. IsTableOf c.args.later.now (joined_to c.args.later.now out t) own k
    (length c.args.table.now) (cell c.loop-t.table)) e
    (c.loop-t.invariant.best out own k have has p)

pub returns-clause-near : goal.returns-clause-near
returns-clause-near c n h l =
    near-wider (n + (c.loop-t.t - c.args.at) * MAX_PRICE)
    (n + (c.args.end - c.args.at) * MAX_PRICE) (get_or c.loop-t.table l (pos 0))
    (omega (arith, c.loop-t.auto.t-end, c.requires.stretch.some)) (c.loop-t.invariant.near n h l)
