-- Load by load: the best gain so far is the greatest over the loads below `l`.
use Rattle.std.proofs.Common.{◌≡◌, suc, ◌+◌, ◌*◌, length, get_or, slice_index}
use Rattle.std.proofs.Common.{pos}
use Rattle.std.proofs.Common.{SFits, w64, to_z-of_z, to_z, rules, arith, sym, subst}
use Rattle.set_minima.specs.Packs.{IsTop}
use Rattle.set_minima.specs.Joins.{gain, Packed}
use Rattle.set_minima.proofs.Gains.{gain-more}
use Rattle.set_minima.specs.Cells.{cell, found}
use Rattle.set_minima.proofs.CellNumbers.{near-wider}
use Rattle.mill_model.specs.declared.prices.TheConstants.{MAX_PRICE}
use Rattle.least_slacks.proofs.least_slack.best_gain.Goals as goal

pub loop-l-preserved : goal.loop-l-preserved
loop-l-preserved c =
    let fv : SFits w64 c.best_of-best.result = search rules in
    let ft : SFits w64 (get_or c.args.table.now c.loop-l.l (pos 0)) = search rules in
    let fp : SFits w64 c.paid.result = search rules in
    let e = simp to_z-of_z at c.best_of-best.ensures.is in
    let n = simp to_z-of_z at c.best_of-best.ensures.near in
    let s : c.loop-l.l + 1 ≡ suc c.loop-l.l = omega arith in
    simp to_z-of_z (record {
      top = λ allowed own k rest prices p.
          subst (λ z. IsTop (Packed allowed own k rest 0 z)
          (gain (λ i. slice_index c.args.charges.now i) c.args.load rest prices)
          (found c.best_of-best.result)) (sym s)
          (subst (λ x. IsTop (Packed allowed own k rest 0 (suc c.loop-l.l))
          (gain (λ i. slice_index c.args.charges.now i) c.args.load rest prices) x) (sym e)
          (gain-more allowed own k rest prices (λ i. slice_index c.args.charges.now i) c.args.load
          0 c.loop-l.l (omega arith) (found (to_z w64 c.loop-l.best-bits))
          (cell c.args.table.now c.loop-l.l) c.paid.result c.paid.ensures.is
          (c.loop-l.invariant.top allowed own k rest prices p)
          (p c.loop-l.l (omega arith))));
      near =
          near-wider (300000000000000000 + c.loop-l.l * MAX_PRICE + MAX_PRICE)
          (300000000000000000 + (c.loop-l.l + 1) * MAX_PRICE) c.best_of-best.result
          (omega arith) (n (300000000000000000 + c.loop-l.l * MAX_PRICE)
          c.loop-l.invariant.near
          (near-wider 300000000000000000 (300000000000000000 + c.loop-l.l * MAX_PRICE)
          (get_or c.args.table.now c.loop-l.l (pos 0)) (omega arith)
          (c.requires.near c.loop-l.l)));
    })

pub returns-clause-top : goal.returns-clause-top
returns-clause-top c allowed own k rest prices p =
    let e : c.loop-l.l ≡ length c.args.table.now = omega (arith, c.loop-l-test.false) in
    subst (λ z. IsTop (Packed allowed own k rest 0 z)
    (gain (λ i. slice_index c.args.charges.now i) c.args.load rest prices)
    (found (to_z w64 c.loop-l.best-bits))) e
    (c.loop-l.invariant.top allowed own k rest prices p)

pub returns-clause-near : goal.returns-clause-near
returns-clause-near c =
    near-wider (300000000000000000 + c.loop-l.l * MAX_PRICE) 576460752303423488
    (to_z w64 c.loop-l.best-bits) (omega (arith, c.loop-l.auto.l-end, c.requires.few))
    c.loop-l.invariant.near
