use Rattle.std.proofs.Common.{◌≡◌, suc, ◌+◌, ◌-ℤ◌, neg_ℤ, length, get_or, pos, SFits, w64}
use Rattle.std.proofs.Common.{to_z-of_z, to_z, rules, arith, sym, subst, ap, ◌∙◌}
use Rattle.set_minima.specs.Packs.{IsTop}
use Rattle.set_minima.specs.Joins.{gain, Packed}
use Rattle.set_minima.proofs.Gains.{gain-more}
use Rattle.set_minima.specs.Cells.{cell, found}
use Rattle.colour_tables.proofs.LeastNumbers.{found-least, less-fits}
use Rattle.colour_tables.proofs.gain.least.Goals as goal
use Rattle.mill_model.specs.declared.prices.TheConstants.{MAX_PRICE}
use Rattle.colour_tables.specs.Entries.{table_limit}

pub loop-l-preserved : goal.loop-l-preserved
loop-l-preserved c allowed own k rest prices charge base charged p =
    let l = c.loop-l.l in
    let x = get_or c.args.charges.now l (pos 0) in
    let t = get_or c.args.table.now l (pos 0) in
    let least = to_z w64 c.loop-l.least-bits in
    let fr : SFits w64 c.min-least.result = search rules in
    let fx : SFits w64 (get_or c.args.charges.now c.loop-l.l (pos 0)) = search rules in
    let ft : SFits w64 (get_or c.args.table.now c.loop-l.l (pos 0)) = search rules in
    let fd : SFits w64 (get_or c.args.charges.now c.loop-l.l (pos 0)
    -ℤ get_or c.args.table.now c.loop-l.l (pos 0)) =
    less-fits x t (c.requires.small l) (c.requires.near l) in
    let e = simp to_z-of_z at c.min-least.ensures.value in
    let s : l + 1 ≡ suc l = omega arith in
    let f = ap (λ z. found (neg_ℤ z)) e
    ∙ found-least table_limit MAX_PRICE least x t (omega arith) (c.requires.near l)
    (c.requires.small l) in
    simp to_z-of_z (subst (λ z. IsTop (Packed allowed own k rest 0 z)
    (gain charge base rest prices) (found (neg_ℤ c.min-least.result))) (sym s)
    (subst (λ z. IsTop (Packed allowed own k rest 0 (suc l))
    (gain charge base rest prices) z) (sym f)
    (gain-more allowed own k rest prices charge base 0 l (omega arith) (found (neg_ℤ least))
    (cell c.args.table.now l) (neg_ℤ x) (ap neg_ℤ (charged l c.loop-l-test.true))
    (c.loop-l.invariant allowed own k rest prices charge base charged p)
    (p l c.loop-l-test.true))))

pub returns : goal.returns
returns c = record {
  top = λ allowed own k rest prices charge base charged p.
      let e : c.loop-l.l ≡ length c.args.table.now =
      omega (arith, c.loop-l-test.false, c.loop-l.auto.l-end) in
      subst (λ z. IsTop (Packed allowed own k rest 0 z)
      (gain charge base rest prices) (found (neg_ℤ (to_z w64 c.loop-l.least-bits)))) e
      (c.loop-l.invariant allowed own k rest prices charge base charged p);
}
