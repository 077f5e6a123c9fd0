-- Colour by colour: the least is over the sets with an order of one of the colours so far.
use Rattle.std.proofs.Common.{◌≡◌, ◌+◌, ◌<◌, ◌∷◌, [], ◌∙◌, length, take, neg_ℤ, sym, subst}
use Rattle.std.proofs.Common.{SFits, w64, to_z, to_z-of_z, rules}
use Rattle.std.proofs.lemmas.List.{take_all}
use Rattle.set_minima.specs.Packs.{IsTop, IsTable}
use Rattle.set_minima.specs.Joins.{gain, Packed, Joins, all_places}
use Rattle.set_minima.proofs.Gains.{joins-top}
use Rattle.set_minima.specs.Cells.{found, cell}
use Rattle.colour_tables.specs.Leasts.{AreCharged}
use Rattle.colour_tables.specs.Items.{IsRun}
use Rattle.colour_tables.specs.Leasts.{MakesSome}
use Rattle.colour_tables.proofs.RowsFilled.{index-is, index-held}
use Rattle.colour_tables.proofs.NewSlabs.{makes-more, makes-all, least-none, least-some}
use Rattle.colour_tables.proofs.slabs.least_new.Goals as goal

pub run-requires : goal.run-requires
run-requires c =
    let b : c.loop-t.t < length c.args.rows.now.present.items = search rules in
    record {
      safe =
          c.requires.safe c.index-c.result.now
          (index-held c.args.rows.now.present.items c.loop-t.t c.index-c.result.now b
          c.index-c.ensures);
    }

pub put_beside-requires-clause-held : goal.put_beside-requires-clause-held
put_beside-requires-clause-held c =
    let b : c.loop-t.t < length c.args.rows.now.present.items = search rules in
    index-held c.args.rows.now.present.items c.loop-t.t c.index-c.result.now b c.index-c.ensures

pub loop-t-preserved : goal.loop-t-preserved
loop-t-preserved c rest prices name charge largest rows runs room charged =
    let cs = c.args.rows.now.present.items in
    let t = c.loop-t.t in
    let d = c.index-c.result.now in
    let b : c.loop-t.t < length c.args.rows.now.present.items = search rules in
    let e = index-is cs t d b c.index-c.ensures in
    let f : SFits w64 c.min-least.result = search rules in
    let g : SFits w64 c.least_above.result = search rules in
    let v = simp to_z-of_z at c.min-least.ensures.value in
    let w : length c.put_beside.new.table ≡ length c.args.table.now = search rules in
    let u : length c.loop-t.table ≡ length c.args.table.now = search rules in
    let beside = c.put_beside.ensures.is rest prices name rows
    (subst (λ xs. IsRun rest prices (name d) xs) (sym c.run.ensures.is)
    (runs d (index-held cs t d b c.index-c.ensures))) tt in
    let table = subst (λ z. IsTable all_places (name d ∷ []) 2 rest prices z
    (cell c.put_beside.new.table)) (u ∙ sym w) beside in
    let top = c.least_above.ensures.top all_places (name d ∷ []) 2 rest prices charge 0
    (subst (λ z. AreCharged charge 0 z c.args.charges.now) (sym w) charged) table in
    let joins = joins-top all_places 1 largest 0 2 (name d ∷ []) rest prices charge
    (found (neg_ℤ c.least_above.result)) room.fits
    (subst (λ z. IsTop (Packed all_places (name d ∷ []) 2 rest 1 z)
    (gain charge 0 rest prices) (found (neg_ℤ c.least_above.result))) (w ∙ room.wide) top) in
    simp to_z-of_z (subst (λ z. IsTop (MakesSome rest name largest (take (t + 1) cs))
    (gain charge 0 rest prices) (found (neg_ℤ z))) (sym v)
    (makes-more rest prices name charge largest cs t b (to_z w64 c.loop-t.least-bits)
    c.least_above.result
    (c.loop-t.invariant rest prices name charge largest rows runs room charged)
    (subst (λ z. IsTop (Joins all_places 1 largest 0 (name z ∷ []) 2 rest)
    (gain charge 0 rest prices) (found (neg_ℤ c.least_above.result))) e joins)))

pub returns-then-far-least : goal.returns-then-far-least
returns-then-far-least c = record {
  is = λ rest prices name charge largest rows runs room charged.
      let e : take c.loop-t.t c.args.rows.now.present.items ≡ c.args.rows.now.present.items =
      take_all c.loop-t.t c.args.rows.now.present.items (search rules) in
      sym (makes-all rest prices name charge largest c.args.rows.now.present.items
      (to_z w64 c.loop-t.least-bits) rows.orders rows.all
      (subst (λ z. IsTop (MakesSome rest name largest z) (gain charge 0 rest prices)
      (found (neg_ℤ (to_z w64 c.loop-t.least-bits)))) e
      (c.loop-t.invariant rest prices name charge largest rows runs room charged))
      ∙ least-none (to_z w64 c.loop-t.least-bits) c.if-far-least.true);
}

pub returns-else-far-least : goal.returns-else-far-least
returns-else-far-least c = record {
  is = λ rest prices name charge largest rows runs room charged.
      let e : take c.loop-t.t c.args.rows.now.present.items ≡ c.args.rows.now.present.items =
      take_all c.loop-t.t c.args.rows.now.present.items (search rules) in
      sym (makes-all rest prices name charge largest c.args.rows.now.present.items
      (to_z w64 c.loop-t.least-bits) rows.orders rows.all
      (subst (λ z. IsTop (MakesSome rest name largest z) (gain charge 0 rest prices)
      (found (neg_ℤ (to_z w64 c.loop-t.least-bits)))) e
      (c.loop-t.invariant rest prices name charge largest rows runs room charged))
      ∙ least-some (to_z w64 c.loop-t.least-bits) c.if-far-least.false);
}
