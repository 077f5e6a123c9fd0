-- In each case of the slab's colours a table has the best of the sets without the order.
use Rattle.std.proofs.Common.{◌≡◌, ◌∷◌, [], ◌∙◌, true, eqb, ne_eqb, length, sym, subst, ap, arith}
use Rattle.std.proofs.Common.{SFits, w64, to_z-of_z, rules, inl, inr}
use Rattle.list_laws.specs.Sets.{holds}
use Rattle.set_minima.specs.Packs.{colour_at}
use Rattle.set_minima.specs.Joins.{all_but, IsSlab}
use Rattle.set_minima.specs.Cells.{cell}
use Rattle.colour_tables.specs.Threes.{but}
use Rattle.colour_tables.specs.Items.{IsRun}
use Rattle.colour_tables.specs.Owned.{IsOwn, IsHeld, MayTake}
use Rattle.colour_tables.proofs.ColoursPaid.{but-less, but-more}
use Rattle.colour_tables.proofs.AllowedByTables.{row-without}
use Rattle.colour_tables.proofs.OwnTables.{alone-table}
use Rattle.colour_tables.proofs.SlacksFromTables.{least-top, slack-without-priced}
use Rattle.colour_tables.proofs.slabs.least_without.Goals as goal

pub returns-in-Bare : goal.returns-in-Bare
returns-in-Bare c = record {
  is = λ rest prices
      name charge largest base colours rows runs turn own room charged v group of.
      let f : SFits w64 c.least_bare.result = search rules in
      let o = subst (λ z. IsOwn rest name colours z) c.in-Bare.is own in
      let j = c.args.turn.now.place in
      let least = c.least_bare.ensures.is rest prices name charge largest base j o.0 rows
      turn.colour o.2 (λ l b. turn.alone l (omega (arith, c.requires.few))) room charged in
      simp to_z-of_z (slack-without-priced rest prices charge largest base (o.0 ∷ [])
      c.least_bare.result j v room.fits (omega arith) least group
      (subst (λ z. IsSlab group base z) o.1 of));
}

pub returns-then-d-c : goal.returns-then-d-c
returns-then-d-c c = record {
  is = λ rest prices
      name charge largest base colours rows runs turn own room charged v group of.
      let f : SFits w64 c.least_front.result = search rules in
      let o = subst (λ z. IsOwn rest name colours z) c.in-Free.is own in
      let n = length c.args.table.now in
      let a = name c.args.turn.now.colour in
      let j = c.args.turn.now.place in
      let same : colours ≡ a ∷ [] = o ∙ ap (λ z. name z ∷ []) c.if-d-c.true in
      let top = c.least_front.ensures.top (all_but j) (a ∷ []) 2 rest prices charge base charged
      (λ l b. turn.mates l (omega (arith, c.requires.few))) in
      simp to_z-of_z (slack-without-priced rest prices charge largest base (a ∷ [])
      c.least_front.result j v room.fits (omega arith)
      (least-top rest prices charge largest base n (all_but j) (a ∷ []) c.least_front.result room
      top) group (subst (λ z. IsSlab group base z) same of));
}

pub least_apart-requires-clause-other : goal.least_apart-requires-clause-other
least_apart-requires-clause-other c =
    let h = subst (λ z. IsHeld c.args.rows.now.present.items z) c.in-Free.is c.requires.held in
    but-more c.args.turn.now.colour c.in-Free.d c.args.rows.now.present.items
    (ne_eqb c.in-Free.d c.args.turn.now.colour (λ q. c.if-d-c.false q)) h

pub returns-else-d-c : goal.returns-else-d-c
returns-else-d-c c = record {
  is = λ rest prices
      name charge largest base colours rows runs turn own room charged v group of.
      let f : SFits w64 c.least_apart.result = search rules in
      let o = subst (λ z. IsOwn rest name colours z) c.in-Free.is own in
      let h = subst (λ z. IsHeld c.args.rows.now.present.items z) c.in-Free.is c.requires.held in
      let d = c.in-Free.d in
      let j = c.args.turn.now.place in
      let least = c.least_apart.ensures.is rest prices name charge largest base j rows
      (subst (λ xs. IsRun rest prices (name d) xs) (sym c.run.ensures.is) (runs d h))
      turn.here turn.colour (λ l b. turn.alone l (omega (arith, c.requires.few))) room charged
      in
      simp to_z-of_z (slack-without-priced rest prices charge largest base (name d ∷ [])
      c.least_apart.result j v room.fits (omega arith) least group
      (subst (λ z. IsSlab group base z) o of));
}

pub returns-in-One : goal.returns-in-One
returns-in-One c = record {
  is = λ rest prices
      name charge largest base colours rows runs turn own room charged v group of.
      let f : SFits w64 c.least_front-in-One.result = search rules in
      let o = subst (λ z. IsOwn rest name colours z) c.in-One.is own in
      let e = subst (λ z. MayTake c.args.turn.now.colour z) c.in-One.is c.requires.takes in
      let n = length c.args.table.now in
      let a = name c.args.turn.now.colour in
      let j = c.args.turn.now.place in
      let has : holds a colours ≡ true = subst (λ z. holds (name z) colours ≡ true) e o.1 in
      let table = alone-table rest prices a j n colours
      (cell c.args.turn.now.alone.now) o.0 has turn.colour
      (λ i b h. subst (λ z. eqb (colour_at rest i) (name z) ≡ true) e (o.2 i b h))
      (λ l b. turn.alone l (omega (arith, c.requires.few))) in
      let top = c.least_front-in-One.ensures.top (all_but j) colours 2 rest prices charge
      base charged table in
      simp to_z-of_z (slack-without-priced rest prices charge largest base colours
      c.least_front-in-One.result j v room.fits (omega (arith, o.0))
      (least-top rest prices charge largest base n (all_but j)
      colours c.least_front-in-One.result room top) group of);
}

pub least_pair-requires-clause-held : goal.least_pair-requires-clause-held
least_pair-requires-clause-held c =
    let h = subst (λ z. IsHeld c.args.rows.now.present.items z) c.in-Two.is c.requires.held in
    (but-less c.in-Two.d c.in-Two.e c.args.rows.now.present.items h.1).1

pub returns-then-d-c-2 : goal.returns-then-d-c-2
returns-then-d-c-2 c = record {
  is = λ rest prices
      name charge largest base colours rows runs turn own room charged v group of.
      let f : SFits w64 c.least_pair.result = search rules in
      let o = subst (λ z. IsOwn rest name colours z) c.in-Two.is own in
      let h = subst (λ z. IsHeld c.args.rows.now.present.items z) c.in-Two.is c.requires.held in
      let d = c.in-Two.d in
      let e = c.in-Two.e in
      let a = name c.args.turn.now.colour in
      let j = c.args.turn.now.place in
      let cs = c.args.rows.now.present.items in
      let has : holds a colours ≡ true =
      subst (λ z. holds (name z) colours ≡ true) c.if-d-c-2.true o.1 in
      let other : holds c.args.turn.now.colour (but e cs) ≡ true =
      subst (λ z. holds z (but e cs) ≡ true) c.if-d-c-2.true (row-without d e cs h.1 h.0) in
      let least = c.least_pair.ensures.is rest prices name charge largest base
      c.args.turn.now.colour colours
      rows (subst (λ xs. IsRun rest prices a xs) (sym c.run-then-d-c-2.ensures.is)
      (runs c.args.turn.now.colour c.requires.colour)) other turn.colour o.0 has o.2 room charged in
      simp to_z-of_z (slack-without-priced rest prices charge largest base colours
      c.least_pair.result j v room.fits (omega (arith, o.0)) least group of);
}

pub returns-else-d-c-2 : goal.returns-else-d-c-2
returns-else-d-c-2 c = record {
  is = λ rest prices
      name charge largest base colours rows runs turn own room charged v group of.
      let f : SFits w64 c.least_pair-in-Two.result = search rules in
      let o = subst (λ z. IsOwn rest name colours z) c.in-Two.is own in
      let h = subst (λ z. IsHeld c.args.rows.now.present.items z) c.in-Two.is c.requires.held in
      let t = subst (λ z. MayTake c.args.turn.now.colour z) c.in-Two.is c.requires.takes in
      let d = c.in-Two.d in
      let e = c.in-Two.e in
      let a = name c.args.turn.now.colour in
      let j = c.args.turn.now.place in
      let cs = c.args.rows.now.present.items in
      let s : e ≡ c.args.turn.now.colour = elim t [
        | inl q ↦ absurd
            (c.if-d-c-2.false q)
        | inr q ↦ q
      ] in
      let has : holds a colours ≡ true = subst (λ z. holds (name z) colours ≡ true) s o.2 in
      let other : holds c.args.turn.now.colour (but d cs) ≡ true =
      subst (λ z. holds z (but d cs) ≡ true) s h.1 in
      let least = c.least_pair-in-Two.ensures.is rest prices name charge largest base
      c.args.turn.now.colour
      colours rows (subst (λ xs. IsRun rest prices a xs) (sym c.run-in-Two.ensures.is)
      (runs c.args.turn.now.colour c.requires.colour)) other turn.colour o.0 has o.1 room charged in
      simp to_z-of_z (slack-without-priced rest prices charge largest base colours
      c.least_pair-in-Two.result j v room.fits (omega (arith, o.0)) least group of);
}

pub returns-in-Full : goal.returns-in-Full
returns-in-Full c =
    absurd (subst (λ z. MayTake c.args.turn.now.colour z) c.in-Full.is c.requires.takes)
