-- The order joins the slab first: in each case a table has the best of the sets that may follow it.
use Rattle.std.proofs.Common.{◌≡◌, ◌+◌, ◌∷◌, [], ◌∙◌, true, false, eqb, ne_eqb, length, get_or, sym}
use Rattle.std.proofs.Common.{subst, ap, arith, SFits, w64, to_z-of_z, rules, inl, inr}
use Rattle.list_laws.specs.Sets.{holds}
use Rattle.set_minima.specs.Packs.{nobody, colour_at}
use Rattle.set_minima.specs.Joins.{all_but, with_colour}
use Rattle.set_minima.specs.Cells.{cell}
use Rattle.colour_tables.specs.Threes.{but}
use Rattle.colour_tables.specs.Items.{IsRun}
use Rattle.colour_tables.specs.Owned.{IsOwn, IsHeld, MayTake}
use Rattle.colour_tables.proofs.ColoursPaid.{but-less, but-more, same-name}
use Rattle.colour_tables.proofs.OwnTables.{alone-table, near-large}
use Rattle.colour_tables.proofs.AllowedByTables.{row-without}
use Rattle.colour_tables.proofs.SlacksFromTables.{least-top, slack-with-own, with-old, with-new}
use Rattle.colour_tables.proofs.SlacksFromTables.{two-different, holds-first, holds-second}
use Rattle.colour_tables.proofs.SlacksFromTables.{lacks-one, only-new}
use Rattle.colour_tables.proofs.slabs.least_with.Goals as goal

pub least_front-requires-clause-near : goal.least_front-requires-clause-near
least_front-requires-clause-near c = near-large c.args.turn.now.alone.now c.requires.alone

pub returns-in-Bare : goal.returns-in-Bare
returns-in-Bare c = record {
  is = λ rest prices name charge largest base colours rows runs turn own room charged v group of.
      let f : SFits w64 c.least_front.result = search rules in
      let o = subst (λ z. IsOwn rest name colours z) c.in-Bare.is own in
      let n = length c.args.table.now in
      let a = name c.args.turn.now.colour in
      let x = o.0 in
      let j = c.args.turn.now.place in
      let now = a ∷ x ∷ [] in
      let apart : eqb a x ≡ false =
      subst (λ z. eqb z x ≡ false) turn.colour (o.2 j turn.here) in
      let table = alone-table rest prices a j n now (cell c.args.turn.now.alone.now)
      (two-different a x apart) (holds-first a (x ∷ [])) turn.colour (only-new rest a x o.2)
      (λ l b. turn.alone l (omega (arith, c.requires.few))) in
      let top = c.least_front.ensures.top (all_but j) now 2 rest prices charge
      (base + (get_or rest j nobody).weight) charged table in
      simp to_z-of_z (slack-with-own rest prices charge largest base n colours now
      c.least_front.result j v turn.here rows.same room
      (subst (λ z. with_colour (colour_at rest j) z ≡ now) (sym o.1)
      (subst (λ z. with_colour z (x ∷ []) ≡ now) (sym turn.colour)
      (with-new a (x ∷ []) (lacks-one a x apart))))
      (omega (arith, two-different a x apart))
      (least-top rest prices charge largest (base + (get_or rest j nobody).weight) n (all_but j)
      now c.least_front.result room top) group of);
}

pub returns-then-d-c : goal.returns-then-d-c
returns-then-d-c c = record {
  is = λ rest prices name charge largest base colours rows runs turn own room charged v group of.
      let f : SFits w64 c.least_front-then-d-c.result = search rules in
      let o = subst (λ z. IsOwn rest name colours z) c.in-Free.is own in
      let n = length c.args.table.now in
      let a = name c.args.turn.now.colour in
      let j = c.args.turn.now.place in
      let same : colours ≡ a ∷ [] = o ∙ ap (λ z. name z ∷ []) c.if-d-c.true in
      let top = c.least_front-then-d-c.ensures.top (all_but j) (a ∷ []) 2 rest prices charge
      (base + (get_or rest j nobody).weight) charged
      (λ l b. turn.mates l (omega (arith, c.requires.few))) in
      simp to_z-of_z (slack-with-own rest prices charge largest base n colours (a ∷ [])
      c.least_front-then-d-c.result j v turn.here rows.same room
      (subst (λ z. with_colour (colour_at rest j) z ≡ a ∷ []) (sym same)
      (subst (λ z. with_colour z (a ∷ []) ≡ a ∷ []) (sym turn.colour)
      (with-old a (a ∷ []) (holds-first a [])))) (omega arith)
      (least-top rest prices charge largest (base + (get_or rest j nobody).weight) n (all_but j)
      (a ∷ []) c.least_front-then-d-c.result room top) group of);
}

pub returns-else-d-c : goal.returns-else-d-c
returns-else-d-c c = record {
  is = λ rest prices name charge largest base colours rows runs turn own room charged v group of.
      let f : SFits w64 c.least_pair.result = search rules in
      let o = subst (λ z. IsOwn rest name colours z) c.in-Free.is own in
      let h = subst (λ z. IsHeld c.args.rows.now.present.items z) c.in-Free.is c.requires.held in
      let n = length c.args.table.now in
      let d = c.in-Free.d in
      let a = name c.args.turn.now.colour in
      let x = name d in
      let j = c.args.turn.now.place in
      let cs = c.args.rows.now.present.items in
      let now = a ∷ x ∷ [] in
      let apart : eqb a x ≡ false =
      ne_eqb a x (λ q. c.if-d-c.false (sym (same-name name c.args.turn.now.colour d cs rows.once
      c.requires.colour h q))) in
      let least = c.least_pair.ensures.is rest prices name charge largest
      (base + (get_or rest j nobody).weight) c.args.turn.now.colour now rows
      (subst (λ xs. IsRun rest prices a xs) (sym c.run.ensures.is) (runs c.args.turn.now.colour
      c.requires.colour))
      (but-more d c.args.turn.now.colour cs (ne_eqb c.args.turn.now.colour d
      (λ q. c.if-d-c.false (sym q)))
      c.requires.colour) turn.colour (two-different a x apart)
      (holds-first a (x ∷ [])) (holds-second a x) room charged in
      simp to_z-of_z (slack-with-own rest prices charge largest base n colours now
      c.least_pair.result j v turn.here rows.same room
      (subst (λ z. with_colour (colour_at rest j) z ≡ now) (sym o)
      (subst (λ z. with_colour z (x ∷ []) ≡ now) (sym turn.colour)
      (with-new a (x ∷ []) (lacks-one a x apart))))
      (omega (arith, two-different a x apart)) least group of);
}

pub returns-in-One : goal.returns-in-One
returns-in-One c = record {
  is = λ rest prices name charge largest base colours rows runs turn own room charged v group of.
      let f : SFits w64 c.least_front-in-One.result = search rules in
      let o = subst (λ z. IsOwn rest name colours z) c.in-One.is own in
      let e = subst (λ z. MayTake c.args.turn.now.colour z) c.in-One.is c.requires.takes in
      let n = length c.args.table.now in
      let a = name c.args.turn.now.colour in
      let j = c.args.turn.now.place in
      let has : holds a colours ≡ true = subst (λ z. holds (name z) colours ≡ true) e o.1 in
      let table = alone-table rest prices a j n colours
      (cell c.args.turn.now.alone.now) o.0 has turn.colour
      (λ i b h. subst (λ z. eqb (colour_at rest i) (name z) ≡ true) e (o.2 i b h))
      (λ l b. turn.alone l (omega (arith, c.requires.few))) in
      let top = c.least_front-in-One.ensures.top (all_but j) colours 2 rest prices charge
      (base + (get_or rest j nobody).weight) charged table in
      simp to_z-of_z (slack-with-own rest prices charge largest base n colours colours
      c.least_front-in-One.result j v turn.here rows.same room
      (subst (λ z. with_colour z colours ≡ colours) (sym turn.colour) (with-old a colours has))
      (omega (arith, o.0))
      (least-top rest prices charge largest (base + (get_or rest j nobody).weight) n (all_but j)
      colours c.least_front-in-One.result room top) group of);
}

pub least_pair-requires-then-d-c-2-clause-held : goal.least_pair-requires-then-d-c-2-clause-held
least_pair-requires-then-d-c-2-clause-held c =
    let h = subst (λ z. IsHeld c.args.rows.now.present.items z) c.in-Two.is c.requires.held in
    (but-less c.in-Two.d c.in-Two.e c.args.rows.now.present.items h.1).1

pub returns-then-d-c-2 : goal.returns-then-d-c-2
returns-then-d-c-2 c = record {
  is = λ rest prices name charge largest base colours rows runs turn own room charged v group of.
      let f : SFits w64 c.least_pair-then-d-c-2.result = search rules in
      let o = subst (λ z. IsOwn rest name colours z) c.in-Two.is own in
      let h = subst (λ z. IsHeld c.args.rows.now.present.items z) c.in-Two.is c.requires.held in
      let n = length c.args.table.now in
      let d = c.in-Two.d in
      let e = c.in-Two.e in
      let a = name c.args.turn.now.colour in
      let j = c.args.turn.now.place in
      let cs = c.args.rows.now.present.items in
      let has : holds a colours ≡ true =
      subst (λ z. holds (name z) colours ≡ true) c.if-d-c-2.true o.1 in
      let other : holds c.args.turn.now.colour (but e cs) ≡ true =
      subst (λ z. holds z (but e cs) ≡ true) c.if-d-c-2.true (row-without d e cs h.1 h.0) in
      let least = c.least_pair-then-d-c-2.ensures.is rest prices name charge largest
      (base + (get_or rest j nobody).weight) c.args.turn.now.colour colours rows
      (subst (λ xs. IsRun rest prices a xs) (sym c.run-then-d-c-2.ensures.is)
      (runs c.args.turn.now.colour c.requires.colour)) other turn.colour o.0 has o.2 room charged in
      simp to_z-of_z (slack-with-own rest prices charge largest base n colours colours
      c.least_pair-then-d-c-2.result j v turn.here rows.same room
      (subst (λ z. with_colour z colours ≡ colours) (sym turn.colour) (with-old a colours has))
      (omega (arith, o.0)) least group of);
}

pub returns-else-d-c-2 : goal.returns-else-d-c-2
returns-else-d-c-2 c = record {
  is = λ rest prices name charge largest base colours rows runs turn own room charged v group of.
      let f : SFits w64 c.least_pair-in-Two.result = search rules in
      let o = subst (λ z. IsOwn rest name colours z) c.in-Two.is own in
      let h = subst (λ z. IsHeld c.args.rows.now.present.items z) c.in-Two.is c.requires.held in
      let t = subst (λ z. MayTake c.args.turn.now.colour z) c.in-Two.is c.requires.takes in
      let n = length c.args.table.now in
      let d = c.in-Two.d in
      let e = c.in-Two.e in
      let a = name c.args.turn.now.colour in
      let j = c.args.turn.now.place in
      let cs = c.args.rows.now.present.items in
      let s : e ≡ c.args.turn.now.colour = elim t [
        | inl q ↦ absurd
            (c.if-d-c-2.false q)
        | inr q ↦ q
      ] in
      let has : holds a colours ≡ true = subst (λ z. holds (name z) colours ≡ true) s o.2 in
      let other : holds c.args.turn.now.colour (but d cs) ≡ true =
      subst (λ z. holds z (but d cs) ≡ true) s h.1 in
      let least = c.least_pair-in-Two.ensures.is rest prices name charge largest
      (base + (get_or rest j nobody).weight) c.args.turn.now.colour colours rows
      (subst (λ xs. IsRun rest prices a xs) (sym c.run-in-Two.ensures.is)
      (runs c.args.turn.now.colour c.requires.colour)) other turn.colour o.0 has o.1 room charged in
      simp to_z-of_z (slack-with-own rest prices charge largest base n colours colours
      c.least_pair-in-Two.result j v turn.here rows.same room
      (subst (λ z. with_colour z colours ≡ colours) (sym turn.colour) (with-old a colours has))
      (omega (arith, o.0)) least group of);
}

pub returns-in-Full : goal.returns-in-Full
returns-in-Full c =
    absurd (subst (λ z. MayTake c.args.turn.now.colour z) c.in-Full.is c.requires.takes)
