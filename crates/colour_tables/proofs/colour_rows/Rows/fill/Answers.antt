use Rattle.std.proofs.Common.{◌≡◌, ◌∷◌, [], ◌∙◌, true, length, ap, sym, subst, refl}
use Rattle.std.proofs.lemmas.List.{with_items_is}
use Rattle.list_laws.specs.Sets.{holds}
use Rattle.set_minima.specs.Packs.{IsTable}
use Rattle.set_minima.specs.Cells.{found}
use Rattle.colour_tables.specs.Threes.{row_entry}
use Rattle.colour_tables.specs.Colours.{of_colour}
use Rattle.colour_tables.specs.Owned.{AreRuns}
use Rattle.colour_tables.proofs.OneRowPriced.{rows-filled}
use Rattle.colour_tables.proofs.colour_rows.Rows.fill.Goals as goal

pub returns-clause-is : goal.returns-clause-is
returns-clause-is c rest prices name orders same once all runs =
    let t = c.args.self.now in
    let w : length c.deref_mut-2.result.now ≡ t.width =
    ap length c.deref_mut-2.ensures.value ∙ c.requires.sized.best in
    rows-filled rest prices name t _ c.fill_all.new.rows orders same once all refl refl
    (with_items_is t.rows c.fill_all.new.rows (c.fill_all.auto.rows ∙ c.deref_mut.ensures.len))
    (λ x h. subst (λ z. IsTable (of_colour rest (name x)) (name x ∷ []) 1 rest prices z
    (λ l. found (row_entry c.fill_all.new.rows z l x))) w
    (c.fill_all.ensures.rows rest prices name
    (subst (λ xs. AreRuns rest prices name xs c.args.runs.now) (sym c.deref.ensures.value) runs)
    x (subst (λ xs. holds x xs ≡ true) (sym c.deref.ensures.value) h)))
