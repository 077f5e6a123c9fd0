-- One row changes: it becomes the table of the colour without the order, with the order let in.
use Rattle.std.proofs.Common.{ℕ, ℤ, List, ◌≡◌, ◌+◌, ◌*◌, ◌<◌, ◌≤◌, ◌⊎◌, ◌∙◌, length, ap, sym, subst}
use Rattle.std.proofs.Common.{refl, arith, get_or, pos, SFits, w64, to_z-of_z, rules}
use Rattle.std.specs.Vec.{with_items}
use Rattle.std.proofs.lemmas.List.{with_items_is}
use Rattle.colour_tables.specs.Entries.{entry}
use Rattle.set_minima.specs.Cells.{AreNear}
use Rattle.colour_tables.specs.Threes.{AreTops}
use Rattle.set_minima.proofs.CellNumbers.{near-wider}
use Rattle.colour_tables.proofs.FlatRows.{within-held}
use Rattle.colour_tables.proofs.OneRowPriced.{new-row, rows-priced, shaped-made}
use Rattle.colour_tables.proofs.colour_rows.Rows.set_price.Goals as goal
use Rattle.mill_model.specs.declared.prices.TheConstants.{MAX_PRICE}
use Rattle.mill_model.specs.Limits.{all_prices}
use Rattle.colour_tables.specs.Entries.{row_limit}

pub replace-requires-clause-here : goal.replace-requires-clause-here
replace-requires-clause-here c =
    let t = c.args.self.now in
    let w : length c.add.new.table ≡ t.width = c.add.auto.table ∙ c.requires.long in
    subst (λ z. c.args.c * z + z ≤ length c.deref_mut.result.now) (sym w)
    (subst (λ xs. c.args.c * t.width + t.width ≤ length xs) (sym c.deref_mut.ensures.value)
    (within-held t.width (length t.rows.items) t.present.items c.requires.shaped.within c.args.c
    c.requires.held))

wide : (c : goal.After-self-4-1) → length c.add.new.table ≡ c.args.self.now.width
wide c = c.add.auto.table ∙ c.requires.long

row : (c : goal.After-self-4-1) → (l : ℕ) → l < c.args.self.now.width →
    entry c.replace.new.rows (c.args.c * c.args.self.now.width + l) ≡ entry c.add.new.table l
row c =
    subst (λ z. (l : ℕ) → l < z → entry c.replace.new.rows (c.args.c * z + l)
    ≡ entry c.add.new.table l) (wide c) c.replace.ensures.row

other : (c : goal.After-self-4-1) → (i : ℕ) → i < c.args.c * c.args.self.now.width
    ⊎ c.args.c * c.args.self.now.width + c.args.self.now.width ≤ i →
    entry c.replace.new.rows i ≡ entry c.args.self.now.rows.items i
other c =
    subst (λ (xs : List ℤ). (i : ℕ) → i < c.args.c * c.args.self.now.width
    ⊎ c.args.c * c.args.self.now.width + c.args.self.now.width ≤ i →
    entry c.replace.new.rows i ≡ entry xs i) c.deref_mut.ensures.value
    (subst (λ z. (i : ℕ) → i < c.args.c * z ⊎ c.args.c * z + z ≤ i →
    entry c.replace.new.rows i ≡ entry c.deref_mut.result.now i) (wide c) c.replace.ensures.other)

added : (c : goal.After-self-4-1) → AreNear row_limit c.add.new.table
added c l =
    near-wider (all_prices + MAX_PRICE) row_limit
    (get_or c.add.new.table l (pos 0)) (omega arith)
    (c.add.ensures.near all_prices c.requires.alone l)

now-rows : (c : goal.After-self-4-1) → (with_items c.args.self.now.rows c.replace.new.rows).items
    ≡ c.replace.new.rows
now-rows c =
    with_items_is c.args.self.now.rows c.replace.new.rows
    (c.replace.auto.rows ∙ c.deref_mut.ensures.len)

pub returns-clause-shaped : goal.returns-clause-shaped
returns-clause-shaped c =
    let t = c.args.self.now in
    shaped-made t _ c.args.c c.replace.new.rows c.replace.new.best c.replace.new.second
    c.replace.new.third c.add.new.table c.requires.shaped refl refl (now-rows c)
    (with_items_is t.best c.replace.new.best (c.replace.auto.best ∙ c.deref_mut-2.ensures.len))
    (with_items_is t.second c.replace.new.second
    (c.replace.auto.second ∙ c.deref_mut-3.ensures.len))
    (with_items_is t.third c.replace.new.third (c.replace.auto.third ∙ c.deref_mut-4.ensures.len))
    (c.replace.auto.rows ∙ ap length c.deref_mut.ensures.value)
    (c.replace.auto.best ∙ ap length c.deref_mut-2.ensures.value ∙ c.requires.shaped.best)
    (c.replace.auto.second ∙ ap length c.deref_mut-3.ensures.value ∙ c.requires.shaped.second)
    (c.replace.auto.third ∙ ap length c.deref_mut-4.ensures.value ∙ c.requires.shaped.third)
    (subst (λ xs. AreTops t.width xs c.replace.new.rows c.replace.new.best
    c.replace.new.second c.replace.new.third) c.deref.ensures.value
    (subst (λ z. AreTops z c.deref.result.now c.replace.new.rows c.replace.new.best
    c.replace.new.second c.replace.new.third) (wide c) c.replace.ensures.tops))
    (c.replace.ensures.first ∙ ap (λ (xs : List ℤ). entry xs 0) c.deref_mut-2.ensures.value
    ∙ c.requires.shaped.first) (added c) (row c) (other c)

pub returns-clause-is : goal.returns-clause-is
returns-clause-is c rest prices name j rows here at w p =
    let t = c.args.self.now in
    let f : SFits w64 c.args.price = search rules in
    let cells = simp to_z-of_z at c.add.ensures.cells in
    rows-priced rest prices name t _ c.args.c j c.args.price c.add.new.table rows here at
    c.requires.held refl refl
    (λ l b. ap (λ (xs : List ℤ). entry xs (c.args.c * t.width + l)) (now-rows c) ∙ row c l b)
    (λ i b. ap (λ (xs : List ℤ). entry xs i) (now-rows c) ∙ other c i b)
    (new-row rest prices (name c.args.c) j c.args.weight c.args.price c.args.alone.now
    c.add.new.table t.width rows.same here at w c.requires.long cells p)
