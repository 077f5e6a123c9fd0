use Rattle.std.proofs.Common.{ℕ, ◌≡◌, ◌+◌, ◌*◌, ◌<◌, ◌≤◌, ◌⊎◌, ◌∷◌, [], ◌∙◌, length, get_or, sym}
use Rattle.std.proofs.Common.{subst}
use Rattle.set_minima.specs.Packs.{IsTable}
use Rattle.colour_tables.specs.Entries.{entry}
use Rattle.set_minima.specs.Cells.{found}
use Rattle.colour_tables.specs.Threes.{row_entry, column, insert}
use Rattle.colour_tables.specs.Items.{IsRun}
use Rattle.colour_tables.specs.Colours.{of_colour}
use Rattle.colour_tables.proofs.RowsFilled.{held-get, filled-tops, filled-rows}
use Rattle.colour_tables.proofs.fill.fill_all.Goals as goal

pub run-requires : goal.run-requires
run-requires c = record {
  safe =
      c.requires.safe (get_or c.args.present.now c.loop-t.t 0)
      (held-get c.loop-t.t c.args.present.now c.loop-t-test.true);
}

pub loop-t-preserved : goal.loop-t-preserved
loop-t-preserved c =
    let t = c.loop-t.t in
    let cs = c.args.present.now in
    let d = get_or c.args.present.now c.loop-t.t 0 in
    let n = length c.args.best.now in
    let w : length c.loop-t.best ≡ length c.args.best.now = c.loop-t.auto.best ∙ c.clear.auto.table
    in
    let other = subst (λ z. (i : ℕ) → i < d * z ⊎ d * z + z ≤ i →
    entry c.add_row.new.rows i ≡ entry c.loop-t.rows i) w c.add_row.ensures.other in
    record {
      rows = λ rest prices name runs.
          filled-rows cs c.requires.once t n c.loop-t-test.true c.loop-t.rows
          c.add_row.new.rows other rest prices name
          (c.loop-t.invariant.rows rest prices name runs)
          (subst (λ z. IsTable (of_colour rest (name d)) (name d ∷ []) 1 rest prices z
          (λ l. found (row_entry c.add_row.new.rows z l d))) w
          (c.add_row.ensures.best rest prices (name d)
          (subst (λ xs. IsRun rest prices (name d) xs) (sym c.run.ensures.is)
          (runs d (held-get t cs c.loop-t-test.true)))));
      tops = λ k a b.
          filled-tops cs c.requires.once t n c.loop-t-test.true c.loop-t.rows
          c.add_row.new.rows other k b (column c.loop-t.best c.loop-t.second c.loop-t.third k)
          (column c.add_row.new.best c.add_row.new.second c.add_row.new.third k)
          (c.loop-t.invariant.tops k a b)
          (subst (λ z. column c.add_row.new.best c.add_row.new.second c.add_row.new.third k
          ≡ insert (row_entry c.add_row.new.rows z k d)
          (column c.loop-t.best c.loop-t.second c.loop-t.third k)) w
          (c.add_row.ensures.raised k a (subst (λ z. k < z) (sym w) b)));
      first = c.add_row.ensures.first ∙ c.loop-t.invariant.first;
      near = c.add_row.ensures.near c.loop-t.invariant.near;
    }
