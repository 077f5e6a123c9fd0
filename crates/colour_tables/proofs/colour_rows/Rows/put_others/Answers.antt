use Rattle.std.proofs.Common.{ℕ, ◌≡◌, ◌<◌, length, arith}
use Rattle.colour_tables.specs.Entries.{entry}
use Rattle.colour_tables.specs.Threes.{IsButOne, row_entry}
use Rattle.colour_tables.proofs.ColoursPaid.{others-table}
use Rattle.colour_tables.proofs.GreatestBut.{one-from, picked-near}
use Rattle.colour_tables.proofs.colour_rows.Rows.put_others.Goals as goal

picked : (c : goal.After-table-1) → (l : ℕ) → 0 < l → l < length c.args.table.now →
    IsButOne (row_entry c.args.self.now.rows.items c.args.self.now.width l c.args.c)
    (entry c.args.self.now.best.items l) (entry c.args.self.now.second.items l)
    (entry c.others.new.to l)
picked c =
    one-from (length c.args.table.now) c.args.self.now.best.items c.deref.result.now
    c.args.self.now.second.items c.deref-2.result.now c.row.result.now c.others.new.to
    (λ l. row_entry c.args.self.now.rows.items c.args.self.now.width l c.args.c)
    c.deref.ensures.value c.deref-2.ensures.value
    (λ l b. c.row.ensures.is l (omega (arith, c.requires.few))) c.others.ensures.other

pub returns-clause-is : goal.returns-clause-is
returns-clause-is c rest prices name rows =
    let t = c.args.self.now in
    others-table rest prices rows.orders t.width name (row_entry t.rows.items t.width) c.args.c
    t.present.items (length c.args.table.now) c.others.new.to t.best.items t.second.items
    t.third.items rows.once c.requires.held rows.rows c.requires.few c.others.ensures.first
    (λ l a b. c.requires.shaped.tops l a (omega (arith, c.requires.few))) (picked c)

pub returns-clause-near : goal.returns-clause-near
returns-clause-near c =
    let w : length c.others.new.to ≡ length c.args.table.now = c.others.auto.to in
    picked-near c.args.self.now c.requires.shaped 0
    (λ l. row_entry c.args.self.now.rows.items c.args.self.now.width l c.args.c)
    c.others.new.to (omega (arith, c.requires.few)) c.others.ensures.first
    (λ l a b. picked c l a (omega arith))
