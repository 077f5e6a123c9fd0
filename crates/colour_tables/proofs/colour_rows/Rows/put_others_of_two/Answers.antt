-- At each load the better of two: the greatest but for the rows of c and d, and the table of c.
use Rattle.std.proofs.Common.{ℕ, ℤ, ◌≡◌, ◌<◌, length, map, arith}
use Rattle.std.specs.Int.{int_max}
use Rattle.colour_tables.specs.Entries.{entry}
use Rattle.colour_tables.specs.Threes.{IsButTwo, row_entry, but}
use Rattle.colour_tables.specs.Colours.{of_colours, but_order}
use Rattle.colour_tables.specs.Rowed.{apart_from}
use Rattle.colour_tables.proofs.ColoursPaid.{joined-table, but-two-best, but-less}
use Rattle.colour_tables.proofs.AllowedByTables.{two-union}
use Rattle.colour_tables.proofs.GreatestBut.{two-from, picked-two-near}
use Rattle.colour_tables.proofs.colour_rows.Rows.put_others_of_two.Goals as goal

pub row-requires-2-clause-held : goal.row-requires-2-clause-held
row-requires-2-clause-held c =
    (but-less c.args.c c.args.d c.args.self.now.present.items c.requires.other).1

picked : (c : goal.After-table-1) → (l : ℕ) → 0 < l → l < length c.args.table.now → (w : ℤ)
    × IsButTwo (row_entry c.args.self.now.rows.items c.args.self.now.width l c.args.c)
    (row_entry c.args.self.now.rows.items c.args.self.now.width l c.args.d)
    (entry c.args.self.now.best.items l) (entry c.args.self.now.second.items l)
    (entry c.args.self.now.third.items l) w
    × (entry c.others_of_two.new.to l ≡ int_max w (entry c.args.alone.now l))
picked c =
    two-from (length c.args.table.now) c.args.self.now.best.items c.deref.result.now
    c.args.self.now.second.items c.deref-2.result.now c.args.self.now.third.items
    c.deref-3.result.now c.row.result.now c.row-2.result.now c.args.alone.now
    c.others_of_two.new.to
    (λ l. row_entry c.args.self.now.rows.items c.args.self.now.width l c.args.c)
    (λ l. row_entry c.args.self.now.rows.items c.args.self.now.width l c.args.d)
    c.deref.ensures.value c.deref-2.ensures.value c.deref-3.ensures.value
    (λ l b. c.row.ensures.is l (omega (arith, c.requires.few)))
    (λ l b. c.row-2.ensures.is l (omega (arith, c.requires.few))) c.others_of_two.ensures.other

pub returns-clause-is : goal.returns-clause-is
returns-clause-is c rest prices name j rows alone =
    let t = c.args.self.now in
    joined-table rest prices rows.orders t.width name (row_entry t.rows.items t.width)
    (of_colours rest (map name (but c.args.d (but c.args.c t.present.items))))
    (but_order rest (name c.args.c) j)
    (apart_from rest (map name (but c.args.d (but c.args.c t.present.items))) (name c.args.c) j)
    (name c.args.c) (length c.args.table.now) c.others_of_two.new.to c.args.alone.now
    (two-union rest name t.present.items rows.once rows.all c.args.c c.requires.held c.args.d
    c.requires.other j)
    c.others_of_two.ensures.first alone
    (λ l a b. (let r = picked c l a b in (
      r.0,
      but-two-best rest prices rows.orders t.width name (row_entry t.rows.items t.width) c.args.c
          c.args.d t.present.items l r.0 t.best.items t.second.items t.third.items rows.once
          c.requires.held c.requires.other rows.rows a (omega (arith, c.requires.few))
          (c.requires.shaped.tops l a (omega (arith, c.requires.few))) r.1,
      r.2,
    )))

pub returns-clause-near : goal.returns-clause-near
returns-clause-near c =
    let w : length c.others_of_two.new.to ≡ length c.args.table.now = c.others_of_two.auto.to in
    picked-two-near c.args.self.now c.requires.shaped
    (λ l. row_entry c.args.self.now.rows.items c.args.self.now.width l c.args.c)
    (λ l. row_entry c.args.self.now.rows.items c.args.self.now.width l c.args.d)
    c.args.alone.now c.others_of_two.new.to (omega (arith, c.requires.few))
    c.others_of_two.ensures.first c.requires.alone (λ l a b. picked c l a (omega arith))
