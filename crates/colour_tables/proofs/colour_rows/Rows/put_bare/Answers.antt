use Rattle.std.proofs.Common.{ℕ, ℤ, ◌≡◌, ◌<◌, length, map, arith}
use Rattle.std.specs.Int.{int_max}
use Rattle.set_minima.specs.Joins.{all_but}
use Rattle.colour_tables.specs.Entries.{entry}
use Rattle.colour_tables.specs.Threes.{IsButOne, row_entry, but}
use Rattle.colour_tables.specs.Colours.{of_colours, but_order}
use Rattle.colour_tables.proofs.ColoursPaid.{joined-table, but-one-best}
use Rattle.colour_tables.proofs.AllowedByTables.{bare-union}
use Rattle.colour_tables.proofs.GreatestBut.{one-or-from, picked-or-near}
use Rattle.colour_tables.proofs.colour_rows.Rows.put_bare.Goals as goal

picked : (c : goal.After-table-1) → (l : ℕ) → 0 < l → l < length c.args.table.now → (w : ℤ)
    × IsButOne (row_entry c.args.self.now.rows.items c.args.self.now.width l c.args.c)
    (entry c.args.self.now.best.items l) (entry c.args.self.now.second.items l) w
    × (entry c.others_or.new.to l ≡ int_max w (entry c.args.alone.now l))
picked c =
    one-or-from (length c.args.table.now) c.args.self.now.best.items c.deref.result.now
    c.args.self.now.second.items c.deref-2.result.now c.row.result.now c.args.alone.now
    c.others_or.new.to
    (λ l. row_entry c.args.self.now.rows.items c.args.self.now.width l c.args.c)
    c.deref.ensures.value c.deref-2.ensures.value
    (λ l b. c.row.ensures.is l (omega (arith, c.requires.few))) c.others_or.ensures.other

pub returns-clause-is : goal.returns-clause-is
returns-clause-is c rest prices name j rows at alone =
    let t = c.args.self.now in
    joined-table rest prices rows.orders t.width name (row_entry t.rows.items t.width)
    (of_colours rest (map name (but c.args.c t.present.items)))
    (but_order rest (name c.args.c) j) (all_but j) (name c.args.c) (length c.args.table.now)
    c.others_or.new.to c.args.alone.now
    (bare-union rest name t.present.items rows.once rows.all c.args.c c.requires.held j at)
    c.others_or.ensures.first alone
    (λ l a b. (let r = picked c l a b in (
      r.0,
      but-one-best rest prices rows.orders t.width name (row_entry t.rows.items t.width) c.args.c
          t.present.items l r.0 t.best.items t.second.items t.third.items rows.once
          c.requires.held rows.rows a (omega (arith, c.requires.few))
          (c.requires.shaped.tops l a (omega (arith, c.requires.few))) r.1,
      r.2,
    )))

pub returns-clause-near : goal.returns-clause-near
returns-clause-near c =
    let w : length c.others_or.new.to ≡ length c.args.table.now = c.others_or.auto.to in
    picked-or-near c.args.self.now c.requires.shaped
    (λ l. row_entry c.args.self.now.rows.items c.args.self.now.width l c.args.c)
    c.args.alone.now c.others_or.new.to (omega (arith, c.requires.few))
    c.others_or.ensures.first c.requires.alone (λ l a b. picked c l a (omega arith))
