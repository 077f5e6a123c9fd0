use Rattle.std.proofs.Common.{◌+◌, ◌*◌, ◌≤◌, length, sym, subst}
use Rattle.colour_tables.proofs.FlatRows.{within-held}
use Rattle.colour_tables.proofs.colour_rows.Rows.row.Goals as goal

pub row_of-requires : goal.row_of-requires
row_of-requires c = record {
  inside =
      subst (λ xs. c.args.c * c.args.self.now.width + c.args.self.now.width ≤ length xs)
      (sym c.deref.ensures.value)
      (within-held c.args.self.now.width (length c.args.self.now.rows.items)
      c.args.self.now.present.items c.requires.shaped.within c.args.c c.requires.held);
}
