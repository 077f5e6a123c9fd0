use Rattle.std.proofs.Common.{◌≡◌, ◌*◌, length, replicate, pos, sym, subst, rules}
use Rattle.colour_tables.specs.Threes.{AreWithin}
use Rattle.colour_tables.proofs.RowsLaidOut.{within-below, near-zeros}
use Rattle.colour_tables.proofs.tables_made.empty_rows.Goals as goal
use Rattle.colour_tables.specs.Entries.{row_limit}

pub returns-clause-sized : goal.returns-clause-sized
returns-clause-sized c =
    let rows = c.in_ok-vec.field-0.items in
    let zeros : c.in_ok-vec.field-0.items ≡ replicate (c.args.count * c.args.width) (pos 0) =
    search rules in
    let long : length c.in_ok-vec.field-0.items ≡ c.args.count * c.args.width = search rules in
    record {
      wide = c.requires.wide;
      narrow = c.requires.narrow;
      within =
          subst (λ xs. AreWithin c.args.width (length rows) xs) (sym c.in_ok-numbers.ensures)
          (within-below c.args.count c.args.width (length rows) long);
      best = search rules;
      second = search rules;
      third = search rules;
      near = near-zeros row_limit (c.args.count * c.args.width) rows zeros;
    }
