use Rattle.std.proofs.Common.{arith, ◌+◌, ◌*◌}
use Rattle.std.proofs.lemmas.Nat.{row_fits}
use Rattle.pair_split.specs.Tables.{mill_in}
use Rattle.pair_split.proofs.WayBack.{start-table}
use Rattle.pair_split.proofs.table.start.Goals as goal

pub returns : goal.returns
returns c = record {
  table = start-table (mill_in c.args.layout) c.args.layout.words
      (omega (arith, c.args.layout.wide)) c.clear.new.words
      (let f = row_fits 0 c.args.layout.words (36 * (c.args.layout.p + 1)) c.args.layout.words
      (omega arith) (omega arith) in
      omega (arith, f, c.requires.size, c.args.layout.wide, c.clear.auto.words)) c.clear.ensures;
}
