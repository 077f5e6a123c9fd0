use Rattle.std.proofs.Common.{rules}
use Rattle.mill_io.proofs.Fronts.{kept-is-held}
use Rattle.mill_io.proofs.growing.VecSinkSink.write_all.Goals as goal

pub returns-clause-held : goal.returns-clause-held
returns-clause-held c = kept-is-held _ _ c.args.piece.now (search rules)
