use Rattle.std.proofs.Common.{sym, subst}
use Rattle.piece_merge.specs.Merging.{AreOfAWholeRun}
use Rattle.piece_merge.proofs.Rows.{later-first-whole}
use Rattle.piece_merge.proofs.tests.the_records_of_two_pieces_rise_in_the_log.Goals as goal

pub merge-requires-clause-whole : goal.merge-requires-clause-whole
merge-requires-clause-whole g c =
    subst AreOfAWholeRun (sym c.in_ok-later_path_first.ensures) later-first-whole
