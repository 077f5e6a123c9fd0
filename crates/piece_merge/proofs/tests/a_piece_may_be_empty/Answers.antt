use Rattle.std.proofs.Common.{sym, subst}
use Rattle.piece_merge.specs.Merging.{AreOfAWholeRun}
use Rattle.piece_merge.proofs.Rows.{all-in-the-last-whole}
use Rattle.piece_merge.proofs.tests.a_piece_may_be_empty.Goals as goal

pub merge-requires-clause-whole : goal.merge-requires-clause-whole
merge-requires-clause-whole g c =
    subst AreOfAWholeRun (sym c.in_ok-first_piece_empty.ensures) all-in-the-last-whole
