use Rattle.std.proofs.Common.{sym, subst}
use Rattle.piece_merge.specs.Merging.{AreOfAWholeRun}
use Rattle.piece_merge.proofs.Rows.{last-sibling-first-whole}
use Rattle.piece_merge.proofs.tests.siblings_rise_in_the_log.Goals as goal

pub merge-requires-clause-whole : goal.merge-requires-clause-whole
merge-requires-clause-whole g c =
    subst AreOfAWholeRun (sym c.in_ok-last_sibling_in_front.ensures) last-sibling-first-whole
