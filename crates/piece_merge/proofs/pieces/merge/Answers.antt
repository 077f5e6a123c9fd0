-- The tree gives back the records that went into it, by rising path: they are those of the pieces.
use Rattle.std.proofs.Common.{◌<◌, ◌^◌, All, length, sym, subst}
use Rattle.std.specs.List.Sorted.{IsPermutation}
use Rattle.std.proofs.lemmas.List.Sorted.{IsPermutation-trans}
use Rattle.mill_model.specs.Conserved.{joined}
use Rattle.mill_model.specs.declared.closing.Entry.{Entry}
use Rattle.refute_log.specs.Logged.{Logged}
use Rattle.piece_merge.specs.Merging.{records_of, HasAllFronts, IsRecordedOnce, IsCompleteLogOf}
use Rattle.piece_merge.specs.Merging.{NamesSettledPaths}
use Rattle.piece_merge.specs.RecordTree.{present}
use Rattle.piece_merge.proofs.Gathering.{short-paths, whole-fronts}
use Rattle.piece_merge.proofs.MergedLog.{recorded-once, merged-complete, merged-named, merged-log}
use Rattle.piece_merge.proofs.pieces.merge.Goals as goal

pub tree_of-requires-clause-once : goal.tree_of-requires-clause-once
tree_of-requires-clause-once c =
    subst IsRecordedOnce (sym c.in_ok-entries.ensures)
    (recorded-once (records_of c.args.pieces.items) c.requires.whole)

pub tree_of-requires-clause-fronts : goal.tree_of-requires-clause-fronts
tree_of-requires-clause-fronts c =
    subst HasAllFronts (sym c.in_ok-entries.ensures)
    (whole-fronts (records_of c.args.pieces.items) c.requires.whole)

pub tree_of-requires-clause-short : goal.tree_of-requires-clause-short
tree_of-requires-clause-short c =
    subst (All (λ (entry : Entry). length entry.path < 2 ^ 16)) (sym c.in_ok-entries.ensures)
    (short-paths c.args.orders (joined (records_of c.args.pieces.items)) c.ranges.orders.fits
    c.requires.fit)

pub from_rising-requires : goal.from_rising-requires
from_rising-requires c =
    let pieces = records_of c.args.pieces.items in
    let same = IsPermutation-trans c.in_ok-entries.entries.items
    (present c.in_ok-tree.tree.records.items) c.in_ok-rising.rising.items
    c.in_ok-tree.ensures.records c.in_ok-rising.ensures.records in
    merged-log pieces c.in_ok-entries.entries.items c.in_ok-rising.rising.items
    c.in_ok-entries.ensures same c.args.orders c.ranges.orders.fits c.requires.fit
    c.requires.few c.in_ok-rising.ensures.rise

pub returns-clause-records : goal.returns-clause-records
returns-clause-records c =
    let pieces = records_of c.args.pieces.items in
    let same = IsPermutation-trans c.in_ok-entries.entries.items
    (present c.in_ok-tree.tree.records.items) c.in_ok-rising.rising.items
    c.in_ok-tree.ensures.records c.in_ok-rising.ensures.records in
    subst (λ (log : Logged). IsPermutation (joined pieces) log.entries) (sym c.from_rising.ensures)
    (subst (λ given. IsPermutation given c.in_ok-rising.rising.items) c.in_ok-entries.ensures same)

pub returns-clause-complete : goal.returns-clause-complete
returns-clause-complete c =
    let pieces = records_of c.args.pieces.items in
    let same = IsPermutation-trans c.in_ok-entries.entries.items
    (present c.in_ok-tree.tree.records.items) c.in_ok-rising.rising.items
    c.in_ok-tree.ensures.records c.in_ok-rising.ensures.records in
    subst (λ (log : Logged). IsCompleteLogOf pieces log.entries) (sym c.from_rising.ensures)
    (merged-complete pieces c.in_ok-entries.entries.items c.in_ok-rising.rising.items
    c.in_ok-entries.ensures same)

pub returns-clause-named : goal.returns-clause-named
returns-clause-named c =
    let pieces = records_of c.args.pieces.items in
    let same = IsPermutation-trans c.in_ok-entries.entries.items
    (present c.in_ok-tree.tree.records.items) c.in_ok-rising.rising.items
    c.in_ok-tree.ensures.records c.in_ok-rising.ensures.records in
    subst (λ (log : Logged). NamesSettledPaths log.entries) (sym c.from_rising.ensures)
    (merged-named pieces c.in_ok-entries.entries.items c.in_ok-rising.rising.items
    c.in_ok-entries.ensures same c.requires.whole)
