use Rattle.std.proofs.Common.{List, subst}
use Rattle.mill_model.specs.declared.closing.Entry.{Entry}
use Rattle.piece_merge.proofs.Gathering.{HasGathered, gathered-more, still-apart, still-few}
use Rattle.piece_merge.proofs.pieces.tree_of.Goals as goal

pub place-requires-clause-few : goal.place-requires-clause-few
place-requires-clause-few c =
    let is = subst (λ (es : List Entry). HasGathered c.args.entries.items es
    c.loop-entry.tree.links c.loop-entry.tree.records.items) c.in-Some.ensures.steps.0
    c.loop-entry.invariant in
    still-few c.args.entries.items c.next.new.self.rest.items c.in-Some.entry
    c.loop-entry.tree.links c.loop-entry.tree.records.items is c.requires.once c.requires.few
    c.requires.short

pub place-requires-clause-apart : goal.place-requires-clause-apart
place-requires-clause-apart c =
    let is = subst (λ (es : List Entry). HasGathered c.args.entries.items es
    c.loop-entry.tree.links c.loop-entry.tree.records.items) c.in-Some.ensures.steps.0
    c.loop-entry.invariant in
    still-apart c.args.entries.items c.next.new.self.rest.items c.in-Some.entry
    c.loop-entry.tree.links c.loop-entry.tree.records.items is c.requires.once

pub loop-entry-preserved : goal.loop-entry-preserved
loop-entry-preserved c =
    let is = subst (λ (es : List Entry). HasGathered c.args.entries.items es
    c.loop-entry.tree.links c.loop-entry.tree.records.items) c.in-Some.ensures.steps.0
    c.loop-entry.invariant in
    gathered-more c.args.entries.items c.next.new.self.rest.items c.in-Some.entry
    c.loop-entry.tree.links c.loop-entry.tree.records.items is c.requires.once
    c.place.new.self.links c.place.new.self.records.items c.requires.fronts
    c.in_ok-place.ensures.tree c.in_ok-place.ensures.records c.in_ok-place.ensures.grew
