-- Node by node in preorder: the records that were taken rise, and with those that are left are all.
use Rattle.std.proofs.Common.{List, Option, Some, None, refl, sym, subst}
use Rattle.std.specs.Prelude.{slice_set}
use Rattle.mill_model.specs.declared.closing.Entry.{Entry}
use Rattle.piece_merge.specs.RecordTree.{record_at}
use Rattle.piece_merge.proofs.Preorder.{IsOnTheWalk, nodes-fall, step, step-within, walk-begins}
use Rattle.piece_merge.proofs.Preorder.{walk-ends}
use Rattle.piece_merge.proofs.record_tree.RecordTree.into_rising.Goals as goal

pub loop-next-init : goal.loop-next-init
loop-next-init c =
    subst (λ (es : List Entry). IsOnTheWalk c.args.self.links c.args.self.records.items
    c.args.self.records.items es (Some 0)) (sym c.in_ok-entries.ensures.items)
    (walk-begins c.args.self.links c.args.self.records.items c.requires)

pub take_record-requires : goal.take_record-requires
take_record-requires c =
    let first = c.args.self.records.items in
    let is = subst (IsOnTheWalk c.loop-next.self.links first c.loop-next.self.records.items
    c.loop-next.entries.items) c.in-Some.is c.loop-next.invariant in
    step-within c.loop-next.self.links first c.loop-next.self.records.items
    c.loop-next.entries.items c.in-Some.node is

pub next_node-next-requires-clause-tree : goal.next_node-next-requires-clause-tree
next_node-next-requires-clause-tree c =
    let first = c.args.self.records.items in
    let is = subst (IsOnTheWalk c.loop-next.self.links first c.loop-next.self.records.items
    c.loop-next.entries.items) c.in-Some.is c.loop-next.invariant in
    is.tree.tree

pub next_node-next-requires-clause-node : goal.next_node-next-requires-clause-node
next_node-next-requires-clause-node c =
    let first = c.args.self.records.items in
    let is = subst (IsOnTheWalk c.loop-next.self.links first c.loop-next.self.records.items
    c.loop-next.entries.items) c.in-Some.is c.loop-next.invariant in
    is.between.0

pub loop-next-smaller : goal.loop-next-smaller
loop-next-smaller c =
    let first = c.args.self.records.items in
    let is = subst (IsOnTheWalk c.loop-next.self.links first c.loop-next.self.records.items
    c.loop-next.entries.items) c.in-Some.is c.loop-next.invariant in
    rw c.in-Some.is (nodes-fall c.loop-next.self.links c.in-Some.node c.next_node-next.result
    is.between.0 c.next_node-next.ensures)

pub loop-next-preserved : goal.loop-next-preserved
loop-next-preserved c =
    let first = c.args.self.records.items in
    let is = subst (IsOnTheWalk c.loop-next.self.links first c.loop-next.self.records.items
    c.loop-next.entries.items) c.in-Some.is c.loop-next.invariant in
    let old = c.loop-next.self.records.items in
    let f = c.loop-next.self.links in
    subst (λ (rs : List (Option Entry)). IsOnTheWalk f first rs c.take_record.new.entries.items
    c.next_node-next.result) (sym c.in_ok-take_record.ensures.records)
    (subst (λ (es : List Entry). IsOnTheWalk f first (slice_set old c.in-Some.node None) es
    c.next_node-next.result) (sym c.in_ok-take_record.ensures.entries)
    (step f first old c.loop-next.entries.items c.in-Some.node is c.next_node-next.result
    (record_at old c.in-Some.node) refl c.next_node-next.ensures))

pub returns-clause-records : goal.returns-clause-records
returns-clause-records c =
    walk-ends c.loop-next.self.links c.args.self.records.items c.loop-next.self.records.items
    c.loop-next.entries.items
    (subst (IsOnTheWalk c.loop-next.self.links c.args.self.records.items
    c.loop-next.self.records.items c.loop-next.entries.items) c.in_default.is
    c.loop-next.invariant)
