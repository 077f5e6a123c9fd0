use Rattle.std.proofs.Common.{◌∷◌, ◌∙◌, List, Some, set, sym, subst}
use Rattle.std.specs.List.Sorted.{IsPermutation}
use Rattle.mill_model.specs.declared.closing.Entry.{Entry}
use Rattle.piece_merge.specs.RecordTree.{IsWithoutPath, present}
use Rattle.piece_merge.proofs.Placing.{placed}
use Rattle.piece_merge.proofs.record_tree.RecordTree.place.Goals as goal

pub returns-clause-records : goal.returns-clause-records
returns-clause-records c =
    let node = c.in_ok-node.ensures in
    let records = c.node_of.new.self.records.items in
    subst (λ (es : List Entry). IsPermutation (c.args.entry ∷ es)
    (present (set records c.in_ok-node.node (Some c.args.entry)))) node.records
    (placed c.node_of.new.self.links records node.tree c.in_ok-node.node c.args.entry node.there
    (node.path ∙ c.numbers.ensures)
    (subst (IsWithoutPath c.args.entry.path) (sym node.records) c.requires.apart))
