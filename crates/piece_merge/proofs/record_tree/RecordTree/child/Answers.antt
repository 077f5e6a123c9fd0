use Rattle.std.proofs.Common.{ℕ, ◌≡◌, ◌∙◌, ◌++◌, ◌∷◌, [], List, Option, Some, None, sym, subst, ap}
use Rattle.mill_model.specs.declared.closing.Entry.{Entry}
use Rattle.index_links.specs.Forest.{Forest, IsForest, nodes_of}
use Rattle.piece_merge.specs.Paths.{path_of}
use Rattle.piece_merge.specs.RecordTree.{HasGrown, IsRecordTree, present}
use Rattle.piece_merge.proofs.Placing.{found-path, made-grown, made-path, made-tree, present-push}
use Rattle.piece_merge.proofs.record_tree.RecordTree.child.Goals as goal

pub returns-in-Some-clause-path : goal.returns-in-Some-clause-path
returns-in-Some-clause-path c =
    found-path c.args.self.now.links c.args.self.now.records.items c.requires.tree c.args.node
    c.args.label c.requires.node c.in-Some.child c.in-Some.ensures.0 c.in-Some.ensures.1
    c.in-Some.ensures.2

pub returns-in_ok-push-in-None-clause-tree : goal.returns-in_ok-push-in-None-clause-tree
returns-in_ok-push-in-None-clause-tree c =
    let f = c.args.self.now.links in
    let records = c.args.self.now.records.items in
    let made = c.in_ok-child-in-None.ensures in
    let forest = subst IsForest made.added made.kept in
    subst (λ (rs : List (Option Entry)). IsRecordTree c.add.new.self rs)
    (sym c.in_ok-push-in-None.ensures.items)
    (subst (λ (g : Forest). IsRecordTree g (records ++ None ∷ [])) (sym made.added)
    (made-tree f records c.requires.tree c.args.node c.args.label c.requires.node forest))

pub returns-in_ok-push-in-None-clause-path : goal.returns-in_ok-push-in-None-clause-path
returns-in_ok-push-in-None-clause-path c =
    let f = c.args.self.now.links in
    let records = c.args.self.now.records.items in
    let made = c.in_ok-child-in-None.ensures in
    let forest = subst IsForest made.added made.kept in
    let path = path_of f c.args.node ++ c.args.label ∷ [] in
    subst (λ (x : ℕ). path_of c.add.new.self x ≡ path) (sym made.number)
    (subst (λ (g : Forest). path_of g (nodes_of f) ≡ path) (sym made.added)
    (made-path f records c.requires.tree c.args.node c.args.label c.requires.node forest).1)

pub returns-in_ok-push-in-None-clause-records : goal.returns-in_ok-push-in-None-clause-records
returns-in_ok-push-in-None-clause-records c =
    ap present c.in_ok-push-in-None.ensures.items ∙ present-push c.args.self.now.records.items

pub returns-in_ok-push-in-None-clause-grew : goal.returns-in_ok-push-in-None-clause-grew
returns-in_ok-push-in-None-clause-grew c =
    let f = c.args.self.now.links in
    let records = c.args.self.now.records.items in
    let made = c.in_ok-child-in-None.ensures in
    let forest = subst IsForest made.added made.kept in
    subst (λ (x : ℕ). HasGrown x f c.add.new.self) (sym made.number)
    (subst (λ (g : Forest). HasGrown (nodes_of f) f g) (sym made.added)
    (made-grown f records c.requires.tree c.args.node c.args.label c.requires.node forest))
