use Rattle.std.proofs.Common.{rules, ◌≡◌, ◌<◌, length, ◌∙◌, subst, sym, ap}
use Rattle.std.proofs.lemmas.Result.{IfOk-weaker}
use Rattle.std.specs.Prelude.{IfOk}
use Rattle.split_tree.specs.Node.{Node}
use Rattle.search_step.specs.Decided.{Decides, DecidesInner, DecidesLeaf}
use Rattle.search_step.proofs.Deciding.{of-inner, of-leaf}
use Rattle.search_step.proofs.decide.decide.Goals as goal

pub returns-then-depth-len : goal.returns-then-depth-len
returns-then-depth-len c =
    let ranked = c.args.ranked.now in
    let charges = c.args.charges.now in
    let path = c.args.path.now in
    let depth : c.depth.result ≡ length path =
    c.depth.ensures.is ∙ ap (λ (n : Node). length n.path) c.in_ok-node.ensures in
    let full : length path ≡ length ranked.placed =
    sym depth ∙ c.if-depth-len.true ∙ c.len.ensures.is in
    IfOk-weaker c.decide_leaf.result (DecidesLeaf ranked charges c.args.known path)
    (Decides ranked charges c.args.known c.args.store.now path)
    (of-leaf ranked charges path c.args.store.now c.args.known full)
    (subst (λ (n : Node). IfOk c.decide_leaf.result
    (DecidesLeaf n.ranked charges c.args.known n.path)) c.in_ok-node.ensures
    c.decide_leaf.ensures)

pub returns : goal.returns
returns c =
    let ranked = c.args.ranked.now in
    let charges = c.args.charges.now in
    let path = c.args.path.now in
    let depth : c.depth.result ≡ length path =
    c.depth.ensures.is ∙ ap (λ (n : Node). length n.path) c.in_ok-node.ensures in
    let inner : length path < length ranked.placed = search rules in
    IfOk-weaker c.decide_inner.result
    (DecidesInner ranked charges c.args.known c.args.store.now path)
    (Decides ranked charges c.args.known c.args.store.now path)
    (of-inner ranked charges path c.args.store.now c.args.known inner)
    (subst (λ (n : Node). IfOk c.decide_inner.result
    (DecidesInner n.ranked charges c.args.known c.args.store.now n.path)) c.in_ok-node.ensures
    c.decide_inner.ensures)
