use Rattle.std.proofs.Common.{◌≡◌, ◌-◌, length, ap, ◌∙◌, sym, subst}
use Rattle.std.specs.List.{slice_get}
use Rattle.std.specs.Option.{unwrap_or}
use Rattle.split_tree.specs.Node.{Node, least_number}
use Rattle.split_tree.proofs.Nodes.{least-within}
use Rattle.split_tree.proofs.node.NodeState.least_number.Goals as goal

pub returns-else-starts_class : goal.returns-else-starts_class
returns-else-starts_class c =
    let last = c.unwrap_or.ensures ∙ ap (λ o. unwrap_or o 0) (c.copied.ensures
    ∙ c.last.ensures.value) ∙ ap (λ xs. unwrap_or (slice_get xs (length xs - 1)) 0)
    c.numbers.ensures in
    subst (λ (node : Node). c.unwrap_or.result ≡ least_number node) c.self.view_is (least-within
    (record { ranked = c.self.inside.ranked.now; path = c.self.inside.path })
    c.depth.result c.starts_class.result c.unwrap_or.result (c.depth.ensures.is
    ∙ sym (ap (λ (node : Node). length node.path) c.self.view_is)) c.starts_class.ensures
    c.if-starts_class.false last)
