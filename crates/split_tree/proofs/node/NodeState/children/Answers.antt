-- After each number the children so far are those with a number below it. The next number gives one
-- child more where its group takes the order and it isn't below the least that may come; else the
-- group is full, or the number comes too early, and there is no child more.
use Rattle.std.proofs.Common.{◌≡◌, ◌≤◌, ◌∷◌, ◌++◌, [], length, ap, ◌∙◌, sym, arith, rules}
use Rattle.std.proofs.Common.{ap₂, List, ℕ}
use Rattle.mill_model.specs.Tree.{next_new, children}
use Rattle.mill_model.specs.declared.order.TheConstants.{MAX_ORDERS}
use Rattle.order_symmetry.specs.Ranked.{orders_of}
use Rattle.split_tree.specs.Node.{Node}
use Rattle.split_tree.proofs.Children.{children_below-none, children_below-all}
use Rattle.split_tree.proofs.Children.{child-early, child-full, child-taken, next-order}
use Rattle.split_tree.proofs.Children.{children-tree}
use Rattle.split_tree.proofs.Nodes.{few-groups}
use Rattle.split_tree.proofs.node.NodeState.children.Goals as goal
use Rattle.split_tree.proofs.node.NodeState.children.Goals.{
  then-group-least+then-takes+in_ok-child+in_ok-push,
  else-group-least,
  else-group-least-via-then-group-least+else-takes,
  else-group-least-via-else-group-least,
}

pub loop-group-init : goal.loop-group-init
loop-group-init c = c.in_ok-paths.ensures.items ∙ sym (children_below-none c.args.self.now)

pub overflow_cast-group : goal.overflow_cast-group
overflow_cast-group c =
    let few : next_new c.self.inside.path ≤ MAX_ORDERS = few-groups _ c.self.invariant.0 in
    let count : length c.self.inside.groups.items ≡ next_new c.self.inside.path =
    c.self.invariant.1.count in
    let n : c.len-groups.result ≡ length c.self.inside.groups.items = search rules in
    let low : c.loop-group.group ≤ MAX_ORDERS = omega arith in
    search rules

pub loop-group-preserved : goal.loop-group-preserved
loop-group-preserved c =
    let inner : Node = record { ranked = c.self.inside.ranked.now; path = c.self.inside.path } in
    let node : Node = c.args.self.now in
    let g = c.loop-group.group in
    let next = next-order inner node c.depth.result c.order-order.result c.self.view_is
    c.depth.ensures.is c.order-order.ensures.is in
    let count : length c.self.inside.groups.items ≡ next_new c.self.inside.path =
    c.self.invariant.1.count in
    let n : c.len-groups.result ≡ length c.self.inside.groups.items = search rules in
    let same : next_new c.self.inside.path ≡ next_new node.path =
    ap (λ (node : Node). next_new node.path) c.self.view_is in
    let low : c.loop-group.group ≤ next_new node.path = omega arith in
    elim c.if-group-least.branch [
      | then-group-least+then-takes+in_ok-child+in_ok-push w ↦
          rw (w.paths-is, w.in_ok-push.ensures.items, w.in_ok-child.ensures)
          (ap₂ (λ (xs : List (List ℕ)) (path : List ℕ). xs ++ (path ++ g ∷ []) ∷ [])
          c.loop-group.invariant (ap (λ (node : Node). node.path) c.self.view_is) ∙ sym (child-taken
          node g c.order-order.result next low c.least_number-least.result
          c.least_number-least.ensures w.takes.result w.takes.ensures w.if-group-least.true
          w.if-takes.true))
      | else-group-least w ↦ rw w.paths-is (c.loop-group.invariant
          ∙ sym (elim w.else-group-least.branch [
            | else-group-least-via-then-group-least+else-takes v ↦ child-full node g
                c.order-order.result next low c.least_number-least.result
                c.least_number-least.ensures v.takes.result v.takes.ensures v.if-takes.false
            | else-group-least-via-else-group-least v ↦ child-early node g c.order-order.result next
                low
                c.least_number-least.result c.least_number-least.ensures v.if-group-least.false
          ]))
    ]

all-children : (c : goal.After-loop-group) → c.loop-group.paths.items
    ≡ children c.args.self.now.ranked.mill (orders_of c.args.self.now.ranked) c.args.self.now.path
all-children c =
    let count : length c.self.inside.groups.items ≡ next_new c.self.inside.path =
    c.self.invariant.1.count in
    let n : c.len-groups.result ≡ length c.self.inside.groups.items = search rules in
    let same : next_new c.self.inside.path ≡ next_new c.args.self.now.path =
    ap (λ (node : Node). next_new node.path) c.self.view_is in
    c.loop-group.invariant ∙ children_below-all c.args.self.now c.loop-group.group (omega arith)

pub returns-clause-is : goal.returns-clause-is
returns-clause-is c = all-children c

pub returns-clause-tree : goal.returns-clause-tree
returns-clause-tree c =
    children-tree c.args.self.now c.loop-group.paths.items c.depth.ensures.kept
    (all-children c)
