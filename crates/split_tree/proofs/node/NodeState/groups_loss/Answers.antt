-- After each group the sum is what the groups so far are charged, and at most a greatest charge for
-- each of them, so it doesn't overflow. The node inside is the node that is seen, so what holds of
-- the one is carried over to the other.
use Rattle.std.proofs.Common.{◌≡◌, ◌<◌, ◌≤◌, ◌+◌, ◌*◌, ◌^◌, length, get_or, ap, ◌∙◌, sym, arith}
use Rattle.std.proofs.Common.{rules, subst}
use Rattle.mill_model.specs.Tree.{next_new}
use Rattle.mill_model.specs.declared.order.TheConstants.{MAX_ORDERS}
use Rattle.split_tree.specs.Node.{Node, groups_loss}
use Rattle.split_tree.proofs.Losses.{charged_below, charged_below-none, charged_below-more}
use Rattle.split_tree.proofs.Losses.{charged_below-all, load-within}
use Rattle.split_tree.proofs.Nodes.{few-groups}
use Rattle.split_tree.proofs.node.NodeState.groups_loss.Goals as goal

pub loop-group-init : goal.loop-group-init
loop-group-init c = record {
  sum = sym (charged_below-none c.args.charges.now.list c.args.self.now);
  most = omega arith;
}

pub charge-loss-requires : goal.charge-loss-requires
charge-loss-requires c =
    let groups = c.self.inside.groups.items in
    let value = c.deref-group-items.ensures.value in
    let within : c.group-item.result.load ≤ c.self.inside.ranked.now.mill.largest =
    load-within (record { ranked = c.self.inside.ranked.now; path = c.self.inside.path }) groups
    c.self.invariant.1 c.loop-group.group-index c.group-item.result
    (rw value at c.loop-group-test.true) (rw value at c.group-item.is) in
    let same : c.self.inside.ranked.now.mill.largest ≡ c.args.self.now.ranked.mill.largest =
    ap (λ (node : Node). node.ranked.mill.largest) c.self.view_is in
    omega (arith, c.load.ensures.is)

pub overflow_add-loss : goal.overflow_add-loss
overflow_add-loss c =
    let value = c.deref-group-items.ensures.value in
    let few : next_new c.self.inside.path ≤ MAX_ORDERS = few-groups _ c.self.invariant.0 in
    let count : length c.self.inside.groups.items ≡ next_new c.self.inside.path =
    c.self.invariant.1.count in
    let below : c.loop-group.group-index < length c.self.inside.groups.items =
    rw value at c.loop-group-test.true in
    let most : c.loop-group.loss ≤ 100000000 * c.loop-group.group-index =
    c.loop-group.invariant.most in
    let limit : c.charge-loss.result ≤ 100000000 = c.charge-loss.ensures.limit in
    let fits : c.loop-group.loss + c.charge-loss.result < 2 ^ 64 = omega arith in
    search rules

pub loop-group-preserved : goal.loop-group-preserved
loop-group-preserved c =
    let value = c.deref-group-items.ensures.value in
    let node : Node = record { ranked = c.self.inside.ranked.now; path = c.self.inside.path } in
    let more : charged_below c.args.charges.now.list c.args.self.now (c.loop-group.group-index + 1)
    ≡ charged_below c.args.charges.now.list c.args.self.now c.loop-group.group-index
    + get_or c.args.charges.now.list c.group-item.result.load 0 =
    let charges = c.args.charges.now.list in
    let one-more = charged_below-more node c.self.inside.groups.items c.self.invariant.1
    c.loop-group.group-index c.group-item.result (rw value at c.loop-group-test.true)
    (rw value at c.group-item.is) charges in
    subst (λ (node : Node). charged_below charges node (c.loop-group.group-index + 1)
    ≡ charged_below charges node c.loop-group.group-index
    + get_or charges c.group-item.result.load 0) c.self.view_is one-more in
    let charge : c.charge-loss.result ≡ get_or c.args.charges.now.list c.group-item.result.load 0 =
    c.charge-loss.ensures.is ∙ ap (λ l. get_or c.args.charges.now.list l 0) c.load.ensures.is in
    let sum : c.loop-group.loss ≡ charged_below c.args.charges.now.list c.args.self.now
    c.loop-group.group-index = c.loop-group.invariant.sum in
    record {
      sum = omega arith;
      most = omega (arith, c.charge-loss.ensures.limit, c.loop-group.invariant.most);
    }

pub returns : goal.returns
returns c =
    let value = c.deref-group-items.ensures.value in
    let last : length c.self.inside.groups.items ≤ c.loop-group.group-index =
    rw value at c.loop-group-test.false in
    let auto : c.loop-group.group-index ≤ length c.self.inside.groups.items =
    rw value at c.loop-group.auto.group-index-end in
    let all : c.loop-group.group-index ≡ length c.self.inside.groups.items = omega arith in
    let charges = c.args.charges.now.list in
    let node : Node = record { ranked = c.self.inside.ranked.now; path = c.self.inside.path } in
    c.loop-group.invariant.sum ∙ subst (λ (node : Node).
    charged_below charges node c.loop-group.group-index
    ≡ groups_loss (λ l. get_or charges l 0) node) c.self.view_is
    (charged_below-all node c.self.inside.groups.items c.self.invariant.1 charges
    c.loop-group.group-index all)
