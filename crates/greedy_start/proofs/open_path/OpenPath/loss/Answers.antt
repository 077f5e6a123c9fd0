-- The charges of the groups are added up, each within a limit, so that the sum doesn't overflow.
-- The path has placed all orders, so what its groups are charged is what it loses.
use Rattle.std.proofs.Common.{◌≡◌, ◌<◌, ◌≤◌, ◌+◌, ◌*◌, ◌^◌, length, get_or, ap, ◌∙◌, sym, arith}
use Rattle.std.proofs.Common.{rules}
use Rattle.split_tree.specs.Node.{Node}
use Rattle.split_tree.proofs.Losses.{charged_below, charged_below-none, charged_below-more}
use Rattle.split_tree.proofs.Losses.{load-within}
use Rattle.greedy_start.proofs.Losses.{charged-all}
use Rattle.greedy_start.proofs.open_path.OpenPath.loss.Goals as goal

pub loop-group-init : goal.loop-group-init
loop-group-init c = record {
  sum = sym (charged_below-none c.args.charges.now.list (record {
    ranked = c.args.self.now.ranked.now;
    path = c.args.self.now.numbers.items;
  }));
  free = λ l. absurd (omega arith);
  most = omega arith;
}

pub charge-loss-requires : goal.charge-loss-requires
charge-loss-requires c =
    let node : Node = record {
      ranked = c.args.self.now.ranked.now;
      path = c.args.self.now.numbers.items;
    } in
    let value = c.deref-group-items.ensures.value in
    let within : c.group-item.result.load ≤ node.ranked.mill.largest =
    load-within node c.args.self.now.groups.items c.args.self.now.are_groups
    c.loop-group.group-index c.group-item.result
    (rw value at c.loop-group-test.true) (rw value at c.group-item.is) in
    omega (arith, c.load.ensures.is)

pub overflow_add-loss : goal.overflow_add-loss
overflow_add-loss c =
    let value = c.deref-group-items.ensures.value in
    let below : c.loop-group.group-index < length c.args.self.now.groups.items =
    rw value at c.loop-group-test.true in
    let few : length c.args.self.now.groups.items ≤ 1024 =
    omega (
      arith,
      c.args.self.now.few_groups,
      c.args.self.now.within,
      c.args.self.now.few_orders,
    ) in
    let most : c.loop-group.loss ≤ 100000000 * c.loop-group.group-index =
    c.loop-group.invariant.most in
    let limit : c.charge-loss.result ≤ 100000000 = c.charge-loss.ensures.limit in
    let fits : c.loop-group.loss + c.charge-loss.result < 2 ^ 64 = omega arith in
    search rules

pub loop-group-preserved : goal.loop-group-preserved
loop-group-preserved c =
    let node : Node = record {
      ranked = c.args.self.now.ranked.now;
      path = c.args.self.now.numbers.items;
    } in
    let value = c.deref-group-items.ensures.value in
    let more = charged_below-more node c.args.self.now.groups.items c.args.self.now.are_groups
    c.loop-group.group-index c.group-item.result (rw value at c.loop-group-test.true)
    (rw value at c.group-item.is) c.args.charges.now.list in
    let charge : c.charge-loss.result ≡ get_or c.args.charges.now.list c.group-item.result.load 0 =
    c.charge-loss.ensures.is ∙ ap (λ l. get_or c.args.charges.now.list l 0) c.load.ensures.is in
    let sum : c.loop-group.loss
    ≡ charged_below c.args.charges.now.list node c.loop-group.group-index =
    c.loop-group.invariant.sum in
    record {
      sum = omega (arith, more, charge, sum);
      free = λ l. c.args.charges.now.free;
      most = omega (arith, c.charge-loss.ensures.limit, c.loop-group.invariant.most);
    }

pub returns : goal.returns
returns c =
    let value = c.deref-group-items.ensures.value in
    let last : length c.args.self.now.groups.items ≤ c.loop-group.group-index =
    rw value at c.loop-group-test.false in
    let auto : c.loop-group.group-index ≤ length c.args.self.now.groups.items =
    rw value at c.loop-group.auto.group-index-end in
    let all : c.loop-group.group-index ≡ length c.args.self.now.groups.items = omega arith in
    c.loop-group.invariant.sum
    ∙ charged-all (record {
      ranked = c.args.self.now.ranked.now;
      path = c.args.self.now.numbers.items;
    }) c.args.self.now.groups.items c.args.charges.now.list c.loop-group.group-index
    c.args.self.now.are_groups c.requires.whole c.loop-group.invariant.free
    (omega (arith, c.args.self.now.few_groups, c.args.self.now.within)) all
