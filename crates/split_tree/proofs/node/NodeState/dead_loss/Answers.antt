-- After each group the sum is what the dead ones so far are charged, and at most a greatest charge
-- for each of them, so it doesn't overflow.
use Rattle.std.proofs.Common.{◌≡◌, ◌<◌, ◌≤◌, ◌+◌, ◌*◌, ◌^◌, length, ap, ◌∙◌, sym, arith, rules}
use Rattle.std.proofs.Common.{true, false, ℕ}
use Rattle.mill_model.specs.Charges.{charge_of}
use Rattle.mill_model.specs.Slab.{load}
use Rattle.mill_model.specs.Tree.{next_new}
use Rattle.mill_model.specs.declared.order.TheConstants.{MAX_ORDERS}
use Rattle.split_tree.specs.Node.{IsGroup, group_of}
use Rattle.split_tree.proofs.Losses.{group-at, load-within}
use Rattle.split_tree.proofs.Nodes.{few-groups}
use Rattle.split_tree.proofs.LiveGroups.{lives, dead_below, dead_below-none, dead_below-all}
use Rattle.split_tree.proofs.LiveGroups.{dead_below-live, dead_below-dead}
use Rattle.split_tree.proofs.node.NodeState.dead_loss.Goals as goal
use Rattle.split_tree.proofs.node.NodeState.dead_loss.Goals.{then-not-is_live, else-not-is_live}

pub loop-slab-init : goal.loop-slab-init
loop-slab-init c = record {
  sum = dead_below-none c.args.self.now (charge_of c.args.charges.now);
  most = omega arith;
}

pub is_live-requires : goal.is_live-requires
is_live-requires c =
    (group-at c.args.self.now c.groups-slab-items.result.now c.groups-slab-items.ensures.is
    c.loop-slab.slab-index c.slab-item.result c.loop-slab-test.true c.slab-item.is).mill

pub charge-loss-requires : goal.charge-loss-requires
charge-loss-requires c =
    let within : c.slab-item.result.load ≤ c.args.self.now.ranked.mill.largest =
    load-within c.args.self.now c.groups-slab-items.result.now c.groups-slab-items.ensures.is
    c.loop-slab.slab-index c.slab-item.result c.loop-slab-test.true c.slab-item.is in
    omega (arith, c.load.ensures.is)

pub overflow_add-loss : goal.overflow_add-loss
overflow_add-loss c =
    let few : next_new c.args.self.now.path ≤ MAX_ORDERS =
    few-groups c.args.self.now c.groups-slab-items.ensures.kept in
    let count = c.groups-slab-items.ensures.is.count in
    let below : c.loop-slab.slab-index < length c.groups-slab-items.result.now =
    c.loop-slab-test.true in
    let most : c.loop-slab.loss ≤ 100000000 * c.loop-slab.slab-index =
    c.loop-slab.invariant.most in
    let limit : c.charge-loss.result ≤ 100000000 = c.charge-loss.ensures.limit in
    let fits : c.loop-slab.loss + c.charge-loss.result < 2 ^ 64 = omega arith in
    search rules

pub loop-slab-preserved : goal.loop-slab-preserved
loop-slab-preserved c =
    let node = c.args.self.now in
    let charge : ℕ → ℕ = charge_of c.args.charges.now in
    let i = c.loop-slab.slab-index in
    let group : IsGroup node i c.slab-item.result =
    group-at node c.groups-slab-items.result.now c.groups-slab-items.ensures.is i
    c.slab-item.result c.loop-slab-test.true c.slab-item.is in
    let live : c.is_live.result ≡ lives node i =
    c.is_live.ensures (group_of node i) group.carries in
    let sum : c.loop-slab.loss ≡ dead_below node charge i = c.loop-slab.invariant.sum in
    elim c.if-not-is_live.branch [
      | then-not-is_live w ↦ (
          let dead : lives node i ≡ false = sym live ∙ search rules in
          let more : dead_below node charge (i + 1)
          ≡ dead_below node charge i + charge (load (group_of node i)) =
          dead_below-dead node charge i dead in
          let one : w.charge-loss.result ≡ charge (load (group_of node i)) =
          w.charge-loss.ensures.is ∙ ap charge (w.load.ensures.is ∙ group.carries.weight) in
          rw w.loss-is (record {
            sum = omega arith;
            most = omega (arith, w.charge-loss.ensures.limit, c.loop-slab.invariant.most);
          }))
      | else-not-is_live w ↦ (
          let alive : lives node i ≡ true = sym live ∙ search rules in
          let same : dead_below node charge (i + 1) ≡ dead_below node charge i =
          dead_below-live node charge i alive in
          rw w.loss-is (record {
            sum = omega arith;
            most = omega (arith, c.loop-slab.invariant.most);
          }))
    ]

pub returns : goal.returns
returns c =
    let all : c.loop-slab.slab-index ≡ length c.groups-slab-items.result.now =
    omega (arith, c.loop-slab-test.false, c.loop-slab.auto.slab-index-end) in
    c.loop-slab.invariant.sum ∙ dead_below-all c.args.self.now (charge_of c.args.charges.now)
    c.loop-slab.slab-index (all ∙ c.groups-slab-items.ensures.is.count)
