-- Group by group: the keys of the live groups so far. Sorting leaves them the same.
use Rattle.std.proofs.Common.{◌≡◌, ◌++◌, ◌∷◌, [], length, ap, ◌∙◌, sym, arith, rules}
use Rattle.std.proofs.Common.{ℕ, subst, List, map}
use Rattle.std.specs.List.Sorted.{IsPermutation}
use Rattle.split_tree.specs.Node.{IsGroup, group_of}
use Rattle.split_tree.specs.Keys.{key_group, live_numbers}
use Rattle.split_tree.specs.declared.live_key.KeyGroup.{KeyGroup}
use Rattle.split_tree.proofs.Losses.{group-at}
use Rattle.split_tree.proofs.LiveGroups.{lives, keys_below-none, keys_below-all}
use Rattle.split_tree.proofs.LiveGroups.{keys_below-live, keys_below-dead}
use Rattle.split_tree.proofs.node.NodeState.live_key.Goals as goal
use Rattle.split_tree.proofs.node.NodeState.live_key.Goals.{then-is_live+in_ok-push, else-is_live}

pub loop-slab-init : goal.loop-slab-init
loop-slab-init c =
    c.in_ok-groups.ensures.items ∙ keys_below-none c.args.self.now c.in_ok-coming.coming.items

pub is_live-requires : goal.is_live-requires
is_live-requires c =
    (group-at c.args.self.now c.groups-slab-items.result.now c.groups-slab-items.ensures.is
    c.loop-slab.slab-index c.slab-item.result c.loop-slab-test.true c.slab-item.is).mill

pub loop-slab-preserved : goal.loop-slab-preserved
loop-slab-preserved c =
    let node = c.args.self.now in
    let coming : List ℕ = c.in_ok-coming.coming.items in
    let i = c.loop-slab.slab-index in
    let group : IsGroup node i c.slab-item.result =
    group-at node c.groups-slab-items.result.now c.groups-slab-items.ensures.is i
    c.slab-item.result c.loop-slab-test.true c.slab-item.is in
    let live : c.is_live.result ≡ lives node i =
    c.is_live.ensures (group_of node i) group.carries in
    elim c.if-is_live.branch [
      | then-is_live+in_ok-push w ↦ (
          let key : w.key_group.result ≡ key_group coming (group_of node i) = search rules in
          let pushed : c.if-is_live.groups.items
          ≡ c.loop-slab.groups.items ++ w.key_group.result ∷ [] =
          search rules in
          pushed ∙ ap (λ k. c.loop-slab.groups.items ++ k ∷ []) key
          ∙ ap (λ l. l ++ key_group coming (group_of node i) ∷ []) c.loop-slab.invariant
          ∙ sym (keys_below-live node coming i (sym live ∙ w.if-is_live.true)))
      | else-is_live w ↦ (
          let same : c.if-is_live.groups.items ≡ c.loop-slab.groups.items = search rules in
          same ∙ c.loop-slab.invariant
          ∙ sym (keys_below-dead node coming i (sym live ∙ w.if-is_live.false)))
    ]

pub returns : goal.returns
returns c =
    let node = c.args.self.now in
    let coming : List ℕ = c.in_ok-coming.coming.items in
    let all : c.loop-slab.slab-index ≡ length c.groups-slab-items.result.now =
    omega (arith, c.loop-slab-test.false, c.loop-slab.auto.slab-index-end) in
    let keys : c.loop-slab.groups.items
    ≡ map (λ g. key_group coming (group_of node g)) (live_numbers node) =
    c.loop-slab.invariant
    ∙ keys_below-all node coming c.loop-slab.slab-index
    (all ∙ c.groups-slab-items.ensures.is.count) in
    record {
      depth = c.depth.ensures.is;
      coming = coming;
      rising = c.in_ok-coming.ensures;
      groups =
          subst (λ (l : List KeyGroup). IsPermutation l c.sort_unstable.new.self.items) keys
          c.sort_unstable.ensures.permutation;
      sorted = c.sort_unstable.ensures.sorted;
    }
