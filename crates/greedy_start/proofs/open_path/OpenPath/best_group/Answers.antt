-- The groups are gone through from the highest to the lowest. The new slab stays legal, so it is
-- the first choice; behind the loop the choice is the best of all groups.
use Rattle.std.proofs.Common.{ℕ, ◌≡◌, length, subst, sym, ◌∙◌, arith, rules, to_z}
use Rattle.std.proofs.Common.{of_z, w64}
use Rattle.mill_model.specs.Charges.{charge_of}
use Rattle.mill_model.specs.Tree.{next_new}
use Rattle.mill_laws.proofs.Groups.{slab-new}
use Rattle.order_symmetry.specs.Ranked.{orders_of}
use Rattle.slab_rules.specs.OpenSlab.{Carries}
use Rattle.split_tree.specs.Node.{Node, group_of}
use Rattle.greedy_start.specs.Choice.{IsBestFrom}
use Rattle.greedy_start.specs.declared.open_path.Choice.{Choice}
use Rattle.greedy_start.proofs.Choices.{new-stays, added-by_slab, best-new, best_group-is}
use Rattle.greedy_start.proofs.open_path.OpenPath.best_group.Goals as goal

pub loop-group-init : goal.loop-group-init
loop-group-init c =
    let node : Node = record {
      ranked = c.args.self.now.ranked.now;
      path = c.args.self.now.numbers.items;
    } in
    let charge : ℕ → ℕ = charge_of c.args.charges.now in
    let count : length c.args.self.now.groups.items ≡ next_new node.path =
    c.args.self.now.are_groups.count in
    let first : c.len.result ≡ length c.args.self.now.groups.items = search rules in
    let from : c.len-group.result ≡ length c.args.self.now.groups.items = search rules in
    let stays = new-stays node c.args.order c.requires.next c.requires.light
    (rw c.p.ensures.is at c.p.ensures.low) in
    let carries : Carries c.empty-empty.result (group_of node (next_new node.path)) = rw
    (slab-new (next_new node.path) node.path (orders_of node.ranked) (omega arith))
    c.empty-empty.ensures.carries in
    let adds = added-by_slab node c.args.order c.requires.next charge (next_new node.path)
    c.empty-empty.result carries in
    let same : to_z w64 (of_z w64 c.added_charge.result) ≡ c.added_charge.result = search rules in
    let choice : Choice = record {
      group = c.len.result;
      added = to_z w64 (of_z w64 c.added_charge.result);
    } in
    subst (λ k. IsBestFrom node.ranked.mill charge (orders_of node.ranked) node.path k choice)
    (sym (from ∙ count))
    (best-new node.ranked.mill charge (orders_of node.ranked) node.path choice (first ∙ count)
    stays (same ∙ c.added_charge.ensures ∙ adds))

pub returns : goal.returns
returns c =
    let node : Node = record {
      ranked = c.args.self.now.ranked.now;
      path = c.args.self.now.numbers.items;
    } in
    let charge : ℕ → ℕ = charge_of c.args.charges.now in
    let stays = new-stays node c.args.order c.requires.next c.requires.light
    (rw c.p.ensures.is at c.p.ensures.low) in
    let all : c.loop-group.group ≡ 0 = omega arith in
    let best : IsBestFrom node.ranked.mill charge (orders_of node.ranked) node.path 0
    c.loop-group.best =
    subst (λ k. IsBestFrom node.ranked.mill charge (orders_of node.ranked) node.path k
    c.loop-group.best) all c.loop-group.invariant in
    record {
      is = best_group-is node.ranked.mill charge (orders_of node.ranked) node.path
          c.loop-group.best best stays;
      number = best.high;
      stays = best.stays;
    }
