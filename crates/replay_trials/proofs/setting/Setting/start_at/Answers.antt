use Rattle.std.proofs.Common.{ℕ, sym, subst, ◌∙◌}
use Rattle.split_tree.specs.Node.{Node}
use Rattle.search_step.specs.Honest.{IsKept}
use Rattle.search_step.proofs.Deciding.{groups-lose}
use Rattle.search_step.proofs.Soundness.{leaf-kept}
use Rattle.replay_trials.proofs.setting.Setting.start_at.Goals as goal

pub returns : goal.returns
returns c =
    let charges = c.args.self.now.charges in
    let node : Node = c.in_ok-node.node in
    let kept = c.depth.ensures.kept in
    let leaf = leaf-kept node.ranked charges node.path (record { is = kept.tree })
    c.in_ok-plan.plan c.in_ok-plan.ensures.is in
    let loses = c.groups_loss-loss.ensures ∙ groups-lose node.ranked charges node.path kept in
    subst (λ (n : Node). IsKept n.ranked charges (record {
      plan = c.in_ok-plan.plan;
      loss = c.groups_loss-loss.result;
    })) c.in_ok-node.ensures
    (subst (λ (l : ℕ). IsKept node.ranked charges (record { plan = c.in_ok-plan.plan; loss = l }))
    (sym loses) leaf)
