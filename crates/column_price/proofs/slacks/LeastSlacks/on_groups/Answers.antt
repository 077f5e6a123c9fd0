-- Group by group: the slacks so far are those of the first groups.
use Rattle.std.proofs.Common.{◌≡◌, ℕ, ◌+◌, ◌++◌, ◌∷◌, [], length, arith, rules, ap}
use Rattle.std.proofs.Common.{◌∙◌, sym, subst, length-append, SFits, w64, to_z-of_z}
use Rattle.std.proofs.lemmas.List.Elements.{All-push, All-same}
use Rattle.mill_model.specs.Charges.{charge_of}
use Rattle.mill_model.specs.Prices.{least_slack}
use Rattle.set_minima.specs.Cells.{IsSmall, slack_limit}
use Rattle.split_tree.specs.Node.{group_of}
use Rattle.column_price.specs.Nodes.{Pricing, rest_of}
use Rattle.column_price.proofs.WorthSums.{push-each}
use Rattle.column_price.proofs.slacks.LeastSlacks.on_groups.Goals as goal

pub loop-g-preserved : goal.loop-g-preserved
loop-g-preserved c =
    let start = c.args.self.now in
    let items = c.loop-g.slacks.items in
    let z = c.on_group.result in
    let f : SFits w64 z = search rules in
    let least = λ (p : Pricing) (g : ℕ). least_slack p.node.ranked.mill (charge_of p.charges)
    (group_of p.node g) (rest_of p.node) p.prices in
    let e : c.push.new.self.items ≡ items ++ z ∷ [] =
    simp to_z-of_z at c.in_ok-push.ensures.items in
    let is : z ≡ least start c.loop-g.g =
    subst (λ (p : Pricing). z ≡ least p c.loop-g.g) c.loop-g.invariant.kept c.on_group.ensures.is in
    let n : length (items ++ z ∷ []) ≡ length items + 1 = length-append items (z ∷ []) in
    record {
      kept = c.on_group.ensures.kept ∙ c.loop-g.invariant.kept;
      count = omega (arith, ap length e, n, c.loop-g.invariant.count);
      each =
          push-each (λ h v. v ≡ least start h) items c.push.new.self.items z e
          c.loop-g.invariant.each
          (subst (λ h. z ≡ least start h) (sym c.loop-g.invariant.count) is);
      small =
          All-same (IsSmall slack_limit) c.push.new.self.items (items ++ z ∷ []) e
          (All-push (IsSmall slack_limit) items z c.loop-g.invariant.small
          c.on_group.ensures.small);
    }
