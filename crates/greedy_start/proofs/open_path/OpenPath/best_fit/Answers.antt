use Rattle.std.proofs.Common.{ℕ, ◌≡◌, ◌+◌, ◌∷◌, [], ◌++◌, length, ap, ◌∙◌}
use Rattle.std.proofs.lemmas.List.{length-append}
use Rattle.mill_model.specs.Charges.{charge_of}
use Rattle.greedy_start.proofs.Choices.{best-step}
use Rattle.greedy_start.proofs.open_path.OpenPath.best_fit.Goals as goal

pub loop-rank-preserved : goal.loop-rank-preserved
loop-rank-preserved c =
    let path = c.loop-rank.path.numbers.items in
    let group : ℕ = c.best_group-group.result in
    let more : c.in_ok-path-2.path.numbers.items ≡ path ++ group ∷ [] =
    c.in_ok-path-2.ensures.numbers in
    record {
      ranked = c.in_ok-path-2.ensures.ranked ∙ c.loop-rank.invariant.ranked;
      numbers = best-step c.args.ranked.now c.loop-rank.path.ranked.now
          (charge_of c.args.charges.now) path c.in_ok-path-2.path.numbers.items
          c.loop-rank.rank group c.loop-rank.invariant.ranked c.loop-rank.invariant.numbers
          c.best_group-group.ensures.is more;
      long = ap length more ∙ length-append path (group ∷ [])
          ∙ ap (λ n. n + 1) c.loop-rank.invariant.long;
    }
