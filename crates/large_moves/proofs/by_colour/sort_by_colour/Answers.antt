use Rattle.std.proofs.Common.{rules, arith}
use Rattle.std.proofs.lemmas.List.Sorted.{answers_always}
use Rattle.large_moves.proofs.by_colour.sort_by_colour.Goals as goal

pub returns-clause-sorted : goal.returns-clause-sorted
returns-clause-sorted c =
    let sorted = c.sort_unstable_by_key.ensures.sorted (λ n. n.order.colour)
    (answers_always _ _ _ (λ f a r g h. search rules)) in
    λ k d l m. (let h = sorted k d l m in grind (arith, h))
