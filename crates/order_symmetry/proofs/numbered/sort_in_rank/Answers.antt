use Rattle.std.proofs.Common.{rules, ◌+◌, sym, ◌∙◌, get_or}
use Rattle.std.proofs.lemmas.List.Sorted.{answers_always}
use Rattle.order_symmetry.proofs.Keys.{key-before}
use Rattle.order_symmetry.proofs.numbered.sort_in_rank.Goals as goal

pub returns-clause-sorted : goal.returns-clause-sorted
returns-clause-sorted c =
    let items = c.sort_unstable_by_key.new.self.items in
    let sorted = c.sort_unstable_by_key.ensures.sorted (λ n.
    (record { 0 = n.order.weight }, n.order.colour, n.number))
    (answers_always _ _ _ (λ f a r g h. search rules)) in
    λ k d l m. sym (key-before (get_or items (k + 1) d) (get_or items k d)) ∙ sorted k d l m
