use Rattle.std.proofs.Common.{◌≡◌, ◌-◌, rules}
use Rattle.std.specs.List.Sorted.{IsPermutation}
use Rattle.std.proofs.lemmas.List.Sorted.{IsPermutation-trans, All-permutation}
use Rattle.std.proofs.lemmas.List.Sorted.{IsNonDecreasingBy-from_sort_by_key}
use Rattle.std.proofs.lemmas.List.Sorted.{answers_always, ties_still_rise}
use Rattle.mill_model.specs.Instance.{IsOrder}
use Rattle.mill_model.specs.declared.order.Order.{Order}
use Rattle.log_checker.proofs.OrdersInRank.{in-rank-is, two-sorts, falls-from}
use Rattle.log_checker.proofs.from_instance.ranked.Goals as goal

-- the sorts only move the orders
moved : (c : goal.In_ok-sort_by_key-2) → IsPermutation c.args.orders.now
    c.sort_by_key-2.new.self.items
moved c =
    let a : c.in_ok-ranked.ranked.items ≡ c.args.orders.now = search rules in
    rw (← a) (IsPermutation-trans _ _ _ c.sort_by_key.ensures.permutation
    c.sort_by_key-2.ensures.permutation)

pub returns-clause-is : goal.returns-clause-is
returns-clause-is c =
    in-rank-is c.args.orders.now c.sort_by_key-2.new.self.items (moved c)
    (two-sorts c.sort_by_key-2.new.self.items
    (All-permutation IsOrder _ _ (moved c) c.requires)
    (IsNonDecreasingBy-from_sort_by_key (λ (o : Order). 4294967295 - o.weight)
    c.sort_by_key-2.new.self.items c.in_ok-sort_by_key-2.ensures.sorted (λ a r q k. search rules))
    (ties_still_rise (λ (o : Order). o.colour) (λ (o : Order). 4294967295 - o.weight) _ _
    (c.in_ok-sort_by_key.ensures.sorted (λ o. o.colour) (answers_always _ _ _ (λ f a r g h.
    search rules)))
    (c.sort_by_key-2.ensures.stable (λ o. 4294967295 - o.weight) (answers_always _ _ _ (λ f a r g h.
    search rules)))))

pub returns-clause-kept : goal.returns-clause-kept
returns-clause-kept c = All-permutation IsOrder _ _ (moved c) c.requires

pub returns-clause-falls : goal.returns-clause-falls
returns-clause-falls c =
    falls-from c.sort_by_key-2.new.self.items
    (All-permutation IsOrder _ _ (moved c) c.requires)
    (IsNonDecreasingBy-from_sort_by_key (λ (o : Order). 4294967295 - o.weight)
    c.sort_by_key-2.new.self.items c.in_ok-sort_by_key-2.ensures.sorted (λ a r q k. search rules))
