-- The orders so far, and those from the next rank on, are those from the first rank on.
use Rattle.std.proofs.Common.{◌≡◌, ◌+◌, ◌++◌, ◌∷◌, [], drop, length, sym, ap, ◌∙◌}
use Rattle.std.proofs.Common.{arith}
use Rattle.std.proofs.Common.{rules, append-nil, append_assoc}
use Rattle.std.proofs.lemmas.List.{length-map, drop_all}
use Rattle.order_symmetry.specs.Ranked.{orders_of}
use Rattle.knap_bound.proofs.LaterOrders.{drop-from}
use Rattle.knap_bound.proofs.knapsack.orders_from.Goals as goal

pub loop-rank-preserved : goal.loop-rank-preserved
loop-rank-preserved c =
    let orders = orders_of c.args.ranked.now in
    let rank = c.loop-rank.rank in
    let e : c.push.new.self.items ≡ c.loop-rank.orders.items ++ c.order.result ∷ [] = search rules
    in
    ap (λ xs. xs ++ drop (rank + 1) orders) e
    ∙ append_assoc c.loop-rank.orders.items (c.order.result ∷ []) (drop (rank + 1) orders)
    ∙ ap (λ xs. c.loop-rank.orders.items ++ xs)
    (sym (drop-from orders rank c.order.result c.order.ensures.is))
    ∙ c.loop-rank.invariant

pub returns : goal.returns
returns c =
    let orders = orders_of c.args.ranked.now in
    let n : length orders ≡ length c.args.ranked.now.placed =
    length-map c.args.ranked.now.placed (λ x. x.order) in
    let d : drop c.loop-rank.rank orders ≡ [] =
    drop_all c.loop-rank.rank orders
    (omega (arith, n, c.loop-rank-test.false, c.len.ensures.is)) in
    sym (append-nil c.loop-rank.orders.items)
    ∙ ap (λ xs. c.loop-rank.orders.items ++ xs) (sym d) ∙ c.loop-rank.invariant
