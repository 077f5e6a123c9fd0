use Rattle.std.proofs.Common.{◌≡◌, length, List, map, take, subst, sym, ◌∙◌, arith, rules}
use Rattle.std.proofs.lemmas.List.{length-map}
use Rattle.std.specs.List.Sorted.{IsPermutation}
use Rattle.mill_model.specs.Rank.{Placed}
use Rattle.order_symmetry.specs.Ranked.{orders_of}
use Rattle.order_symmetry.specs.Twins.{numbered_by}
use Rattle.order_symmetry.specs.declared.numbered.Numbered.{Numbered}
use Rattle.order_symmetry.proofs.Classes.{Ordered, ranked-ordered, numbered-more, numbered-all}
use Rattle.order_symmetry.proofs.Classes.{sorts}
use Rattle.order_symmetry.proofs.laws.sort_within_classes.Goals as goal

pub loop-rank-preserved : goal.loop-rank-preserved
loop-rank-preserved c =
    let ranked = c.args.ranked.now in
    let n : length (orders_of ranked) ≡ length ranked.placed =
    length-map ranked.placed (λ x. x.order) in
    rw c.in_ok-push.ensures.items
    (numbered-more (orders_of ranked) c.args.numbers.now c.loop-rank.numbered.items c.loop-rank.rank
    c.order.result (omega arith) (omega arith) c.order.ensures.is c.loop-rank.invariant)

pub returns : goal.returns
returns c =
    let ranked = c.args.ranked.now in
    let orders = orders_of ranked in
    let numbers = c.args.numbers.now in
    let n : length orders ≡ length ranked.placed = length-map ranked.placed (λ x. x.order) in
    let whole : take c.loop-rank.rank (numbered_by orders numbers) ≡ numbered_by orders numbers =
    numbered-all orders numbers c.loop-rank.rank (omega arith) (omega arith) in
    let kept = c.len-rank-end.ensures.kept in
    let ordered : Ordered orders =
    subst (λ (xs : List Placed). Ordered (map (λ x. x.order) xs)) (sym kept.is.placed)
    (ranked-ordered kept.problem.orders) in
    let moved : IsPermutation (numbered_by orders numbers) c.sort_in_rank.new.numbered.items =
    subst (λ xs. IsPermutation xs c.sort_in_rank.new.numbered.items)
    (c.loop-rank.invariant ∙ whole) c.sort_in_rank.ensures.permutation in
    let taken : c.in_ok-collect.field-0.items ≡ map (λ (x : Numbered). x.number)
    c.sort_in_rank.new.numbered.items = search rules in
    rw taken (sorts orders numbers c.sort_in_rank.new.numbered.items ordered (omega arith) moved
    c.sort_in_rank.ensures.sorted)
