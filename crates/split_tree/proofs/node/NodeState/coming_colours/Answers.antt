use Rattle.std.proofs.Common.{rules, ◌≡◌, ◌≤◌, ◌++◌, List, length, map, Some, ap, sym}
use Rattle.std.proofs.Common.{eqb, append-nil, ◌∙◌}
use Rattle.std.proofs.lemmas.List.{length-map}
use Rattle.std.proofs.lemmas.List.Filters.{dedup_is}
use Rattle.std.specs.List.{slice_get}
use Rattle.mill_model.proofs.Sizes.{sorted_once}
use Rattle.mill_model.specs.Instance.{AreSizesOf}
use Rattle.mill_model.specs.declared.order.Order.{Order}
use Rattle.order_symmetry.specs.Ranked.{orders_of}
use Rattle.split_tree.specs.Keys.{rest_of}
use Rattle.split_tree.proofs.Live.{drop-end, values-more}
use Rattle.split_tree.proofs.node.NodeState.coming_colours.Goals as goal

pub loop-rank-preserved : goal.loop-rank-preserved
loop-rank-preserved c =
    let node = c.args.self.now in
    let one : slice_get (orders_of node.ranked) c.loop-rank.rank ≡ Some c.order.result =
    search rules in
    let more = values-more (λ (order : Order). order.colour) (orders_of node.ranked)
    c.loop-rank.rank c.order.result c.loop-rank.colours.items
    (map (λ (order : Order). order.colour) (rest_of node)) one c.loop-rank.invariant in
    search rules

pub returns : goal.returns
returns c =
    let node = c.args.self.now in
    let count : length (orders_of node.ranked) ≡ length node.ranked.placed =
    length-map node.ranked.placed (λ x. x.order) in
    let all : length (orders_of node.ranked) ≤ c.loop-rank.rank = search rules in
    let values : c.loop-rank.colours.items ≡ map (λ (order : Order). order.colour) (rest_of node) =
    sym (append-nil c.loop-rank.colours.items)
    ∙ sym (ap (λ (l : List Order). c.loop-rank.colours.items ++ map (λ (order : Order).
    order.colour) l) (drop-end (orders_of node.ranked) c.loop-rank.rank all))
    ∙ c.loop-rank.invariant in
    let moved = c.sort_unstable.ensures.permutation in
    let sizes : AreSizesOf c.loop-rank.colours.items c.dedup.new.self.items =
    sorted_once _ _ _ moved c.sort_unstable.ensures.sorted
    (dedup_is eqb _ _ c.dedup.ensures.filtered) in
    let whole : AreSizesOf (map (λ (order : Order). order.colour) (rest_of node))
    c.dedup.new.self.items = rw values at sizes in
    record { rise = whole.rise; kept = whole.kept; only = whole.only }
