use Rattle.std.proofs.Common.{rules, ◌≡◌, ◌<◌, ◌≤◌, ◌++◌, ◌∷◌, [], length, Some, true, sym}
use Rattle.std.proofs.Common.{arith, subst, rules, ap}
use Rattle.std.proofs.lemmas.List.{length-map}
use Rattle.std.specs.List.{slice_get}
use Rattle.mill_model.specs.Slab.{legal, Mill}
use Rattle.order_symmetry.specs.Ranked.{RankedOrders, orders_of}
use Rattle.split_tree.proofs.Live.{any-from-rank, none-from-rank, got-below}
use Rattle.split_tree.proofs.node.NodeState.is_live.Goals as goal

pub returns-then-fits : goal.returns-then-fits
returns-then-fits c orders carries =
    let node = c.args.self.now in
    let mill : c.args.slab.now.mill ≡ node.ranked.mill = c.requires in
    let one : slice_get (orders_of node.ranked) c.loop-rank.rank ≡ Some c.order.result =
    search rules in
    let fits : legal node.ranked.mill (orders ++ c.order.result ∷ []) ≡ true =
    subst (λ (m : Mill). legal m (orders ++ c.order.result ∷ []) ≡ true) mill
    ((c.fits.ensures.legal orders carries).0 c.if-fits.true) in
    sym (any-from-rank (λ order. legal node.ranked.mill (orders ++ order ∷ [])) (length node.path)
    (orders_of node.ranked) c.loop-rank.rank c.order.result c.loop-rank.invariant.low one fits)

pub returns : goal.returns
returns c orders carries =
    let node = c.args.self.now in
    let count : length (orders_of node.ranked) ≡ length node.ranked.placed =
    length-map node.ranked.placed (λ x. x.order) in
    let same : length c.ranked.result.now.placed ≡ length node.ranked.placed =
    ap (λ (r : RankedOrders). length r.placed) c.ranked.ensures.is in
    let all : length node.ranked.placed ≤ c.loop-rank.rank =
    omega (arith, c.loop-rank-test.false, c.len-rank-end.ensures.is) in
    sym (none-from-rank (λ order. legal node.ranked.mill (orders ++ order ∷ [])) (length node.path)
    (orders_of node.ranked) (λ r order low got. c.loop-rank.invariant.none orders carries r order
    low (let below : r < length (orders_of node.ranked) =
    got-below (orders_of node.ranked) r order got in omega (arith, all)) got))
