-- Before each rank the plan has the numbers of the orders of lower ranks, each at its order's
-- place, and 0 elsewhere. The ranks name each place once, so in the end the plan is the path's.
use Rattle.std.proofs.Common.{◌≡◌, ◌<◌, length, map, replicate, sym, ap, ◌∙◌, arith, rules, vec_len}
use Rattle.std.proofs.lemmas.List.{length-map}
use Rattle.order_symmetry.specs.Numbered.{placed_of}
use Rattle.order_symmetry.proofs.Limits.{each-home}
use Rattle.order_symmetry.proofs.Places.{places_in}
use Rattle.order_symmetry.proofs.Plans.{filled-none, filled-step, filled-all, home-low, path-long}
use Rattle.order_symmetry.proofs.ranked.Ranked.plan_of.Goals as goal

pub loop-rank-init : goal.loop-rank-init
loop-rank-init c =
    let items = c.self.inside.placed.items in
    let zeros : c.in_ok-slabs.slabs.items ≡ replicate c.len.result 0 = search rules in
    let count : c.len.result ≡ length items = search rules in
    let long : length (places_in items) ≡ length (map placed_of items) =
    length-map (map placed_of items) (λ x. x.place) in
    let n : c.len.result ≡ length (places_in items) =
    count ∙ sym (long ∙ length-map items placed_of) in
    rw (zeros, n) (filled-none (places_in items) c.args.path.now)

pub index_mut-requires : goal.index_mut-requires
index_mut-requires c =
    let items = c.self.inside.placed.items in
    let each = rw (← c.self.view_is) at c.requires in
    let long : length c.args.path.now ≡ length (places_in items) =
    path-long items c.args.path.now each in
    let same : length c.numbers-number-items.result.now ≡ length c.args.path.now =
    ap length c.numbers-number-items.ensures in
    let low : c.index.result.now.number < length (places_in items) =
    home-low items c.loop-rank.rank c.index.result.now (each-home _ c.self.invariant) (omega arith)
    c.index.ensures in
    let size : length c.loop-rank.slabs.items ≡ length (places_in items) =
    c.loop-rank.invariant.size in
    let long_vec : vec_len c.loop-rank.slabs ≡ length c.loop-rank.slabs.items = search rules in
    omega arith

pub loop-rank-preserved : goal.loop-rank-preserved
loop-rank-preserved c =
    let each = rw (← c.self.view_is) at c.requires in
    let same = c.numbers-number-items.ensures in
    rw same (filled-step c.self.invariant.problem.orders c.self.inside.placed.items c.args.path.now
    c.loop-rank.slabs.items c.loop-rank.rank c.index.result.now c.self.invariant.is.placed
    (each-home _ c.self.invariant) each (rw same at c.loop-rank-test.true) c.index.ensures
    c.loop-rank.invariant)

pub returns : goal.returns
returns c =
    λ orders e. let each = rw (← c.self.view_is) at c.requires in
    rw c.from_list.ensures
    (filled-all orders c.self.inside.placed.items c.args.path.now c.loop-rank.slabs.items
    c.loop-rank.rank (ap (λ r. r.placed) c.self.view_is ∙ e) each
    (rw c.numbers-number-items.ensures at c.loop-rank-test.false) c.loop-rank.invariant)
