use Rattle.std.proofs.Common.{◌≡◌, map, take, ap, ◌∙◌}
use Rattle.std.proofs.lemmas.List.{take_all}
use Rattle.order_symmetry.specs.Ranked.{IsRankOf}
use Rattle.order_symmetry.specs.Numbered.{placed_of}
use Rattle.order_symmetry.proofs.Ranks.{placed-more, sorted-rank}
use Rattle.mill_model.specs.Rank.{placed_from}
use Rattle.order_symmetry.proofs.ranked.Ranked.new.Goals as goal

pub loop-home-preserved : goal.loop-home-preserved
loop-home-preserved c =
    rw c.in_ok-push.ensures.items
    (placed-more c.orders-orders.result.now c.loop-home.placed.items c.loop-home.home
    (record { weight = 0; colour = 0 }) c.loop-home-test.true c.loop-home.invariant)

is-rank : (c : goal.After-p) → IsRankOf c.args.instance.now (record {
  placed = map placed_of c.sort_in_rank.new.numbered.items;
  mill = record { largest = c.largest.result; most_colours = c.p.result };
})
is-rank c =
    let orders = c.args.instance.now.orders in
    let whole : take c.loop-home.home c.orders-orders.result.now ≡ orders =
    take_all c.loop-home.home c.orders-orders.result.now c.loop-home-test.false
    ∙ c.orders-orders.ensures.is in
    record {
      placed =
          sorted-rank orders c.loop-home.placed.items c.sort_in_rank.new.numbered.items
          (c.loop-home.invariant ∙ ap (placed_from 0) whole) c.sort_in_rank.ensures.permutation
          c.sort_in_rank.ensures.sorted;
      mill =
          λ i. record { largest = c.largest.ensures.is i; most_colours = c.p.ensures.is i };
    }

pub invariant_of-result : goal.invariant_of-result
invariant_of-result c =
    record { problem = c.args.instance.now; kept = c.p.ensures.kept; is = is-rank c }

pub returns : goal.returns
returns c = is-rank c
