-- Each order gives a pair of its slab and its colour. Sorted and without repeats, the pairs of a
-- slab have each of its colours once.
use Rattle.std.proofs.Common.{◌≡◌, ◌∙◌, ◌<◌, ◌≤◌, length, ap, arith}
use Rattle.list_laws.specs.Sets.{holds}
use Rattle.plan_check.specs.Tallies.{colours_on}
use Rattle.std.specs.List.{dedup}
use Rattle.std.proofs.lemmas.List.{take_all}
use Rattle.std.proofs.lemmas.List.Filters.{dedup_is, All-dedup}
use Rattle.std.proofs.lemmas.List.Sorted.{All-permutation}
use Rattle.plan_check.proofs.Slabs.{each-length, each-numbers}
use Rattle.plan_check.proofs.Pairs.{pairs_of, pairs-next, length-pairs_of, below-pairs_of}
use Rattle.plan_check.proofs.Pairs.{colours-pairs_of, same_pair, holds-settled, once-settled}
use Rattle.plan_check.proofs.tallies.slab_colours.Goals as goal

pub loop-place-preserved : goal.loop-place-preserved
loop-place-preserved c =
    let plan = c.args.slabs.now in
    let orders = c.args.orders.now in
    let same : length plan ≡ length orders = each-length plan orders c.requires in
    let within : c.loop-place.place < length plan = omega (arith, same, c.loop-place-test.true) in
    c.in_ok-push.ensures.items
    ∙ pairs-next plan orders c.loop-place.place _ _ within same c.loop-place.invariant

-- the pairs that are sorted are those of all orders
all-pairs : (c : goal.After-dedup) → c.loop-place.pairs.items ≡ pairs_of c.args.slabs.now
    c.args.orders.now
all-pairs c =
    let plan = c.args.slabs.now in
    let orders = c.args.orders.now in
    let same : length plan ≡ length orders = each-length plan orders c.requires in
    let past : length plan ≤ c.loop-place.place = omega (arith, same, c.loop-place-test.false) in
    c.loop-place.invariant ∙ ap (λ front. pairs_of front orders)
    (take_all c.loop-place.place plan past)

settled : (c : goal.After-dedup) → c.dedup.new.self.items ≡ dedup same_pair
    c.sort_unstable.new.self.items
settled c = dedup_is same_pair _ _ c.dedup.ensures.filtered

pub returns-clause-count : goal.returns-clause-count
returns-clause-count c =
    let plan = c.args.slabs.now in
    let orders = c.args.orders.now in
    let whole : length c.loop-place.pairs.items ≡ length orders = ap length (all-pairs c)
    ∙ length-pairs_of plan orders (each-length plan orders c.requires) in
    omega (arith, whole, c.sort_unstable.ensures.len, c.dedup.ensures.bound)

pub returns-clause-below : goal.returns-clause-below
returns-clause-below c =
    let n = length c.args.orders.now in
    rw (settled c) (All-dedup same_pair (λ pair. pair.0 < n) _ (All-permutation (λ pair. pair.0 < n)
    _ _ c.sort_unstable.ensures.permutation (rw (all-pairs c) (below-pairs_of n c.args.slabs.now
    c.args.orders.now (each-numbers c.args.slabs.now c.args.orders.now c.requires)))))

pub returns-clause-once : goal.returns-clause-once
returns-clause-once c = λ s. record {
  each = λ colour. holds-settled s colour _ _ _ c.sort_unstable.ensures.permutation (settled c)
      ∙ ap (λ pairs. holds colour (colours_on s pairs)) (all-pairs c)
      ∙ ap (holds colour) (colours-pairs_of s c.args.slabs.now c.args.orders.now);
  once = once-settled s _ _ c.sort_unstable.ensures.sorted (settled c);
}
