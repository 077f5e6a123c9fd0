use Rattle.std.proofs.Common.{◌∙◌, ◌<◌, length, ap}
use Rattle.std.specs.Prelude.{All}
use Rattle.std.proofs.lemmas.List.{take_all}
use Rattle.mill_model.specs.Plan.{slab}
use Rattle.plan_check.specs.Tallies.{colours_on}
use Rattle.plan_check.proofs.Counts.{counts-more, counted}
use Rattle.plan_check.proofs.tallies.colour_counts.Goals as goal

pub loop-slab-preserved : goal.loop-slab-preserved
loop-slab-preserved c =
    let pairs = c.deref-slab-items.result.now in
    let below : All (λ pair. pair.0 < length c.args.orders.now) pairs =
    rw c.deref-slab-items.ensures.value c.in_ok-slab_colours.ensures.below in
    (counts-more pairs _ c.loop-slab.slab-index c.loop-slab.counts.items _ _ below
    c.loop-slab-test.true c.loop-slab.invariant c.index_mut.ensures.value).1

pub returns-clause-each : goal.returns-clause-each
returns-clause-each c = λ s within.
    let pairs = c.deref-slab-items.result.now in
    let slab-orders = slab s c.args.slabs.now c.args.orders.now in
    c.loop-slab.invariant.each s within
    ∙ ap (λ front. length (colours_on s front)) (take_all _ pairs c.loop-slab-test.false)
    ∙ counted slab-orders s pairs
    (rw c.deref-slab-items.ensures.value (c.in_ok-slab_colours.ensures.once s))
