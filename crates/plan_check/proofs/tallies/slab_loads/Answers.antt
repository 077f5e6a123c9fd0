use Rattle.std.proofs.Common.{arith}
use Rattle.plan_check.proofs.Slabs.{loads-more}
use Rattle.plan_check.proofs.tallies.slab_loads.Goals as goal

pub overflow_add-index_mut : goal.overflow_add-index_mut
overflow_add-index_mut c =
    let more = loads-more c.args.slabs.now c.args.orders.now c.loop-place.place
    c.loop-place.loads.items _ _ _ c.requires.each c.requires.within c.loop-place-test.true
    c.loop-place.invariant c.index_mut.ensures.value c.from.ensures in
    omega (arith, more.0, c.requires.few, c.loop-place-test.true)

pub loop-place-preserved : goal.loop-place-preserved
loop-place-preserved c =
    (loads-more c.args.slabs.now c.args.orders.now c.loop-place.place
    c.loop-place.loads.items _ _ _ c.requires.each c.requires.within c.loop-place-test.true
    c.loop-place.invariant c.index_mut.ensures.value c.from.ensures).1
