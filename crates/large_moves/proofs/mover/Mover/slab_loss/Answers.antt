use Rattle.std.proofs.Common.{◌∙◌, arith}
use Rattle.std.proofs.lemmas.Grind.{get_or_default_zero}
use Rattle.large_moves.proofs.Held.{held-light}
use Rattle.large_moves.proofs.mover.Mover.slab_loss.Goals as goal

pub overflow_cast-index : goal.overflow_cast-index
overflow_cast-index c =
    let within = rw (← c.self.view_is) at c.requires.slab in
    let count = c.self.invariant.are_loads.count in
    let light = held-light _ c.self.inside.links c.self.inside.loads.items
    c.self.inside.room c.self.inside.marks.items c.self.invariant c.args.s within in
    let is = c.index.ensures ∙ get_or_default_zero c.self.inside.loads.items c.args.s _
    (omega (arith, count, within)) in
    omega (arith, light, is, c.self.invariant.is_laid.sizes)

pub charge-requires : goal.charge-requires
charge-requires c =
    let within = rw (← c.self.view_is) at c.requires.slab in
    let reach = rw (← c.self.view_is) at c.requires.reach in
    let count = c.self.invariant.are_loads.count in
    let light = held-light _ c.self.inside.links c.self.inside.loads.items
    c.self.inside.room c.self.inside.marks.items c.self.invariant c.args.s within in
    let is = c.index.ensures ∙ get_or_default_zero c.self.inside.loads.items c.args.s _
    (omega (arith, count, within)) in
    omega (arith, light, is, reach)
