use Rattle.std.proofs.Common.{◌∙◌, sym, ap, ltb, arith}
use Rattle.std.proofs.lemmas.Grind.{get_or_default_zero}
use Rattle.large_moves.proofs.Held.{held-used}
use Rattle.large_moves.proofs.mover.Mover.is_used.Goals as goal

pub returns : goal.returns
returns c =
    let within = rw (← c.self.view_is) at c.requires in
    let count = c.self.invariant.are_loads.count in
    let used = held-used _ c.self.inside.links c.self.inside.loads.items
    c.self.inside.room c.self.inside.marks.items c.self.invariant c.args.s within in
    ap (ltb 0) (c.index.ensures ∙ get_or_default_zero c.self.inside.loads.items c.args.s _
    (omega (arith, count, within)))
    ∙ rw (← c.self.view_is) (sym used)
