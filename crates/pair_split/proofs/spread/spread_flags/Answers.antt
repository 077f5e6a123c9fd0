use Rattle.std.proofs.Common.{◌≡◌, ℕ, List, subst}
use Rattle.pair_split.specs.States.{loaded}
use Rattle.pair_split.specs.Tables.{Spreads, mill_in}
use Rattle.pair_split.specs.declared.state.State.{State}
use Rattle.pair_split.proofs.Pushed.{spreads-flags}
use Rattle.pair_split.proofs.spread.spread_flags.Goals as goal

pub returns : goal.returns
returns c =
    let Spread : List ℕ → List ℕ → State → Type 0 = λ before after layer.
    Spreads (mill_in c.args.layout) c.args.layout.words c.args.weight c.args.same c.args.old.now
    before after (λ s. s ≡ loaded layer s.load) in
    spreads-flags (mill_in c.args.layout) c.args.layout.words c.args.weight c.args.same
    c.args.old.now c.args.new.now c.spread_row.new.new c.spread_row-2.new.new
    c.spread_row-3.new.new c.spread_row-4.new.new c.args.first c.args.second
    (subst (Spread c.args.new.now c.spread_row.new.new)
    c.empty-neither.ensures c.spread_row.ensures)
    (subst (Spread c.spread_row.new.new c.spread_row-2.new.new)
    c.empty-other.ensures c.spread_row-2.ensures)
    (subst (Spread c.spread_row-2.new.new c.spread_row-3.new.new)
    c.empty-one.ensures c.spread_row-3.ensures)
    (subst (Spread c.spread_row-3.new.new c.spread_row-4.new.new)
    c.empty-both.ensures c.spread_row-4.ensures)
