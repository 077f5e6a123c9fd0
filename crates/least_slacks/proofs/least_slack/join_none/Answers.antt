-- A slab that takes no other colour: at first the empty set alone, then the orders of its colours.
use Rattle.std.proofs.Common.{◌≡◌, ℕ, zero, suc, [], ◌<◌, not, length, sym, subst, refl}
use Rattle.std.proofs.Common.{true, false, Bool, ◌∙◌, zero-add}
use Rattle.list_laws.specs.Sets.{holds}
use Rattle.set_minima.specs.Packs.{IsBest, colour_at}
use Rattle.set_minima.proofs.LeftOut.{colours-paid}
use Rattle.set_minima.proofs.OneColour.{table-none, table-empty, no-colour-allowed}
use Rattle.set_minima.specs.Cells.{cell}
use Rattle.least_slacks.specs.Items.{no_place}
use Rattle.least_slacks.specs.Later.{others_of}
use Rattle.least_slacks.proofs.least_slack.join_none.Goals as goal

pub returns-clause-best : goal.returns-clause-best
returns-clause-best c own once same =
    let rest = c.args.later.now.rest.now in
    let prices = c.args.later.now.prices.now in
    let allowed = others_of c.args.later.now c.args.out.now in
    let v : length c.clear.new.table ≡ length c.args.table.now = c.clear.auto.table in
    let best = rw v at (c.add_left_out.ensures.best own (length own) same) in
    best (λ l b. subst (λ z. IsBest allowed own z rest prices l (cell c.clear.new.table l))
    (zero-add (length own))
    (colours-paid rest allowed prices 0 l own (cell c.clear.new.table l) once
    (λ i q a. same i q ∙ turned (holds (colour_at rest i) c.args.out.now) a)
    (no-colour-allowed rest no_place allowed prices l (cell c.clear.new.table l)
    (first l (subst (λ z. l < z) (sym v) b)))))
  where
    turned : (b : Bool) → not b ≡ true → b ≡ false
    turned true h = sym h
    turned false h = refl

    first : (l : ℕ) → l < length c.clear.new.table →
        IsBest no_place [] 0 c.args.later.now.rest.now c.args.later.now.prices.now l
        (cell c.clear.new.table l)
    first zero b =
        rw c.clear.ensures.first (table-empty c.args.later.now.rest.now no_place []
        c.args.later.now.prices.now (λ i. refl) 0 refl)
    first (suc l) b =
        rw (c.clear.ensures.others l b) (table-none c.args.later.now.rest.now no_place []
        c.args.later.now.prices.now (λ i. refl) 0 l)
