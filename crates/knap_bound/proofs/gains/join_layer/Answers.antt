use Rattle.std.proofs.Common.{◌≡◌, ◌+◌, not, [], length, sym, subst}
use Rattle.std.proofs.Common.{arith, true, false, Bool, refl}
use Rattle.list_laws.specs.Sets.{holds}
use Rattle.set_minima.specs.Packs.{IsBest, colour_at}
use Rattle.set_minima.specs.Joins.{all_but}
use Rattle.list_laws.proofs.Tests.{and-left}
use Rattle.set_minima.proofs.LeftOut.{colours-paid}
use Rattle.set_minima.specs.Cells.{cell, found}
use Rattle.knap_bound.specs.Packing.{others_of}
use Rattle.set_minima.proofs.LayersRaised.{near-copied-from}
use Rattle.knap_bound.proofs.gains.join_layer.Goals as goal

pub add_left_out-requires-clause-near : goal.add_left_out-requires-clause-near
add_left_out-requires-clause-near c =
    let w : length c.copy_layer.new.table ≡ length c.args.table.now = c.copy_layer.auto.table in
    near-copied-from 200000000000000000 c.args.at c.args.layers.now c.copy_layer.new.table
    (λ l b. c.copy_layer.ensures l (omega arith)) (λ l b. c.requires.near l (omega arith))

pub returns-clause-best : goal.returns-clause-best
returns-clause-best c t once p =
    let rest = c.args.packing.now.rest.now in
    let prices = c.args.packing.now.prices.now in
    let allowed = others_of c.args.packing.now c.args.out.now in
    let w : length c.copy_layer.new.table ≡ length c.args.table.now = c.copy_layer.auto.table in
    let best = rw w at (c.add_left_out.ensures.best (t + length c.args.out.now)) in
    best (λ l b. colours-paid rest allowed prices t l c.args.out.now
    (cell c.copy_layer.new.table l) once
    (λ i q a. turned (holds (colour_at rest i) c.args.out.now)
    (and-left _ (all_but c.args.packing.now.skip i) a))
    (subst (λ x. IsBest allowed [] t rest prices l (found x))
    (sym (c.copy_layer.ensures l b)) (p l b)))
  where
    turned : (b : Bool) → not b ≡ true → b ≡ false
    turned true h = sym h
    turned false h = refl
