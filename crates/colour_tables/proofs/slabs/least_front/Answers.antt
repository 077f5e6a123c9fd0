use Rattle.std.proofs.Common.{◌≡◌, length, take, neg_ℤ, sym, subst, SFits, w64, to_z-of_z, rules}
use Rattle.std.proofs.lemmas.List.{length-take-le}
use Rattle.set_minima.specs.Packs.{IsTop}
use Rattle.set_minima.specs.Joins.{gain, Packed}
use Rattle.set_minima.specs.Cells.{found}
use Rattle.colour_tables.specs.Leasts.{AreCharged}
use Rattle.colour_tables.proofs.OwnTables.{front-cells}
use Rattle.colour_tables.proofs.slabs.least_front.Goals as goal

pub returns : goal.returns
returns c = record {
  top = λ allowed own k rest prices charge base charged p.
      let f : SFits w64 c.least.result = search rules in
      let n = c.args.n in
      let e : length (take n c.args.table.now) ≡ n =
      length-take-le n c.args.table.now c.requires.long in
      simp to_z-of_z (subst (λ z. IsTop (Packed allowed own k rest 0 z)
      (gain charge base rest prices) (found (neg_ℤ c.least.result))) e
      (c.least.ensures.top allowed own k rest prices charge base
      (subst (λ z. AreCharged charge base z c.args.charges.now) (sym e) charged)
      (front-cells rest prices allowed own k n c.args.table.now c.requires.long p)));
}
