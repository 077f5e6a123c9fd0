-- The greatest gain over the front of a table, turned, is the least slack: the front holds every
-- set that fits beside the group.
use Rattle.std.proofs.Common.{◌≡◌, ◌≤◌, ◌∙◌, length, take, pos, inl, inr}
use Rattle.std.proofs.Common.{arith, subst, sym, slice_index}
use Rattle.std.proofs.lemmas.Bool.{cases_lt}
use Rattle.std.proofs.lemmas.List.{get_or-take, length-take, get_or_past}
use Rattle.set_minima.specs.Packs.{IsTop, IsBest}
use Rattle.set_minima.specs.Joins.{gain, Joins, Packed, all_places}
use Rattle.set_minima.proofs.LeftOut.{joins-within}
use Rattle.set_minima.specs.Cells.{found, IsSmall, slack_limit}
use Rattle.set_minima.proofs.CellNumbers.{turned}
use Rattle.set_minima.proofs.LayersRaised.{near-zero}
use Rattle.least_slacks.proofs.LeastFromTable.{least-from, small-from}
use Rattle.least_slacks.proofs.least_slack.slack_from.Goals as goal

pub best_gain-requires-clause-near : goal.best_gain-requires-clause-near
best_gain-requires-clause-near c l = elim (cases_lt l c.args.room) [
  | inl b ↦ rw (get_or-take c.args.room c.args.one.now l (pos 0) b) (c.requires.near l b)
  | inr b ↦ (let e = length-take c.args.room c.args.one.now in
      rw (get_or_past (take c.args.room c.args.one.now) l (pos 0)
      (omega (arith, e, c.requires.here))) (near-zero 300000000000000000))
]

pub best_gain-requires-clause-reach : goal.best_gain-requires-clause-reach
best_gain-requires-clause-reach c =
    let e = length-take c.args.room c.args.one.now in
    omega (arith, e, c.requires.here, c.requires.fits, c.args.limits.now.reach)

pub best_gain-requires-clause-few : goal.best_gain-requires-clause-few
best_gain-requires-clause-few c =
    let e = length-take c.args.room c.args.one.now in
    omega (arith, e, c.requires.here, c.requires.fits, c.args.limits.now.size)

pub returns : goal.returns
returns c = record {
  is = λ own few table.
      let rest = c.args.later.now.rest.now in
      let prices = c.args.later.now.prices.now in
      let front = take c.args.room c.args.one.now in
      let most = c.args.limits.now.most in
      let charges = c.args.limits.now.charges.now in
      let long0 = length-take c.args.room c.args.one.now in
      let long : length front ≡ c.args.room = omega (arith, long0, c.requires.here) in
      let fits : c.args.base ≤ c.args.limits.now.largest =
      omega (arith, c.requires.fits, c.requires.some) in
      let packed : IsTop (Packed all_places own most rest 0 (length front))
      (gain (λ l. slice_index charges l) c.args.base rest prices) (found c.best_gain.result) =
      (c.best_gain.ensures.top all_places own most rest prices (λ l b.
      subst (λ x. IsBest all_places own most rest prices l (found x))
      (sym (get_or-take c.args.room c.args.one.now l (pos 0) (omega arith)))
      (table l (omega arith)))) in
      let joins : IsTop (Joins all_places 0 c.args.limits.now.largest c.args.base own most rest)
      (gain (λ l. slice_index charges l) c.args.base rest prices) (found c.best_gain.result) =
      joins-within all_places c.args.limits.now.largest c.args.base most c.args.room own rest prices
      (λ l. slice_index charges l) (found c.best_gain.result) c.requires.fits c.requires.enough
      (subst (λ z. IsTop (Packed all_places own most rest 0 z)
      (gain (λ l. slice_index charges l) c.args.base rest prices) (found c.best_gain.result)) long
      packed) in
      let turn = turned c.best_gain.result c.best_gain.ensures.near in (
        subst (λ z. IsSmall slack_limit z) (sym turn)
            (small-from rest prices charges own c.args.base c.args.limits.now.largest most
            c.best_gain.result fits few joins
            (omega (arith, c.requires.later.same, c.requires.later.few)) c.requires.later.priced
            c.args.limits.now.small),
        λ group of. turn ∙ least-from rest prices charges own c.args.base
            c.args.limits.now.largest most c.best_gain.result fits few joins group of,
      );
}
