use Rattle.std.proofs.Common.{ℤ, ◌≡◌, ◌+◌, ◌*◌, ◌++◌, ◌∷◌, [], ◌∙◌, pos, ap, arith, rules}
use Rattle.std.proofs.lemmas.Int.{ints}
use Rattle.mill_model.specs.Charges.{charge_of}
use Rattle.set_minima.specs.Cells.{IsSmall}
use Rattle.colour_tables.proofs.RowsLaidOut.{each-push, all-small}
use Rattle.colour_tables.proofs.tables_made.paid_charges.Goals as goal
use Rattle.mill_model.specs.declared.prices.TheConstants.{MAX_PRICE}

pub loop-load-preserved : goal.loop-load-preserved
loop-load-preserved c =
    let v : ℤ = pos (60 * c.charge.result) in
    let e : c.push.new.self.items ≡ c.loop-load.paid.items ++ pos (60 * c.charge.result) ∷ [] =
    search rules in
    record {
      count = search rules;
      inside = omega (arith, c.loop-load-test.true);
      is =
          each-push (λ k z. z ≡ pos (60 * charge_of c.args.charges.now k)) c.loop-load.paid.items
          c.push.new.self.items (pos (60 * c.charge.result)) c.loop-load.load e
          c.loop-load.invariant.count c.loop-load.invariant.is
          (ap (λ n. pos (60 * n)) c.charge.ensures.is);
      small =
          each-push (λ k z. IsSmall MAX_PRICE z) c.loop-load.paid.items c.push.new.self.items
          (pos (60 * c.charge.result)) c.loop-load.load e c.loop-load.invariant.count
          c.loop-load.invariant.small (
            omega (arith, ints, c.charge.ensures.limit),
            omega (
              arith,
              ints,
              c.charge.ensures.limit,
            ),
          );
    }

pub returns-clause-is : goal.returns-clause-is
returns-clause-is c l b =
    let z : l ≡ 0 + l = omega arith in
    c.loop-load.invariant.is l
    (omega (arith, b, c.loop-load.invariant.inside, c.loop-load-test.false))
    ∙ ap (λ k. pos (60 * charge_of c.args.charges.now k)) z

pub returns-clause-small : goal.returns-clause-small
returns-clause-small c =
    all-small c.loop-load.paid.items
    (λ k b. c.loop-load.invariant.small k (omega (arith, b, c.loop-load.invariant.count)))
