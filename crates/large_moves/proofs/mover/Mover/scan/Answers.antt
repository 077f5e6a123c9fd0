-- Row by row: the pairs of the rows so far are closed, and they come first among all pairs.
use Rattle.std.proofs.Common.{ℕ, suc, length, arith, subst}
use Rattle.mill_model.specs.Charges.{charge_of}
use Rattle.mill_model.specs.Pairs.{pairs_with, pairs_below, pairs_of}
use Rattle.large_moves.specs.Laid.{Laid}
use Rattle.large_moves.specs.Scans.{IsScan, AreTimesOf}
use Rattle.large_moves.specs.declared.scan.Scan.TheVariants.{Done, Spent, Changed}
use Rattle.large_moves.proofs.Scanned.{spent-between, tries-between, below-prefix, plan-more}
use Rattle.large_moves.proofs.mover.Mover.scan.Goals as goal

pub returns-in-Spent-clause-scan : goal.returns-in-Spent-clause-scan
returns-in-Spent-clause-scan c =
    let charge : ℕ → ℕ = charge_of c.args.charges.now in
    let plan = c.args.self.now.plan in
    let here = subst (λ (laid : Laid). IsScan (charge_of c.args.charges.now) laid
    c.scan_row.new.self (pairs_with laid.plan c.loop-a.a (length laid.plan))
    c.loop-a.tries.left c.scan_row.new.tries.left
    Spent) c.loop-a.invariant.kept c.in-Spent.ensures.scan in
    let rest = below-prefix plan (length plan) (length plan) (suc c.loop-a.a)
    (omega (arith, c.loop-a-test.true, c.len-a-end.ensures.plan)) in (
      here.0,
      spent-between charge c.args.self.now (pairs_of plan)
          (pairs_below plan (length plan) c.loop-a.a) (pairs_with plan c.loop-a.a (length plan))
          rest.0 c.args.tries.now.left c.loop-a.tries.left rest.1 c.loop-a.invariant.closed
          c.loop-a.invariant.tries here.1,
    )

pub returns-in-Changed-clause-scan : goal.returns-in-Changed-clause-scan
returns-in-Changed-clause-scan c =
    let charge : ℕ → ℕ = charge_of c.args.charges.now in
    let plan = c.args.self.now.plan in
    let here = subst (λ (laid : Laid). IsScan (charge_of c.args.charges.now) laid
    c.scan_row.new.self (pairs_with laid.plan c.loop-a.a (length laid.plan))
    c.loop-a.tries.left c.scan_row.new.tries.left
    Changed) c.loop-a.invariant.kept c.in-Changed.ensures.scan in
    let rest = below-prefix plan (length plan) (length plan) (suc c.loop-a.a)
    (omega (arith, c.loop-a-test.true, c.len-a-end.ensures.plan)) in (
      here.0,
      tries-between charge c.args.self.now (pairs_of plan)
          (pairs_below plan (length plan) c.loop-a.a) (pairs_with plan c.loop-a.a (length plan))
          rest.0 c.args.tries.now.left c.loop-a.tries.left c.scan_row.new.tries.left rest.1
          c.loop-a.invariant.tries
          here.1,
    )

pub loop-a-preserved : goal.loop-a-preserved
loop-a-preserved c =
    let charge : ℕ → ℕ = charge_of c.args.charges.now in
    let here = subst (λ (laid : Laid). IsScan (charge_of c.args.charges.now) laid
    c.scan_row.new.self (pairs_with laid.plan c.loop-a.a (length laid.plan))
    c.loop-a.tries.left c.scan_row.new.tries.left
    Done) c.loop-a.invariant.kept c.in-Done.ensures.scan in
    let more = plan-more charge c.args.self.now c.loop-a.a c.args.tries.now.left c.loop-a.tries.left
    c.scan_row.new.tries.left c.loop-a.invariant.closed c.loop-a.invariant.tries here.1 here.2 in
    record {
      kept = here.0;
      closed = more.0;
      tries = more.1;
      times = subst (λ (laid : Laid). AreTimesOf (charge_of c.args.charges.now) laid
          c.scan_row.new.tries) here.0 c.in-Done.ensures.times;
    }
