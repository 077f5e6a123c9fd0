-- A row: the pairs of one slab with those from it on. The pairs before b are closed, and each took
-- at most one try; so where the tries are spent, or a pair changes, at b, the pairs before it and
-- the rest after it are put round that one pair.
use Rattle.std.proofs.Common.{ℕ, suc, length, arith, subst, sym, refl}
use Rattle.mill_model.specs.Charges.{charge_of}
use Rattle.mill_model.specs.Pairs.{pairs_with, pair_at}
use Rattle.large_moves.specs.Laid.{Laid}
use Rattle.large_moves.specs.Scans.{IsScan, AreClosed, AreTimesOf}
use Rattle.large_moves.specs.declared.scan.Scan.TheVariants.{Done, Spent, Changed}
use Rattle.large_moves.proofs.Scanned.{spent-between, tries-between, with-prefix, row-more}
use Rattle.large_moves.proofs.Scanned.{unused-row, low-row}
use Rattle.large_moves.proofs.Timed.{row-times}
use Rattle.large_moves.proofs.mover.Mover.scan_row.Goals as goal

pub returns-then-not-is_used-clause-scan : goal.returns-then-not-is_used-clause-scan
returns-then-not-is_used-clause-scan c =
    let none = unused-row c.args.self.now.plan c.args.a (length c.args.self.now.plan)
    (sym c.if-not-is_used.ensures) in (
      refl,
      subst (λ pairs. AreClosed (charge_of c.args.charges.now) c.args.self.now pairs)
          (sym none) refl,
      omega arith,
    )

pub loop-b-init : goal.loop-b-init
loop-b-init c =
    let none = low-row c.args.self.now.plan c.args.a c.args.a (omega arith) in
    record {
      kept = refl;
      closed = subst (λ pairs. AreClosed (charge_of c.args.charges.now)
          c.args.self.now pairs) (sym none) refl;
      tries = omega arith;
      times = c.requires.times;
    }

pub returns-in-Spent-clause-scan : goal.returns-in-Spent-clause-scan
returns-in-Spent-clause-scan c =
    let charge : ℕ → ℕ = charge_of c.args.charges.now in
    let plan = c.args.self.now.plan in
    let here = subst (λ (laid : Laid). IsScan (charge_of c.args.charges.now) laid
    c.scan_pair.new.self (pair_at laid.plan c.args.a c.loop-b.b)
    c.loop-b.tries.left c.scan_pair.new.tries.left
    Spent)
    c.loop-b.invariant.kept c.in-Spent.ensures.scan in
    let rest = with-prefix plan c.args.a (length plan) (suc c.loop-b.b)
    (omega (arith, c.loop-b-test.true, c.len-b-end.ensures.plan)) in (
      here.0,
      spent-between charge c.args.self.now (pairs_with plan c.args.a (length plan))
          (pairs_with plan c.args.a c.loop-b.b) (pair_at plan c.args.a c.loop-b.b) rest.0
          c.args.tries.now.left c.loop-b.tries.left rest.1 c.loop-b.invariant.closed
          c.loop-b.invariant.tries
          here.1,
    )

pub returns-in-Changed-clause-scan : goal.returns-in-Changed-clause-scan
returns-in-Changed-clause-scan c =
    let charge : ℕ → ℕ = charge_of c.args.charges.now in
    let plan = c.args.self.now.plan in
    let here = subst (λ (laid : Laid). IsScan (charge_of c.args.charges.now) laid
    c.scan_pair.new.self (pair_at laid.plan c.args.a c.loop-b.b)
    c.loop-b.tries.left c.scan_pair.new.tries.left
    Changed) c.loop-b.invariant.kept c.in-Changed.ensures.scan in
    let rest = with-prefix plan c.args.a (length plan) (suc c.loop-b.b)
    (omega (arith, c.loop-b-test.true, c.len-b-end.ensures.plan)) in (
      here.0,
      tries-between charge c.args.self.now (pairs_with plan c.args.a (length plan))
          (pairs_with plan c.args.a c.loop-b.b) (pair_at plan c.args.a c.loop-b.b) rest.0
          c.args.tries.now.left c.loop-b.tries.left c.scan_pair.new.tries.left rest.1
          c.loop-b.invariant.tries here.1,
    )

pub loop-b-preserved : goal.loop-b-preserved
loop-b-preserved c =
    let charge : ℕ → ℕ = charge_of c.args.charges.now in
    let here = subst (λ (laid : Laid). IsScan (charge_of c.args.charges.now) laid
    c.scan_pair.new.self (pair_at laid.plan c.args.a c.loop-b.b)
    c.loop-b.tries.left c.scan_pair.new.tries.left
    Done) c.loop-b.invariant.kept c.in-Done.ensures.scan in
    let more = row-more charge c.args.self.now c.args.a c.loop-b.b c.args.tries.now.left
    c.loop-b.tries.left
    c.scan_pair.new.tries.left c.loop-b.invariant.closed c.loop-b.invariant.tries here.1 here.2 in
    record {
      kept = here.0;
      closed = more.0;
      tries = more.1;
      times = subst (λ (laid : Laid). AreTimesOf (charge_of c.args.charges.now) laid
          c.scan_pair.new.tries) here.0 c.in-Done.ensures.times;
    }

pub returns-clause-times : goal.returns-clause-times
returns-clause-times c =
    subst (λ (laid : Laid). AreTimesOf (charge_of c.args.charges.now) laid c.close_row.new.self)
    (sym c.loop-b.invariant.kept)
    (row-times (charge_of c.args.charges.now) c.args.self.now c.loop-b.tries c.close_row.new.self
    c.loop-b.invariant.times c.args.a c.loop-b.b
    (omega (arith, c.loop-b-test.false, c.len-b-end.ensures.orders)) c.loop-b.invariant.closed
    c.close_row.ensures.changed c.close_row.ensures.rows)
