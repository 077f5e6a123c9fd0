-- Scan after scan. A scan that changes a pair loses at least one less, and takes no more tries
-- than there are pairs of slabs; so the tries that are left fall by that many at most for each
-- unit of loss. The last scan finds all pairs closed, or spends the tries that are left.
use Rattle.std.proofs.Common.{◌≤◌, ◌+◌, ◌-◌, ◌*◌, ℕ, length, subst, sym, ap, ◌∙◌, arith}
use Rattle.mill_model.specs.Charges.{charge_of}
use Rattle.mill_model.specs.Pairs.{pairs_of}
use Rattle.large_moves.specs.Laid.{Laid, laid_loss}
use Rattle.large_moves.specs.Scans.{ClosesPairs}
use Rattle.large_moves.specs.declared.closed.Closed.TheVariants.{Yes, Spent}
use Rattle.large_moves.proofs.Scanned.{all-closed, closed-spent, pairs-few, tries-more, triangle}
use Rattle.large_moves.proofs.mover.Mover.close.Goals as goal

pub returns-in-Done-clause-moved : goal.returns-in-Done-clause-moved
returns-in-Done-clause-moved c =
    let charge : ℕ → ℕ = charge_of c.args.charges.now in
    let done = c.in-Done.ensures.scan in
    subst (λ (laid : Laid). ClosesPairs (charge_of c.args.charges.now) c.args.self.now
    laid c.args.tries.now.left Yes) (sym done.0)
    (all-closed charge c.args.self.now c.loop.self c.args.tries.now.left c.loop.invariant.no_more
    c.loop.invariant.kept done.1)

pub returns-in-Spent-clause-moved : goal.returns-in-Spent-clause-moved
returns-in-Spent-clause-moved c =
    let charge : ℕ → ℕ = charge_of c.args.charges.now in
    let spent = c.in-Spent.ensures.scan in
    subst (λ (laid : Laid). ClosesPairs (charge_of c.args.charges.now) c.args.self.now
    laid c.args.tries.now.left Spent) (sym spent.0)
    (closed-spent charge c.args.self.now c.loop.self c.args.tries.now.left
    c.loop.invariant.no_more c.loop.invariant.kept c.loop.tries.left c.loop.invariant.tries spent.1)

pub loop-preserved : goal.loop-preserved
loop-preserved c =
    let changed = c.in-Changed.ensures.scan in
    let same = c.in-Changed.ensures.same in
    let few : length (pairs_of c.loop.self.plan) ≤ triangle (length c.loop.self.orders) =
    subst (λ n. length (pairs_of c.loop.self.plan) ≤ triangle n) c.scan.ensures.each
    (pairs-few c.loop.self.plan) in
    let tries = tries-more c.args.tries.now.left c.loop.tries.left c.scan.new.tries.left
    (laid_loss (charge_of c.args.charges.now) c.args.self.now)
    (laid_loss (charge_of c.args.charges.now) c.loop.self)
    (laid_loss (charge_of c.args.charges.now) c.scan.new.self)
    (length c.loop.self.orders) (length (pairs_of c.loop.self.plan))
    c.loop.invariant.tries changed.1 few changed.0 c.loop.invariant.no_more in
    record {
      same = record {
        mill = same.mill ∙ c.loop.invariant.same.mill;
        orders = same.orders ∙ c.loop.invariant.same.orders;
      };
      no_more = omega (arith, changed.0, c.loop.invariant.no_more);
      kept = λ e. absurd (omega (arith, e, changed.0, c.loop.invariant.no_more));
      times = c.in-Changed.ensures.times;
      tries = subst (λ n. c.args.tries.now.left ≤ c.scan.new.tries.left
          + (laid_loss (charge_of c.args.charges.now) c.args.self.now
          - laid_loss (charge_of c.args.charges.now) c.scan.new.self) * triangle n)
          (sym (ap length same.orders)) tries;
    }
