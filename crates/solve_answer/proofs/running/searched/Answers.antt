-- The rank's mill is the problem's, so no order of the rank is too heavy for it.
use Rattle.std.proofs.Common.{◌≤◌}
use Rattle.mill_model.specs.Instance.{largest}
use Rattle.solve_answer.specs.Course.{Running}
use Rattle.solve_answer.proofs.PossibleStarts.{ranked-each}
use Rattle.solve_answer.proofs.Searched.{has-searched}
use Rattle.solve_answer.proofs.running.searched.Goals as goal

pub run_workers-requires-clause-light : goal.run_workers-requires-clause-light
run_workers-requires-clause-light g c lives within =
    let problem = c.args.instance.now in
    let rank = c.in_ok-beginning.ensures.beginning.ranked in
    rw (rank.placed, rank.mill) (ranked-each (λ order. order.weight ≤ largest problem.sizes)
    problem.orders c.requires.light)

pub run_workers-requires-clause-start : goal.run_workers-requires-clause-start
run_workers-requires-clause-start g c lives within = c.in_ok-beginning.ensures.beginning.begins

pub returns : goal.returns
returns g c =
    let beginning = c.in_ok-beginning.ensures.beginning in
    let made = c.in_ok-beginning.beginning in
    has-searched c.args.limits Running c.args.instance.now made.ranked made.charges made.start
    c.in_ok-run.run' beginning.ranked beginning.charged beginning.begins beginning.possible
    c.in_ok-run.ensures.run c.in_ok-run.ensures.thrifty c.in_ok-run.ensures.anew tt
