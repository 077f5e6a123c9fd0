-- With a log or without, in threads or on one: each answers what the search asks for.
use Rattle.slab_top.proofs.Courses.{more-run}
use Rattle.slab_top.proofs.RightAnswers.{proved-rightly, solved-rightly, turns-where-one}
use Rattle.slab_top.proofs.top.run_search.Goals as goal

pub returns-in-true-true : goal.returns-in-true-true
returns-in-true-true g c =
    proved-rightly c.args.search c.prove_running.result c.prove_running.ensures.told _
    c.in-true-true.is-0 (more-run c.args.search.limits c.in-true-true.is-1)
    c.prove_running.ensures.is

pub returns-in-true-false : goal.returns-in-true-false
returns-in-true-false g c =
    proved-rightly c.args.search c.prove.result c.prove.ensures.told _ c.in-true-false.is-0
    (turns-where-one c.args.search.limits c.in-true-false.is-1) c.prove.ensures.is

pub returns-in-false-true : goal.returns-in-false-true
returns-in-false-true g c =
    solved-rightly c.args.search c.solve_running.result c.solve_running.ensures.told _
    c.in-false-true.is-0 (more-run c.args.search.limits c.in-false-true.is-1)
    c.solve_running.ensures.is

pub returns : goal.returns
returns g c =
    solved-rightly c.args.search c.solve.result c.solve.ensures.told _ c.in-false-false.is-0
    (turns-where-one c.args.search.limits c.in-false-false.is-1) c.solve.ensures.is
