use Rattle.solve_answer.specs.Course.{Scheduled}
use Rattle.solve_answer.proofs.Answered.{infeasible-told, told-fits}
use Rattle.solve_answer.proofs.scheduled.solution_of.Goals as goal

pub answer_of-requires-clause-searched : goal.answer_of-requires-clause-searched
answer_of-requires-clause-searched c =
    (Scheduled c.args.schedule.now, c.in_ok-run.ensures)

pub returns-in-Some-clause-is : goal.returns-in-Some-clause-is
returns-in-Some-clause-is c =
    rw c.infeasible.ensures (infeasible-told c.args.limits (Scheduled c.args.schedule.now)
    c.args.instance.now c.in-Some.order c.in-Some.ensures.kept c.in-Some.ensures.first)

pub returns-in-Some-clause-told : goal.returns-in-Some-clause-told
returns-in-Some-clause-told c =
    told-fits c.args.limits (Scheduled c.args.schedule.now) c.args.instance.now _
    c.in-Some.ensures.kept (returns-in-Some-clause-is c)

pub returns-clause-is : goal.returns-clause-is
returns-clause-is c =
    c.in_ok-solution.ensures.is (Scheduled c.args.schedule.now) c.in_ok-run.ensures

pub returns-clause-log : goal.returns-clause-log
returns-clause-log c =
    c.in_ok-solution.ensures.log (Scheduled c.args.schedule.now) c.in_ok-run.ensures
