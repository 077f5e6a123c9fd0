-- The instance that is made has no heavy order, so its search has an ending.
use Rattle.std.proofs.Common.{◌≡◌, refl, subst}
use Rattle.mill_model.specs.Heavy.{NoneHeavy}
use Rattle.mill_model.specs.Instance.{largest}
use Rattle.mill_model.specs.Slab.{load}
use Rattle.job_words.specs.declared.option.Setting.TheVariants.{Workers, Nodes, Colours, Orders}
use Rattle.solve_answer.specs.Solved.{IsSolved}
use Rattle.slab_top.specs.Threads.{course_of}
use Rattle.slab_top.proofs.Drilling.{has-ending}
use Rattle.slab_top.proofs.commands.drill.serve.Goals as goal

pub drill_instance-requires : goal.drill_instance-requires
drill_instance-requires g c = record {
  few = (c.requires.in_range Orders).1;
  low = (c.requires.in_range Colours).0;
  high = (c.requires.in_range Colours).1;
}

pub solve-requires-clause-some : goal.solve-requires-clause-some
solve-requires-clause-some g c = (c.requires.in_range Workers).0

pub solve-requires-clause-few : goal.solve-requires-clause-few
solve-requires-clause-few g c = (c.requires.in_range Workers).1

pub solve-requires-clause-nodes : goal.solve-requires-clause-nodes
solve-requires-clause-nodes g c = (c.requires.in_range Nodes).1

pub ending_of-requires : goal.ending_of-requires
ending_of-requires g c =
    has-ending c.args.job.limits (course_of c.args.job.limits) c.in_ok-instance.instance
    c.in_ok-solution.solution c.in_ok-instance.ensures.light c.in_ok-solution.ensures.is.told

pub returns-clause-drills : goal.returns-clause-drills
returns-clause-drills g c = (
  _,
  refl,
  record {
    seed = refl;
    orders = refl;
    weight = subst (λ problem. c.whole_weight-weight.result ≡ load problem.orders)
        c.in_ok-instance.ensures.made c.whole_weight-weight.ensures.weight;
    solution = c.in_ok-solution.solution;
    solved = subst (λ problem. IsSolved c.args.job.limits (course_of c.args.job.limits) problem
        c.in_ok-solution.solution) c.in_ok-instance.ensures.made c.in_ok-solution.ensures.is;
    ending = c.ending_of.ensures;
  },
)
