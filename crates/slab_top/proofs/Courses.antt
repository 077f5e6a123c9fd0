-- The course that a job's workers take, by their number.
use Rattle.std.proofs.Common.{◌≡◌, ◌<◌, List, [], refl, arith}
use Rattle.std.proofs.lemmas.Bool.{lt-ltb, le-ltb}
use Rattle.mill_model.specs.declared.limits.Limits.{Limits}
use Rattle.solve_answer.specs.Course.{Course, Scheduled, Running}
use Rattle.slab_top.specs.Threads.{course_of}

pub more-run : (limits : Limits) → 1 < limits.workers → course_of limits ≡ Running
more-run limits more = rw (lt-ltb 1 limits.workers more) refl

pub one-takes-turns : (limits : Limits) → (1 < limits.workers → ⊥) →
    course_of limits ≡ Scheduled []
one-takes-turns limits alone =
    rw (le-ltb 1 limits.workers (omega (arith, alone))) refl
