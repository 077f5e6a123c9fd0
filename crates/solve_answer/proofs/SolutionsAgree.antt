-- Right answers to a problem agree: it has a heavy order, or none; and a best plan loses no more
-- than any other.
use Rattle.std.proofs.Common.{ℕ, ◌≤◌, List, sym, ap, ◌∙◌, subst, arith}
use Rattle.mill_model.specs.Best.{IsTidyPlan, IsBest}
use Rattle.mill_model.specs.Instance.{Problem, mill_of, loss_charge}
use Rattle.mill_model.specs.declared.limits.Limits.{Limits}
use Rattle.answer_text.specs.declared.answer.Answer.{Answer}
use Rattle.answer_text.specs.declared.answer.Answer.TheVariants.{Optimal, Feasible, Infeasible}
use Rattle.instance_facts.proofs.HeavyOnce.{heavy-once, heavy-or-none}
use Rattle.solve_answer.specs.Solved.{IsSolution, AgreeOnAnswers}

-- a best plan loses no more than another one
none-better : (problem : Problem) (loss : ℕ) (plan : List ℕ) (other : ℕ) (slabs : List ℕ) →
    IsBest (mill_of problem) (loss_charge problem.sizes) problem.orders
    (record { plan = plan; loss = loss }) →
    IsTidyPlan (mill_of problem) (loss_charge problem.sizes) problem.orders
    (record { plan = slabs; loss = other }) → loss ≤ other
none-better problem loss plan other slabs best found =
    subst (λ n. loss ≤ n) found.found.loses (best.least slabs found.found.legal)

-- solutions agree
pub solutions-agree : (limits : Limits) (problem : Problem) (a b : Answer) →
    IsSolution limits problem a → IsSolution limits problem b → AgreeOnAnswers a b
solutions-agree limits problem (Infeasible a) (Infeasible b) h k =
    ap Infeasible (heavy-once problem a b h k)
solutions-agree limits problem (Infeasible a) (Optimal loss plan log) h k =
    absurd (heavy-or-none problem a h k.0)
solutions-agree limits problem (Infeasible a) (Feasible loss plan spent) h k =
    absurd (heavy-or-none problem a h k.0)
solutions-agree limits problem (Optimal loss plan log) (Infeasible b) h k =
    absurd (heavy-or-none problem b k h.0)
solutions-agree limits problem (Optimal loss plan log) (Optimal other slabs entries) h k =
    let one = none-better problem loss plan other slabs h.1 k.1.found in
    let two = none-better problem other slabs loss plan k.1 h.1.found in
    omega arith
solutions-agree limits problem (Optimal loss plan log) (Feasible other slabs spent) h k =
    none-better problem loss plan other slabs h.1 k.1.feasible.found
solutions-agree limits problem (Feasible loss plan spent) (Infeasible b) h k =
    absurd (heavy-or-none problem b k h.0)
solutions-agree limits problem (Feasible loss plan spent) (Optimal other slabs entries) h k =
    none-better problem other slabs loss plan k.1 h.1.feasible.found
solutions-agree limits problem (Feasible loss plan spent) (Feasible other slabs closed) h k =
    h.1.feasible.whole_budget ∙ sym k.1.feasible.whole_budget
