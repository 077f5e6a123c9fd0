-- What a plan loses is within the limit of an answer's text, and so are its numbers.
use Rattle.std.proofs.Common.{◌≡◌, ℕ, zero, suc, ◌*◌, ◌<◌, ◌≤◌, Bool, true, false, cond, ltb, List}
use Rattle.std.proofs.Common.{[], ◌∷◌, length, max, leb, eqb, arith, eqb-true, ltb-true}
use Rattle.std.specs.Prelude.{All, Option, Some, IfSome}
use Rattle.std.specs.List.{list_all}
use Rattle.list_laws.specs.Sets.{total}
use Rattle.mill_model.specs.Best.{IsTidyPlan}
use Rattle.mill_model.specs.Slab.{load}
use Rattle.mill_model.specs.Instance.{Problem, IsInstance, largest, loss_charge}
use Rattle.mill_model.specs.Instance.{excess, size_for, mill_of}
use Rattle.mill_model.specs.Plan.{slab, loss, IsLegalPlan}
use Rattle.mill_model.proofs.Sizes.{largest-small}
use Rattle.mill_model.specs.declared.limits.TheConstants.{MAX_NODES}
use Rattle.list_laws.proofs.Tests.{and-left, and-right}
use Rattle.refute_log.specs.Logged.{Logged}
use Rattle.answer_text.specs.declared.answer.Answer.TheVariants.{Optimal, Feasible}
use Rattle.answer_text.specs.Text.{Fits}

-- numbers below the number of orders, each of them
numbers-below : (n : ℕ) (plan : List ℕ) → list_all (λ s. ltb s n) plan ≡ true →
    All (λ s. s < n) plan
numbers-below n [] below = λ k d inside. absurd (omega arith)
numbers-below n (s ∷ plan) below =
    at (ltb-true s n (and-left (ltb s n) _ below))
    (numbers-below n plan (and-right (ltb s n) _ below))
  where
    at : s < n → All (λ t. t < n) plan → All (λ t. t < n) (s ∷ plan)
    at first later zero d inside = first
    at first later (suc k) d inside = later k d (omega arith)

-- The sizes are within their limit, so a charge is, and the loss of a plan.

excess-limit : (sizes : List ℕ) (load : ℕ) → excess load (size_for sizes load) ≤ largest sizes
excess-limit [] load = omega arith
excess-limit (size ∷ sizes) load =
    step (leb load size) (excess-limit sizes load)
  where
    step : (b : Bool) → excess load (size_for sizes load) ≤ largest sizes →
        excess load (cond b (Some size) (size_for sizes load)) ≤ max size (largest sizes)
    step true later = omega arith
    step false later = omega arith

charge-limit : (sizes : List ℕ) (load : ℕ) → loss_charge sizes load ≤ largest sizes
charge-limit sizes load = step (eqb load 0) (excess-limit sizes load)
  where
    step : (b : Bool) → excess load (size_for sizes load) ≤ largest sizes →
        cond b 0 (excess load (size_for sizes load)) ≤ largest sizes
    step true limit = omega arith
    step false limit = limit

total-limit : (n : ℕ) (f : ℕ → ℕ) → ((s : ℕ) → f s ≤ 20000) → total n f ≤ n * 20000
total-limit zero f each = omega arith
total-limit (suc n) f each =
    let here = each n in let before = total-limit n f each in omega arith

pub loss-limit : (problem : Problem) (plan : List ℕ) → IsInstance problem →
    loss (loss_charge problem.sizes) plan problem.orders ≤ 1000000000000
loss-limit problem plan instance =
    let few = instance.within.few_orders in
    let all = total-limit (length problem.orders)
    (λ s. loss_charge problem.sizes (load (slab s plan problem.orders)))
    (λ s. charge-at (load (slab s plan problem.orders))) in
    omega arith
  where
    charge-at : (l : ℕ) → loss_charge problem.sizes l ≤ 20000
    charge-at l =
        let sizes = largest-small problem.sizes instance.within.each_size in
        let charge = charge-limit problem.sizes l in
        omega arith

-- so the numbers of an answer with a tidy plan are within the limits of its text
pub numbers-told : (problem : Problem) (plan : List ℕ) →
    IsLegalPlan (mill_of problem) problem.orders plan →
    (length plan ≡ length problem.orders) × All (λ s. s < length problem.orders) plan
numbers-told problem plan fine =
    let each = fine.each in (
      eqb-true (length plan) (length problem.orders)
          (and-left (eqb (length plan) (length problem.orders)) _ each),
      numbers-below (length problem.orders) plan
          (and-right (eqb (length plan) (length problem.orders)) _ each),
    )

pub optimal-fits : (problem : Problem) (plan : List ℕ) (lost : ℕ) (log : Option Logged) →
    IsInstance problem → IsTidyPlan (mill_of problem) (loss_charge problem.sizes) problem.orders
    (record { plan = plan; loss = lost }) →
    IfSome log (λ log. log.orders ≡ length problem.orders) →
    Fits (length problem.orders) (Optimal lost plan log)
optimal-fits problem plan lost log instance found orders =
    let limit = loss-limit problem plan instance in
    let loses = found.found.loses in
    record {
      numbers = (tt, (omega arith, (numbers-told problem plan found.found.legal, tt)));
      refutation = orders;
    }

pub feasible-fits : (problem : Problem) (plan : List ℕ) (lost spent : ℕ) → IsInstance problem →
    IsTidyPlan (mill_of problem) (loss_charge problem.sizes) problem.orders
    (record { plan = plan; loss = lost }) → spent ≤ MAX_NODES →
    Fits (length problem.orders) (Feasible lost plan spent)
feasible-fits problem plan lost spent instance found few =
    let limit = loss-limit problem plan instance in
    let loses = found.found.loses in
    record {
      numbers = (tt, (omega arith, (numbers-told problem plan found.found.legal, (few, tt))));
      refutation = tt;
    }
