-- What a search leaves of a problem's tree. It goes by ranked orders and a table of charges; as
-- these are the problem's, all is said of the problem.
use Rattle.std.proofs.Common.{◌≡◌, ℕ, ◌≤◌, List, true, length, ap, ◌∙◌, map, subst, arith}
use Rattle.mill_model.specs.Best.{IsStartOf}
use Rattle.mill_model.specs.Charges.{ChargeTable, charge_of}
use Rattle.mill_model.specs.Conserved.{joined, IsConserved}
use Rattle.mill_model.specs.Instance.{Problem, mill_of, loss_charge}
use Rattle.mill_model.specs.Log.{Task, sound}
use Rattle.mill_model.specs.Pairs.{IsPossibleStart, IsStartBound}
use Rattle.mill_model.specs.Plan.{IsPlanWithLoss}
use Rattle.mill_model.specs.Slab.{Mill}
use Rattle.mill_model.specs.Thrift.{AreThrifty}
use Rattle.mill_model.specs.declared.limits.Limits.{Limits}
use Rattle.mill_model.specs.declared.order.Order.{Order}
use Rattle.mill_model.specs.declared.plan.Start.{Start}
use Rattle.mill_laws.specs.RunLaws.{EachRecord}
use Rattle.mill_laws.proofs.Ranked.{rank-length}
use Rattle.mill_laws.proofs.StartBound.{start-bound}
use Rattle.loss_table.specs.Charges.{AreCharges}
use Rattle.instance_facts.proofs.Charged.{table-is-charge}
use Rattle.order_symmetry.specs.Ranked.{RankedOrders, IsRankOf, orders_of}
use Rattle.refute_log.specs.Fits.{fits}
use Rattle.refute_log.specs.declared.piece.Run.{Run}
use Rattle.search_step.specs.Honest.{IsKept}
use Rattle.search_step.specs.Promise.{records_of, IsRun, IsThrifty, EachSplitsAnew}
use Rattle.search_step.specs.Steps.{task_at}
use Rattle.solve_answer.specs.Course.{Course}
use Rattle.solve_answer.specs.Searched.{loss_task, OfStartBound, IsLeftOf, IsOfASearch}
use Rattle.solve_answer.specs.Search.{HasSearched}
use Rattle.solve_answer.proofs.Thrift.{thrifty-more}

-- what the records are judged by is the problem's
task-is : (problem : Problem) (ranked : RankedOrders) (charges : ChargeTable) →
    IsRankOf problem ranked → AreCharges problem charges →
    task_at ranked charges ≡ loss_task problem
task-is problem ranked charges rank table =
    let make : Mill → (ℕ → ℕ) → List Order → Task = λ mill charge orders. record {
      mill = mill;
      charge = charge;
      ranked = orders;
    } in
    ap (λ mill. make mill (charge_of charges) (orders_of ranked)) rank.mill
    ∙ ap (λ charge. make (mill_of problem) charge (orders_of ranked))
    (table-is-charge problem charges table)
    ∙ ap (λ placed. make (mill_of problem) (loss_charge problem.sizes)
    (map (λ it. it.order) placed)) rank.placed

module _ (limits : Limits) (course : Course) (problem : Problem) (ranked : RankedOrders)
    (charges : ChargeTable) (start : Start) (run : Run) (rank : IsRankOf problem ranked)
    (table : AreCharges problem charges) (begins : IsKept ranked charges start)
    (possible : IsPossibleStart (mill_of problem) (loss_charge problem.sizes) problem.orders
    limits.moves start.plan) (is : IsRun ranked charges start.loss limits.nodes run)
    (thrifty : IsThrifty ranked charges start.loss run)
    (anew : EachSplitsAnew ranked charges (records_of run))
    (left : IsLeftOf course ranked charges limits start.loss run) where
  same-task : task_at ranked charges ≡ loss_task problem
  same-task = task-is problem ranked charges rank table

  same-charge : ◌≡◌ {A = ℕ → ℕ} (charge_of charges) (loss_charge problem.sizes)
  same-charge = table-is-charge problem charges table

  bound : (most : ℕ)
      × IsStartBound (mill_of problem) (loss_charge problem.sizes) problem.orders limits.moves most
  bound =
      start-bound (mill_of problem) (loss_charge problem.sizes) problem.orders limits.moves
      start.plan possible

  -- a plan that is legal by the rank and the table is so by the problem
  of-problem : (plan : List ℕ) (lost : ℕ) →
      IsPlanWithLoss ranked.mill (charge_of charges) problem.orders plan lost →
      IsPlanWithLoss (mill_of problem) (loss_charge problem.sizes) problem.orders plan lost
  of-problem plan lost by-rank =
      subst (λ charge. IsPlanWithLoss (mill_of problem) charge problem.orders plan lost)
      same-charge
      (subst (λ mill. IsPlanWithLoss mill (charge_of charges) problem.orders plan lost) rank.mill
      by-rank)

  -- the start loses no more than the bound, as it is possible
  start-legal : IsStartOf problem (loss_charge problem.sizes) start
  start-legal = of-problem start.plan start.loss (begins.plan problem.orders rank.placed)

  start-within : start.loss ≤ bound.0
  start-within =
      let lost = start-legal.loses in
      let most = bound.1.greatest start.plan possible in
      omega (arith, lost, most)

  of-bound : (IsSo : ℕ → Type 0) → IsSo bound.0 → OfStartBound problem limits.moves IsSo
  of-bound IsSo so = record { bound = bound.0; is_bound = bound.1; so = so }

  of-a-search : IsOfASearch limits course problem run
  of-a-search = record {
    ranked = ranked;
    charges = charges;
    loss = start.loss;
    begins = record {
      rank = rank;
      table = table;
      plan = start.plan;
      legal = start-legal;
      at_most = of-bound (λ most. start.loss ≤ most) start-within;
    };
    left = left;
    anew = anew;
  }

  run-plan : IsStartOf problem (loss_charge problem.sizes)
      (record { plan = run.plan; loss = run.loss })
  run-plan = of-problem run.plan run.loss (is.plan problem.orders rank.placed)

  pub has-searched : HasSearched limits course problem run
  has-searched = record {
    conserved = subst (λ task. IsConserved task (records_of run) run.unclosed.items) same-task
        is.conserved;
    each_sound = subst (λ (task : Task). EachRecord (records_of run)
        (λ entry. sound task run.loss entry.path entry.closing ≡ true)) same-task is.each_sound;
    fit = subst (λ n. EachRecord (records_of run) (λ entry. fits n entry ≡ true)) count is.fit;
    plan = run-plan;
    at_most = of-bound (λ most. run.loss ≤ most) (let no-more = is.at_most in
        omega (arith, no-more, start-within));
    thrifty = of-bound (λ most. AreThrifty (loss_task problem) most (joined (records_of run)))
        (thrifty-more (loss_task problem) start.loss bound.0 (joined (records_of run)) start-within
        (subst (λ task. AreThrifty task start.loss (joined (records_of run))) same-task
        thrifty.thrifty));
    count = is.count;
    left = is.left;
    of_a_search = of-a-search;
  }
    where
      count : length ranked.placed ≡ length problem.orders
      count = ap length rank.placed ∙ rank-length 0 problem.orders
