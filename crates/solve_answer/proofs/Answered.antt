-- What is answered where a search ended: a best plan with its log, if it is asked for, where no
-- path is left, and else the plan that was found, with the run.
use Rattle.std.proofs.Common.{◌≡◌, ◌≢◌, ℕ, ◌<◌, ◌≤◌, true, All, List, [], length, refl}
use Rattle.std.proofs.Common.{◌∙◌, ◌∷◌, ap, subst, arith}
use Rattle.std.specs.Prelude.{Option, Some, None, IfSome}
use Rattle.std.specs.List.{AllByRecursion}
use Rattle.std.specs.List.Sorted.{IsPermutation}
use Rattle.std.proofs.lemmas.List.Elements.{All-from_recursion, recursion_from_All}
use Rattle.std.proofs.lemmas.List.Sorted.{All-permutation, length_permutation}
use Rattle.std.proofs.lemmas.Option.{slice_get_within}
use Rattle.mill_model.specs.Best.{IsTidyPlan}
use Rattle.mill_model.specs.Charges.{ChargeTable}
use Rattle.mill_model.specs.Conserved.{joined, IsConserved}
use Rattle.mill_model.specs.Heavy.{NoneHeavy, IsFirstHeavy}
use Rattle.mill_model.specs.Instance.{Problem, IsInstance, largest, mill_of, loss_charge}
use Rattle.mill_model.specs.Log.{sound}
use Rattle.mill_model.specs.Plan.{NoneLosesLess}
use Rattle.mill_model.specs.Size.{enough, may_split, thrifty_size}
use Rattle.mill_model.specs.Thrift.{splits_thriftily}
use Rattle.mill_model.specs.Tree.{canonical}
use Rattle.mill_model.specs.declared.closing.Entry.{Entry}
use Rattle.mill_model.specs.declared.limits.Limits.{Limits}
use Rattle.mill_model.specs.declared.limits.TheConstants.{MAX_NODES}
use Rattle.mill_laws.proofs.LogLaws.{refuted-loss-bounds}
use Rattle.mill_laws.proofs.Merged.{each-joined}
use Rattle.mill_laws.proofs.PlanLaws.{canonical-form-is-legal, canonical-form-is-its-own}
use Rattle.mill_laws.proofs.PlanLaws.{canonical-form-loses-the-same}
use Rattle.mill_laws.proofs.Ranked.{ranked-count}
use Rattle.mill_laws.proofs.RunLaws.{pieces-refute}
use Rattle.mill_laws.proofs.TreeLaws.{tree-has-at-most}
use Rattle.order_symmetry.specs.Ranked.{RankedOrders}
use Rattle.refute_log.specs.Fits.{fits}
use Rattle.refute_log.specs.Logged.{Logged, IsLog}
use Rattle.refute_log.specs.declared.piece.Run.{Run}
use Rattle.answer_text.specs.Text.{Fits, most_orders}
use Rattle.answer_text.specs.declared.answer.Answer.TheVariants.{Optimal, Feasible, Infeasible}
use Rattle.answer_text.proofs.Printed.{may-print, read-back}
use Rattle.reply_text.specs.declared.solution.Solution.{Solution}
use Rattle.search_step.specs.Promise.{records_of}
use Rattle.piece_merge.specs.Merging.{IsCompleteLogOf, NamesSettledPaths}
use Rattle.solve_answer.specs.Course.{Course, Scheduled, Running}
use Rattle.solve_answer.specs.Searched.{loss_task, ArePiecesOf, IsLeftOf, HasStopped}
use Rattle.solve_answer.specs.Solved.{IsSpent, IsRefutation, IsTold}
use Rattle.solve_answer.specs.Search.{HasSearched}
use Rattle.solve_answer.proofs.LossLimit.{optimal-fits, feasible-fits}
use Rattle.solve_answer.proofs.Thrift.{below-thrifty-tree}

-- a list is empty by its length
pub none-by-length : {X : Type 0} (xs : List X) → length xs ≡ 0 → xs ≡ []
none-by-length [] count = refl
none-by-length (x ∷ xs) count = absurd (omega (arith, count))

pub some-by-length : {X : Type 0} (xs : List X) → 0 < length xs → xs ≢ []
some-by-length xs some none = omega (arith, some, ap length none)

-- the records of a run are those of the pieces of its search
left-pieces : (limits : Limits) (course : Course) (ranked : RankedOrders) (charges : ChargeTable)
    (loss : ℕ) (run : Run) → IsLeftOf course ranked charges limits loss run →
    ArePiecesOf course ranked charges limits loss (records_of run)
left-pieces limits (Scheduled schedule) ranked charges loss run left =
    (left.last, left.is, left.pieces)
left-pieces limits Running ranked charges loss run left = tt

module _ (limits : Limits) (course : Course) (problem : Problem) (run : Run)
    (has : HasSearched limits course problem run) where
  abbrev records : List Entry
  records = joined (records_of run)

  -- the plan that was found is told in canonical form
  run-tidy : IsTidyPlan (mill_of problem) (loss_charge problem.sizes) problem.orders
      (record { plan = canonical run.plan; loss = run.loss })
  run-tidy = record {
    found = record {
      legal = canonical-form-is-legal (mill_of problem) problem.orders run.plan has.plan.legal;
      loses = canonical-form-loses-the-same (mill_of problem) (loss_charge problem.sizes)
          problem.orders run.plan refl has.plan.legal ∙ has.plan.loses;
    };
    tidy = canonical-form-is-its-own run.plan;
  }

  pub records-fit : All (λ entry. fits (length problem.orders) entry ≡ true) records
  records-fit =
      All-from_recursion (λ entry. fits (length problem.orders) entry ≡ true) records
      (each-joined (λ entry. fits (length problem.orders) entry ≡ true) (records_of run) has.fit)

  -- ---- a path is left

  module _ (some : run.unclosed.items ≢ []) where
    -- each ticket within the budget is a record
    whole-budget : length records ≡ limits.nodes
    whole-budget =
        let count = has.count in let more = has.left some in omega arith

    below-tree : limits.nodes < thrifty_size (loss_task problem) has.thrifty.bound
    below-tree =
        omega (
          arith,
          whole-budget,
          below-thrifty-tree (loss_task problem) run.loss has.thrifty.bound (records_of run)
              run.unclosed.items has.conserved has.each_sound has.thrifty.so some,
        )

    below-enough : limits.nodes < enough (length problem.orders)
    below-enough =
        omega (
          arith,
          below-tree,
          subst (λ n. thrifty_size (loss_task problem) has.thrifty.bound ≤ enough n)
              (ranked-count problem.orders)
              (tree-has-at-most (loss_task problem)
              (may_split (loss_task problem) has.thrifty.bound)),
        )

    run-stopped : HasStopped limits course problem run.loss (canonical run.plan) run
    run-stopped = record {
      conserved = has.conserved;
      each_sound = has.each_sound;
      loses = refl;
      same_slabs = refl;
      count = whole-budget;
      left = some;
      thrifty = has.thrifty;
      of_a_search = has.of_a_search;
    }

    is-spent : IsSpent limits problem run.loss (canonical run.plan) limits.nodes
    is-spent = record {
      feasible = record {
        found = run-tidy;
        start_bound = has.at_most.bound;
        is_bound = has.at_most.is_bound;
        no_worse = has.at_most.so;
        whole_budget = refl;
        small_budget = below-enough;
      };
      below_tree = record {
        bound = has.thrifty.bound;
        is_bound = has.thrifty.is_bound;
        so = below-tree;
      };
    }

    pub stopped-told : IsInstance problem →
        NoneHeavy (largest problem.sizes) problem.orders → limits.nodes ≤ MAX_NODES →
        IsTold limits course problem (record {
          answer = Feasible run.loss (canonical run.plan) limits.nodes;
          run = Some run;
        })
    stopped-told instance light few = record {
      solution = (light, is-spent);
      reads_back = read-back (length problem.orders)
          (Feasible run.loss (canonical run.plan) limits.nodes) _ refl tt
          instance.within.few_orders
          (feasible-fits problem (canonical run.plan) run.loss limits.nodes instance run-tidy few);
      run = run-stopped;
    }

  -- ---- no path is left

  module _ (none : run.unclosed.items ≡ []) where
    pub whole : IsConserved (loss_task problem) (records_of run) []
    whole =
        subst (λ paths. IsConserved (loss_task problem) (records_of run) paths) none has.conserved

    least : NoneLosesLess (mill_of problem) (loss_charge problem.sizes) problem.orders run.loss
    least =
        refuted-loss-bounds (mill_of problem) (loss_charge problem.sizes) problem.orders run.loss
        records refl (pieces-refute (loss_task problem) run.loss (records_of run) whole
        has.each_sound)

    pub best-told : IsInstance problem → NoneHeavy (largest problem.sizes) problem.orders →
        (log : Option Logged) → IfSome log (λ log. log.orders ≡ length problem.orders) →
        IfSome log IsLog →
        IsTold limits course problem (record {
          answer = Optimal run.loss (canonical run.plan) log;
          run = None;
        })
    best-told instance light log orders is = record {
      solution = (light, record { found = run-tidy; least = least });
      reads_back = read-back (length problem.orders)
          (Optimal run.loss (canonical run.plan) log) _ refl is instance.within.few_orders
          (optimal-fits problem (canonical run.plan) run.loss log instance run-tidy orders);
      run = refl;
    }

    -- what holds of each record holds in the log
    each-moved : (P : Entry → Type 0) (log : List Entry) → IsPermutation records log →
        AllByRecursion P records → AllByRecursion P log
    each-moved P log moved each =
        recursion_from_All P log
        (All-permutation P records log moved (All-from_recursion P records each))

    pub log-refutes : (log : List Entry) → IsPermutation records log →
        IsCompleteLogOf (records_of run) log → NamesSettledPaths log →
        IsRefutation limits course problem run.loss log
    log-refutes log moved complete named =
        let count = has.count in
        record {
          refutes = record {
            complete = complete.complete (loss_task problem) whole;
            each_sound = each-moved (λ entry. sound (loss_task problem) run.loss entry.path
                entry.closing ≡ true) log moved
                (each-joined (λ entry. sound (loss_task problem) run.loss entry.path
                entry.closing ≡ true) (records_of run) has.each_sound);
            each_named = named;
          };
          few = omega (arith, length_permutation records log moved, count);
          thrifty = record {
            bound = has.thrifty.bound;
            is_bound = has.thrifty.is_bound;
            so = each-moved (λ entry. splits_thriftily (loss_task problem) has.thrifty.bound
                entry.path entry.closing ≡ true) log moved has.thrifty.so;
          };
          of_a_search = record {
            ranked = has.of_a_search.ranked;
            charges = has.of_a_search.charges;
            loss = has.of_a_search.loss;
            begins = has.of_a_search.begins;
            pieces = records_of run;
            are = left-pieces limits course has.of_a_search.ranked has.of_a_search.charges
                has.of_a_search.loss run has.of_a_search.left;
            records = moved;
            anew = has.of_a_search.anew;
          };
        }

-- An answer without a plan names the first order that is too heavy.
pub infeasible-told : (limits : Limits) (course : Course) (problem : Problem) (place : ℕ) →
    IsInstance problem → IsFirstHeavy problem place →
    IsTold limits course problem (record { answer = Infeasible place; run = None })
infeasible-told limits course problem place instance first =
    let inside = slice_get_within problem.orders place first.order first.here in
    record {
      solution = first;
      reads_back = read-back (length problem.orders) (Infeasible place) _ refl tt
          instance.within.few_orders
          (record { numbers = (tt, (inside, tt)); refutation = tt });
      run = refl;
    }

-- what is told can be printed
pub told-fits : (limits : Limits) (course : Course) (problem : Problem) (told : Solution) →
    IsInstance problem → IsTold limits course problem told →
    Fits (most_orders told.answer) told.answer
told-fits limits course problem told instance is =
    may-print (length problem.orders) told.answer instance.within.few_orders is.reads_back.fits
