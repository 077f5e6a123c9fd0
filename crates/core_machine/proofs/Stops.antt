-- States at which workers may stop: the last state of a machine's run, and what is found there of a
-- least loss that is the loss of the best plan.
use Rattle.std.proofs.Common.{ℕ, ◌≤◌, ◌≡◌, inl, inr, true, List, ap, ◌∙◌, arith}
use Rattle.std.specs.List.{AllByRecursion}
use Rattle.mill_model.specs.Charges.{ChargeTable}
use Rattle.mill_model.specs.declared.plan.Start.{Start}
use Rattle.order_symmetry.specs.Ranked.{RankedOrders}
use Rattle.search_step.specs.Parts.{Parts}
use Rattle.core_machine.proofs.Bests.{best-among}
use Rattle.core_machine.proofs.Lists.{all-get}
use Rattle.core_machine.proofs.Promise.{calm-at-rest}
use Rattle.core_machine.specs.Core.{Core, no_worker, worker}
use Rattle.core_machine.specs.Ends.{is_calm}
use Rattle.core_machine.specs.Kept.{IsFound, IsLast, MayStop, best_of}
use Rattle.core_machine.specs.Steady.{EachWorker}

-- the last state of a run is one of them
pub last-stops : (ranked : RankedOrders) (charges : ChargeTable) (start budget before : ℕ)
    (owed : List (List ℕ)) (c : Core) → IsLast ranked charges start budget before owed c →
    MayStop ranked charges start budget before owed c
last-stops ranked charges start budget before owed c last = record {
  some = last.kept.steady.some;
  good = last.kept.good;
  found = last.kept.found;
  calm = last.ends.calm;
}

-- what is so of all workers in a list is so of each worker of a state
pub each-of-all : (P : Parts → Type 0) (c : Core) → AllByRecursion P c.workers →
    EachWorker c (λ i w. P w)
each-of-all P c all i l = all-get P c.workers i no_worker all l

-- The least loss is found where it is the loss of the best plan, and no worker that is calm knows a
-- lower one.
pub found-by-best : (first : Start) (c : Core) →
    AllByRecursion (λ w. is_calm w.phase ≡ true) c.workers →
    AllByRecursion (λ w. c.shared.least ≤ w.known) c.workers →
    c.shared.least ≡ (best_of first c.workers).loss → IsFound first.loss c
found-by-best first c calm known best = record {
  each = λ i l. record {
    known = λ still. all-get (λ w. c.shared.least ≤ w.known) c.workers i no_worker known l;
    publishes = λ now.
        absurd ((calm-at-rest (worker c i).phase
        (all-get (λ w. is_calm w.phase ≡ true) c.workers i no_worker calm l)).1 now);
  };
  plan = elim (best-among first c.workers) [
    | inl is_first ↦ inl (best ∙ ap (λ (s : Start). s.loss) is_first)
    | inr (number, there, keeps) ↦ inr (record {
      number = number;
      there = there;
      plan = best_of first c.workers;
      keeps = keeps;
      at_most = omega (arith, best);
    })
  ];
}
