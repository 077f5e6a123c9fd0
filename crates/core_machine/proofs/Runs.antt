-- What each event keeps, a schedule, a round and rounds keep.
use Rattle.std.proofs.Common.{ℕ, zero, suc, ◌<◌, ◌≤◌, ◌≡◌, Bool, true, false, List, [], ◌∷◌, ◌++◌}
use Rattle.std.proofs.Common.{length, refl, sym, ap, ◌∙◌, subst, arith, length-set}
use Rattle.std.specs.List.{AllByRecursion}
use Rattle.mill_model.specs.Charges.{ChargeTable}
use Rattle.order_symmetry.specs.Ranked.{RankedOrders}
use Rattle.core_machine.specs.Core.{Core, event, after_schedule, round, whole_round, Rounds}
use Rattle.core_machine.specs.Core.{Last, More}

module _ (ranked : RankedOrders) (charges : ChargeTable) (budget : ℕ) where
  pub event-count : (c : Core) (i : ℕ) →
      length (event ranked charges budget c i).0.workers ≡ length c.workers
  event-count c i = length-set c.workers i _

  pub round-count : (c : Core) (k : ℕ) →
      length (round ranked charges budget c k).0.workers ≡ length c.workers
  round-count c zero = refl
  round-count c (suc k) =
      event-count (round ranked charges budget c k).0 k ∙ round-count c k

  pub schedule-count : (c : Core) (schedule : List ℕ) →
      length (after_schedule ranked charges budget c schedule).workers ≡ length c.workers
  schedule-count c [] = refl
  schedule-count c (i ∷ schedule) =
      schedule-count (event ranked charges budget c i).0 schedule ∙ event-count c i

  pub rounds-count : (c d : Core) → Rounds ranked charges budget c d →
      length d.workers ≡ length c.workers
  rounds-count c d (Last _ _ e) =
      ap (λ (r : Core × Bool). length r.0.workers) (sym e) ∙ round-count c (length c.workers)
  rounds-count c d (More _ m _ e r) =
      rounds-count m d r ∙ ap (λ (r : Core × Bool). length r.0.workers) (sym e)
      ∙ round-count c (length c.workers)

  -- each number of a schedule is that of a worker
  abbrev pub Numbers : Core → List ℕ → Type 0
  Numbers c schedule = AllByRecursion (λ (i : ℕ). i < length c.workers) schedule

  module _ (P : Core → Type 0)
      (kept : (c : Core) (i : ℕ) → i < length c.workers → P c →
      P (event ranked charges budget c i).0) where
    pub schedule-keeps : (c : Core) (schedule : List ℕ) → Numbers c schedule → P c →
        P (after_schedule ranked charges budget c schedule)
    schedule-keeps c [] a p = p
    schedule-keeps c (i ∷ schedule) a p =
        schedule-keeps (event ranked charges budget c i).0 schedule
        (subst (λ k. AllByRecursion (λ (j : ℕ). j < k) schedule) (sym (event-count c i)) a.1)
        (kept c i a.0 p)

    pub round-keeps : (c : Core) (k : ℕ) → k ≤ length c.workers → P c →
        P (round ranked charges budget c k).0
    round-keeps c zero l p = p
    round-keeps c (suc k) l p =
        kept (round ranked charges budget c k).0 k
        (let n : length (round ranked charges budget c k).0.workers ≡ length c.workers =
        round-count c k in omega arith) (round-keeps c k (omega arith) p)

    pub whole-round-keeps : (c d : Core) (stopped : Bool) →
        whole_round ranked charges budget c ≡ (d, stopped) → P c → P d
    whole-round-keeps c d stopped e p =
        subst P (ap (λ (r : Core × Bool). r.0) e) (round-keeps c (length c.workers) (omega arith) p)

    pub rounds-keep : (c d : Core) → Rounds ranked charges budget c d → P c → P d
    rounds-keep c d (Last _ _ e) p = whole-round-keeps c d true e p
    rounds-keep c d (More _ m _ e r) p = rounds-keep m d r (whole-round-keeps c m false e p)

  -- one more event of a schedule
  pub schedule-more : (c : Core) (schedule : List ℕ) (i : ℕ) →
      after_schedule ranked charges budget c (schedule ++ i ∷ [])
      ≡ (event ranked charges budget (after_schedule ranked charges budget c schedule) i).0
  schedule-more c [] i = refl
  schedule-more c (j ∷ schedule) i =
      schedule-more (event ranked charges budget c j).0 schedule i
