-- Each legal plan of ranked orders has a twin in the tree, a leaf that loses the same: its
-- canonical form, sorted within classes.
use Rattle.std.proofs.Common.{ℕ, ◌≡◌, true, List, [], length, refl, ap, ◌∙◌, arith}
use Rattle.std.proofs.lemmas.List.{length-map}
use Rattle.mill_model.specs.Slab.{load, legal}
use Rattle.mill_model.specs.Plan.{slab, loss, IsLegalPlan}
use Rattle.mill_model.specs.Tree.{canonical}
use Rattle.mill_model.specs.Log.{Task}
use Rattle.mill_model.specs.declared.order.Order.{Order}
use Rattle.list_laws.proofs.Sums.{total-cong}
use Rattle.mill_laws.proofs.Canonical.{canonical-grows, canonical-fits, canonical-loss}
use Rattle.mill_laws.proofs.Canonical.{canonical-numbers}
use Rattle.mill_laws.proofs.Groups.{next_new-le}
use Rattle.mill_laws.proofs.Legal.{plan-long, plan-range, plan-fits}
use Rattle.mill_laws.proofs.Settle.{settle, settle-chosen, settle-length, settle-next_new}
use Rattle.mill_laws.proofs.Settle.{settle-grows, settle-rises, may-start, goes-from}
use Rattle.mill_laws.proofs.Paths.{Word}

pub twin : List Order → List ℕ → List ℕ
twin ranked plan = settle ranked (canonical plan)

module _ (task : Task) (plan : List ℕ) (is_legal : IsLegalPlan task.mill task.ranked plan) where
  pub twin-slab : (s : ℕ) →
      slab s (twin task.ranked plan) task.ranked ≡ slab s (canonical plan) task.ranked
  unfolding twin
  twin-slab s = settle-chosen s task.ranked (canonical plan)

  pub twin-fits : (s : ℕ) → legal task.mill (slab s (twin task.ranked plan) task.ranked) ≡ true
  twin-fits s =
      rw (twin-slab s) (canonical-fits plan task.ranked task.mill
      (plan-fits task.mill task.ranked plan is_legal) s)

  pub twin-word : Word task [] (twin task.ranked plan)
  unfolding twin
  twin-word =
      let form = canonical plan in
      let long = plan-long task.mill task.ranked plan is_legal in
      let all : length (settle task.ranked form) ≡ length task.ranked =
      settle-length task.ranked form ∙ length-map plan _ ∙ long in
      let numbers = next_new-le (length plan) form (canonical-numbers plan task.ranked) in
      record {
        long = omega arith;
        goes =
            goes-from task.mill task.ranked [] task.ranked (settle task.ranked form) refl all
            (may-start task.ranked [] (settle task.ranked form) refl)
            (settle-grows 0 task.ranked form (canonical-grows plan))
            (settle-rises task.ranked form) twin-fits;
        fits = twin-fits;
        numbers = omega (arith, settle-next_new task.ranked form, numbers, long);
      }

  pub twin-loss : task.charge 0 ≡ 0 →
      loss task.charge (twin task.ranked plan) task.ranked ≡ loss task.charge plan task.ranked
  twin-loss z =
      total-cong (length task.ranked) _ _ (λ s l. ap (λ g. task.charge (load g)) (twin-slab s))
      ∙ canonical-loss plan task.ranked task.charge z
      (plan-range task.mill task.ranked plan is_legal)
      (plan-long task.mill task.ranked plan is_legal)
