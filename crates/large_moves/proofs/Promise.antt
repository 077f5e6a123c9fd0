-- What a run of scans promises of the file's orders.
use Rattle.std.proofs.Common.{ℕ, ◌-◌, ◌≡◌, true, List, length, take, sym, ap, ◌∙◌, arith}
use Rattle.std.proofs.Common.{subst, refl}
use Rattle.mill_model.specs.Pairs.{all_closed, pairs_of, sure_tries}
use Rattle.mill_model.specs.Plan.{loss, IsLegalPlan, IsPlanWithLoss}
use Rattle.mill_model.specs.Rank.{rank}
use Rattle.mill_model.specs.Slab.{Mill}
use Rattle.mill_model.specs.declared.order.Order.{Order}
use Rattle.mill_model.specs.declared.plan.Start.{Start}
use Rattle.std.proofs.lemmas.List.{length-map}
use Rattle.large_moves.specs.Coloured.{orders_of, plan_of, IsByColour}
use Rattle.large_moves.specs.Laid.{Laid, SameOrders, laid_loss}
use Rattle.large_moves.specs.Moved.{IsNoWorse, HasClosed}
use Rattle.large_moves.specs.Scans.{ClosesPairs}
use Rattle.large_moves.specs.declared.closed.Closed.{Closed}
use Rattle.large_moves.specs.declared.coloured.Coloured.{Coloured}
use Rattle.large_moves.proofs.FileOrders.{count, same-loss, same-pairs, legal-here, legal-in-file}
use Rattle.large_moves.proofs.FileOrders.{closed-in-file}

-- orders by colour on the slabs that a plan of the file's orders gives them
abbrev pub laid_of : Mill → List Coloured → List ℕ → Laid
laid_of mill coloured plan =
    record { mill = mill; orders = orders_of coloured; plan = plan_of coloured plan }

module _ (mill : Mill) (charge : ℕ → ℕ) (orders : List Order) (coloured : List Coloured)
    (by : IsByColour (rank orders) coloured) (moves : ℕ) (before after : Start) (closed : Closed)
    (long_before : length before.plan ≡ length orders)
    (long_after : length after.plan ≡ length orders) where
  moved : IsPlanWithLoss mill charge orders before.plan before.loss →
      IsLegalPlan mill (orders_of coloured) (plan_of coloured after.plan) →
      after.loss ≡ loss charge (plan_of coloured after.plan) (orders_of coloured) →
      ClosesPairs charge (laid_of mill coloured before.plan) (laid_of mill coloured after.plan)
      moves
      closed →
      IsNoWorse mill charge orders before after
      × HasClosed mill charge orders moves before after closed
  moved start is_legal loses ends =
      let loss_before : loss charge (plan_of coloured before.plan) (orders_of coloured)
      ≡ before.loss =
      same-loss orders coloured by before.plan long_before mill charge ∙ start.loses in
      let pairs = same-pairs orders coloured by after.plan long_after in
      let number : length (orders_of coloured) ≡ length orders =
      length-map coloured (λ c. c.order) ∙ count orders coloured by in
      let tries : sure_tries moves (loss charge (plan_of coloured before.plan) (orders_of coloured)
      - loss charge (plan_of coloured after.plan) (orders_of coloured))
      (length (orders_of coloured))
      ≡ sure_tries moves (before.loss - after.loss) (length orders) =
      rw (loss_before, ← loses, number) refl in
      let no_more = ends.no_more in (
        record {
          start = record {
            legal = legal-in-file orders coloured by after.plan long_after mill is_legal;
            loses = sym (loses ∙ same-loss orders coloured by after.plan long_after mill charge);
          };
          no_more = omega (arith, no_more, loss_before, loses);
        },
        record {
          first = closed-in-file orders coloured by after.plan long_after mill charge _
              (subst (λ r. all_closed mill charge (orders_of coloured)
              (plan_of coloured after.plan) (take r (pairs_of after.plan)) ≡ true) tries
              (subst (λ pairs. all_closed mill charge (orders_of coloured)
              (plan_of coloured after.plan) (take (sure_tries moves
              (loss charge (plan_of coloured before.plan) (orders_of coloured)
              - loss charge (plan_of coloured after.plan) (orders_of coloured))
              (length (orders_of coloured))) pairs) ≡ true) pairs ends.first));
          all = λ e. closed-in-file orders coloured by after.plan long_after mill charge _
              (subst (λ pairs. all_closed mill charge (orders_of coloured)
              (plan_of coloured after.plan) pairs ≡ true) pairs (ends.all e));
          spent = λ e. (let s = ends.spent e in
              let l : length (pairs_of (plan_of coloured after.plan))
              ≡ length (pairs_of after.plan) = ap length pairs in
              omega (arith, s, l, tries));
        },
      )

  -- a run of scans that began at the first plan and ended at the second
  pub moved-in-file : (old new : Laid) → old ≡ laid_of mill coloured before.plan →
      IsPlanWithLoss mill charge orders before.plan before.loss →
      ClosesPairs charge old new moves closed → SameOrders old new →
      new.plan ≡ plan_of coloured after.plan → IsLegalPlan new.mill new.orders new.plan →
      after.loss ≡ laid_loss charge new →
      IsNoWorse mill charge orders before after
      × HasClosed mill charge orders moves before after closed
  moved-in-file old new begins start ends same plan_is is_legal loses = moved start
      (subst (λ (laid : Laid). IsLegalPlan laid.mill laid.orders laid.plan) new_is is_legal)
      (loses ∙ ap (λ (laid : Laid). laid_loss charge laid) new_is)
      (subst (λ laid. ClosesPairs charge (laid_of mill coloured before.plan) laid moves closed)
      new_is
      (subst (λ laid. ClosesPairs charge laid new moves closed) begins ends))
    where
      mill_is : new.mill ≡ mill
      mill_is = same.mill ∙ ap (λ (laid : Laid). laid.mill) begins

      orders_is : new.orders ≡ orders_of coloured
      orders_is = same.orders ∙ ap (λ (laid : Laid). laid.orders) begins

      new_is : new ≡ laid_of mill coloured after.plan
      new_is = λ i. record { mill = mill_is i; orders = orders_is i; plan = plan_is i }

-- a run of scans that gained nothing: it ended where it began
pub unmoved-in-file : (mill : Mill) (charge : ℕ → ℕ) (orders : List Order)
    (coloured : List Coloured) → IsByColour (rank orders) coloured → (moves : ℕ) (start : Start)
    (closed : Closed) → length start.plan ≡ length orders → (old new : Laid) →
    old ≡ laid_of mill coloured start.plan → IsPlanWithLoss mill charge orders start.plan start.loss
    →
    ClosesPairs charge old new moves closed → SameOrders old new →
    start.loss ≡ laid_loss charge new → HasClosed mill charge orders moves start start closed
unmoved-in-file mill charge orders coloured by moves start closed long old new begins known ends
    same loses = (moved-in-file mill charge orders coloured by moves start start closed long long
    old
    new begins known ends same (ap (λ (laid : Laid). laid.plan) new_is)
    (subst (λ (laid : Laid). IsLegalPlan laid.mill laid.orders laid.plan) (sym new_is)
    (legal-here orders coloured by start.plan long mill known.legal)) loses).1
  where
    old_loses : laid_loss charge old ≡ start.loss
    old_loses = ap (λ (laid : Laid). laid_loss charge laid) begins
        ∙ same-loss orders coloured by start.plan long mill charge ∙ known.loses

    new_is : new ≡ laid_of mill coloured start.plan
    new_is = ends.kept (sym loses ∙ sym old_loses) ∙ begins

-- orders and a plan by other names
pub laid-from : (mill : Mill) (coloured given : List Coloured) (plan slabs : List ℕ) →
    given ≡ coloured → slabs ≡ plan → laid_of mill given slabs ≡ laid_of mill coloured plan
laid-from mill coloured given plan slabs e f = λ i. record {
  mill = mill;
  orders = orders_of (e i);
  plan = plan_of (e i) (f i);
}
