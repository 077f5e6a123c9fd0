-- What a closing makes of a worker.
use Rattle.std.proofs.Common.{ℕ, ◌≡◌, List, [], Option, Some, None, refl, sym, ◌∙◌, subst}
use Rattle.mill_model.specs.Charges.{ChargeTable}
use Rattle.order_symmetry.specs.Ranked.{RankedOrders}
use Rattle.search_step.specs.Decided.{Decides}
use Rattle.search_step.specs.Moves.{closed, committed, to, verdict}
use Rattle.search_step.specs.Parts.{Parts}
use Rattle.search_step.specs.Steps.{AreOf, BecomesOrStays, Closes, task_at}
use Rattle.search_step.specs.declared.parts.Phase.TheVariants.{Resting}
use Rattle.search_step.specs.declared.parts.Turn.{Turn}
use Rattle.search_step.specs.declared.parts.Turn.TheVariants.{Moved, OutOfMemory}
use Rattle.search_step.specs.declared.parts.Verdict.{Verdict}

module _ (ranked : RankedOrders) (charges : ChargeTable) (w w' : Parts) where
  pub closes-none : w.held ≡ None → w' ≡ to Resting w → Closes ranked charges w Moved w'
  closes-none none same = record {
    key = record { depth = 0; groups = [] };
    plan = [];
    are = λ _ path e. absurd (none-some path (sym none ∙ e));
    becomes =
        subst (λ (o : Option (List ℕ)). BecomesOrStays w w' Moved (closed (task_at ranked charges)
        (record { depth = 0; groups = [] }) [] w o)) (sym none) (same, refl);
  }
    where
      none-some : (path : List ℕ) → None ≡ Some path → ⊥
      none-some path e = cc

  pub closes-memory : w' ≡ w → Closes ranked charges w OutOfMemory w'
  closes-memory same = record {
    key = record { depth = 0; groups = [] };
    plan = [];
    are = λ no path e. absurd (no refl);
    becomes = same;
  }

  pub closes-decided : (path : List ℕ) (v : Verdict) (turn : Turn) → w.held ≡ Some path →
      Decides ranked charges w.known w.store path v →
      BecomesOrStays w w' turn (committed w w.held v) → Closes ranked charges w turn w'
  closes-decided path v turn held d b = record {
    key = d.key;
    plan = d.plan;
    are = λ _ p e. subst (λ (q : List ℕ). AreOf ranked charges w.known q d.key d.plan)
        (some-same p (sym held ∙ e)) d.are;
    becomes =
        let here : BecomesOrStays w w' turn (committed w (Some path) v) =
        subst (λ (o : Option (List ℕ)). BecomesOrStays w w' turn (committed w o v)) held b in
        let told : BecomesOrStays w w' turn (committed w (Some path)
        (verdict (task_at ranked charges) w.known w.store d.key d.plan path)) =
        subst (λ (u : Verdict). BecomesOrStays w w' turn (committed w (Some path) u)) d.is here in
        subst (λ (o : Option (List ℕ)). BecomesOrStays w w' turn
        (closed (task_at ranked charges) d.key d.plan w o)) (sym held) told;
  }
    where
      some-same : (p : List ℕ) → Some path ≡ Some p → path ≡ p
      some-same p e = cc
