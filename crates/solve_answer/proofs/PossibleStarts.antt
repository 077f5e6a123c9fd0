-- A plan that moves leave is a possible start. Its first pairs are closed, as many as the moves are
-- sure to reach by what these moves gained; and the more was gained before them, the fewer need be.
use Rattle.std.proofs.Common.{ℕ, suc, ◌-◌, ◌≤◌, List, [], ◌∷◌, length}
use Rattle.std.proofs.Common.{arith}
use Rattle.std.specs.Prelude.{All}
use Rattle.std.specs.List.{AllByRecursion}
use Rattle.std.proofs.lemmas.List.Elements.{All-map, All-from_recursion}
use Rattle.std.proofs.lemmas.List.Elements.{recursion_from_All}
use Rattle.mill_model.specs.Pairs.{IsPossibleStart}
use Rattle.mill_model.specs.Plan.{loss}
use Rattle.mill_model.specs.Rank.{placed_from, rank, ranked_orders}
use Rattle.mill_model.specs.Slab.{Mill}
use Rattle.mill_model.specs.Starts.{best_start_loss}
use Rattle.mill_model.specs.declared.order.Order.{Order}
use Rattle.mill_model.specs.declared.plan.Start.{Start}
use Rattle.large_moves.specs.Moved.{IsNoWorse, HasClosed}
use Rattle.large_moves.specs.declared.closed.Closed.{Closed}
use Rattle.large_moves.proofs.MovesPromise.{fewer-closed, fewer-tries}
use Rattle.order_symmetry.proofs.Ranks.{rank-each}

module _ (mill : Mill) (charge : ℕ → ℕ) (orders : List Order) (moves : ℕ) where
  pub moved-is-possible : (before after : Start) (closed : Closed) →
      before.loss ≤ best_start_loss mill charge (ranked_orders orders) →
      IsNoWorse mill charge orders before after →
      HasClosed mill charge orders moves before after closed →
      IsPossibleStart mill charge orders moves after.plan
  moved-is-possible before after closed greedy no_worse has_closed =
      let loses = no_worse.start.loses in
      let no_more = no_worse.no_more in
      let most : ℕ = best_start_loss mill charge (ranked_orders orders) in
      record {
        is_legal = no_worse.start.legal;
        at_most = omega (arith, loses, no_more, greedy);
        closed = fewer-closed mill charge orders after.plan _ _ (fewer-tries moves (before.loss -
            after.loss)
            (most - loss charge after.plan orders) (length orders)
            (omega (arith, loses, no_more, greedy))) has_closed.first;
      }

-- what holds of each order holds of each in rank
placed-each : (P : Order → Type 0) (place : ℕ) (orders : List Order) → AllByRecursion P orders →
    AllByRecursion (λ x. P x.order) (placed_from place orders)
placed-each P place [] each = tt
placed-each P place (order ∷ orders) each = (each.0, placed-each P (suc place) orders each.1)

pub ranked-each : (P : Order → Type 0) (orders : List Order) → All P orders →
    All P (ranked_orders orders)
ranked-each P orders each =
    All-map P (λ placed. placed.order) (rank orders)
    (All-from_recursion (λ x. P x.order) (rank orders) (rank-each (λ x. P x.order) 0 orders
    (placed-each P 0 orders (recursion_from_All P orders each))))
