-- What a walk over the orders by colour promises of those of the file.
use Rattle.std.proofs.Common.{ℕ, ◌<◌, ◌≤◌, ◌≡◌, List, [], ◌∷◌, length, get_or, sym, ap, ◌∙◌}
use Rattle.std.proofs.Common.{arith, subst}
use Rattle.std.proofs.lemmas.List.{length-map}
use Rattle.std.proofs.lemmas.List.Sorted.{All-permutation}
use Rattle.mill_model.specs.Instance.{AreSizesOf, IsOrder, IsSize, IsWithin, largest}
use Rattle.mill_model.specs.Plan.{IsPlanWithLoss}
use Rattle.mill_model.specs.Rank.{rank}
use Rattle.mill_model.specs.Slab.{Mill}
use Rattle.mill_model.specs.declared.order.Order.{Order}
use Rattle.mill_model.specs.declared.plan.Start.{Start}
use Rattle.mill_model.proofs.RisingLists.{same_sizes}
use Rattle.order_symmetry.specs.Ranked.{RankedOrders, IsRanked}
use Rattle.large_moves.specs.Coloured.{orders_of, plan_of, IsByColour}
use Rattle.large_moves.specs.Moved.{IsNoWorse}
use Rattle.large_moves.specs.declared.coloured.Coloured.{Coloured}
use Rattle.large_moves.proofs.FileOrders.{by-rank, count, same-orders, same-loss, legal-in-file}

-- the largest of one size is this size
pub one-size : (size : ℕ) (sizes : List ℕ) → AreSizesOf (size ∷ []) sizes → largest sizes ≡ size
one-size size sizes h =
    let alone : AreSizesOf (size ∷ []) (size ∷ []) = record {
      rise = λ k l. absurd (omega arith);
      kept = λ n e. e;
      only = λ n e. e;
    } in
    ap largest (same_sizes (size ∷ []) sizes (size ∷ []) h alone) ∙ omega arith

-- ranked orders by colour, with the largest size alone, are within the limits
module _ (ranked : RankedOrders) (known : IsRanked ranked) (coloured : List Coloured)
    (by : IsByColour ranked.placed coloured) where
  pub within : (size p : ℕ) → IsSize size → 1 ≤ p → p ≤ 8 →
      IsWithin (size ∷ []) 0 (orders_of coloured) p
  within size p is_size low high = record {
    some_size = omega arith;
    few_sizes = omega arith;
    each_size = λ k d l. subst (λ (i : ℕ). IsSize (get_or (size ∷ []) i d))
        (let e : 0 ≡ k = omega (arith, l) in e) is_size;
    stated_limit = omega arith;
    few_orders =
        let few = known.kept.within.few_orders in
        let n = length-map coloured (λ c. c.order) in
        let m = count known.problem.orders coloured (by-rank ranked known coloured by) in
        omega (arith, few, n, m);
    each_order = All-permutation IsOrder known.problem.orders (orders_of coloured)
        (same-orders ranked known coloured by) known.kept.within.each_order;
    p_low = low;
    p_high = high;
  }

module _ (mill : Mill) (charge : ℕ → ℕ) (orders : List Order) where
  pub stays : (start : Start) → IsPlanWithLoss mill charge orders start.plan start.loss →
      IsNoWorse mill charge orders start start
  stays start h = record { start = h; no_more = omega arith }

  -- a plan of the orders by colour that loses less
  pub walked : (coloured : List Coloured) → IsByColour (rank orders) coloured →
      (before after : Start) → length after.plan ≡ length orders →
      IsPlanWithLoss mill charge (orders_of coloured) (plan_of coloured after.plan) after.loss →
      after.loss < before.loss → IsNoWorse mill charge orders before after
  walked coloured by before after long found less = record {
    start = record {
      legal = legal-in-file orders coloured by after.plan long mill found.legal;
      loses = sym (same-loss orders coloured by after.plan long mill charge) ∙ found.loses;
    };
    no_more = omega arith;
  }
