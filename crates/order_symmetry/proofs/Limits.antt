-- Ranked orders are within the limits of their instance.
use Rattle.std.proofs.Common.{ℕ, zero, suc, ◌+◌, ◌<◌, ◌≤◌, ◌≡◌, List, [], ◌∷◌, map, length, get_or}
use Rattle.std.proofs.Common.{sym, ap, ◌∙◌, arith, subst}
use Rattle.std.proofs.lemmas.List.Elements.{recursion_from_All}
use Rattle.std.specs.List.{AllByRecursion}
use Rattle.mill_model.specs.Instance.{IsOrder, IsSize, largest}
use Rattle.mill_model.specs.Rank.{Placed, placed_from}
use Rattle.mill_model.specs.declared.order.Order.{Order}
use Rattle.mill_model.specs.declared.order.TheConstants.{MAX_ORDERS}
use Rattle.mill_laws.proofs.Ranked.{rank-length}
use Rattle.order_symmetry.specs.Numbered.{placed_of}
use Rattle.order_symmetry.specs.Ranked.{RankedOrders, IsRanked}
use Rattle.order_symmetry.specs.declared.numbered.Numbered.{Numbered}
use Rattle.order_symmetry.proofs.Ranks.{rank-each}

-- what holds of each placed order holds of the one at a rank
pub each-get : (P : Placed → Type 0) (items : List Numbered) →
    AllByRecursion P (map placed_of items) → (k : ℕ) (d : Numbered) → k < length items →
    P (placed_of (get_or items k d))
each-get P [] h k d l = absurd (omega arith)
each-get P (x ∷ items) h zero d l = h.0
each-get P (x ∷ items) h (suc k) d l = each-get P items h.1 k d (omega arith)

largest-most : (sizes : List ℕ) → AllByRecursion IsSize sizes → largest sizes ≤ 20000
largest-most [] h = omega arith
largest-most (size ∷ sizes) h =
    let most : largest sizes ≤ 20000 = largest-most sizes h.1 in
    let here : size ≤ 20000 = h.0.1 in
    omega arith

from-orders : (k : ℕ) (orders : List Order) → AllByRecursion IsOrder orders →
    AllByRecursion (λ x. IsOrder x.order) (placed_from k orders)
from-orders k [] h = tt
from-orders k (order ∷ orders) h = (h.0, from-orders (suc k) orders h.1)

from-places : (n k : ℕ) (orders : List Order) → k + length orders ≤ n →
    AllByRecursion (λ x. x.place < n) (placed_from k orders)
from-places n k [] l = tt
from-places n k (order ∷ orders) l = (omega arith, from-places n (suc k) orders (omega arith))

module _ (ranked : RankedOrders) (known : IsRanked ranked) where
  pub count : length ranked.placed ≡ length known.problem.orders
  count = ap length known.is.placed ∙ rank-length 0 known.problem.orders

  pub few : length ranked.placed ≤ MAX_ORDERS
  few = let n = known.kept.within.few_orders in omega (arith, count, n)

  pub largest-high : ranked.mill.largest ≤ 20000
  largest-high =
      let sizes = known.problem.sizes in
      let most : largest sizes ≤ 20000 =
      largest-most sizes (recursion_from_All IsSize sizes known.kept.within.each_size) in
      let is : ranked.mill.largest ≡ largest sizes = ap (λ mill. mill.largest) known.is.mill in
      omega arith

  pub each-order : AllByRecursion (λ x. IsOrder x.order) ranked.placed
  each-order =
      let orders = known.problem.orders in
      subst (λ xs. AllByRecursion (λ x. IsOrder x.order) xs) (sym known.is.placed)
      (rank-each (λ x. IsOrder x.order) 0 orders (from-orders 0 orders
      (recursion_from_All IsOrder orders known.kept.within.each_order)))

  pub each-home : AllByRecursion (λ x. x.place < length ranked.placed) ranked.placed
  each-home =
      let orders = known.problem.orders in
      subst (λ xs. AllByRecursion (λ x. x.place < length ranked.placed) xs) (sym known.is.placed)
      (rank-each (λ x. x.place < length ranked.placed) 0 orders
      (from-places (length ranked.placed) 0 orders (omega (arith, count))))
