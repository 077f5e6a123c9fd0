-- Plans with as many slabs of each kind, and numbers that do not fall within a class.
use Rattle.std.specs.Prelude.{ℕ, suc, ◌<◌, ◌≤◌, ◌≡◌, Bool, true, false, cond, ◌&&◌, List, [], ◌∷◌}
use Rattle.std.specs.Prelude.{map, length, eqb, slice_index}
use Rattle.std.specs.List.{list_all}
use Rattle.std.specs.List.Sorted.{IsPermutation, IsSortedBy}
use Rattle.list_laws.specs.Sets.{holds, total}
use Rattle.mill_model.specs.Slab.{load}
use Rattle.mill_model.specs.Plan.{slab, numbers_each}
use Rattle.mill_model.specs.Rank.{ranked_orders, plan_in_rank, starts_class_in}
use Rattle.mill_model.specs.Tree.{canonical}
use Rattle.mill_model.specs.declared.order.Order.{Order}
use Rattle.order_symmetry.specs.Numbered.{stands_before}
use Rattle.order_symmetry.specs.declared.numbered.Numbered.{Numbered}

-- whether some orders have this load and just these colours
abbrev pub looks_like : ℕ → List ℕ → List Order → Bool
looks_like weight colours orders =
    eqb (load orders) weight
    && (list_all (λ colour. holds colour colours) (map (λ order. order.colour) orders)
    && list_all (λ colour. holds colour (map (λ order. order.colour) orders)) colours)

-- how many used slabs of a plan have this load and just these colours
abbrev pub slabs_like : ℕ → List ℕ → List Order → List ℕ → ℕ
slabs_like weight colours orders plan =
    total (length orders) (λ s. cond (holds s plan && looks_like weight colours
    (slab s plan orders)) 1 0)

-- within a class of ranked orders no number falls
abbrev pub RiseInClasses : List Order → List ℕ → Type 0
RiseInClasses ranked numbers =
    (k : ℕ) → suc k < length numbers → starts_class_in (suc k) ranked ≡ false →
    slice_index numbers k ≤ slice_index numbers (suc k)

-- a plan with as many slabs of each load and colour set as another, whose canonical form in rank
-- does not fall within a class
pub record IsSortedTwin (orders : List Order) (plan twin : List ℕ) : Type 0 where
  pub each : numbers_each twin orders ≡ true
  pub rise : RiseInClasses (ranked_orders orders) (canonical (plan_in_rank orders twin))
  pub alike : (weight : ℕ) (colours : List ℕ) → slabs_like weight colours orders twin ≡ slabs_like
      weight colours orders plan

-- orders with their numbers, as far as both go
abbrev pub numbered_by : List Order → List ℕ → List Numbered
numbered_by [] numbers = []
numbered_by (order ∷ orders) [] = []
numbered_by (order ∷ orders) (number ∷ numbers) =
    record { order = order; number = number } ∷ numbered_by orders numbers

-- the same numbers of ranked orders, sorted within each class
pub record SortsWithinClasses (ranked : List Order) (numbers sorted : List ℕ) : Type 0 where
  pub long : length sorted ≡ length numbers
  pub same : IsPermutation (numbered_by ranked numbers) (numbered_by ranked sorted)
  pub rise : IsSortedBy stands_before (numbered_by ranked sorted)
