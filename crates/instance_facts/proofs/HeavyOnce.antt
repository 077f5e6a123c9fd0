-- The first order that no slab holds is one, and where there is one not all orders are light.
use Rattle.std.proofs.Common.{◌≡◌, ℕ, ◌<◌, length, take, get_or}
use Rattle.std.proofs.Common.{refl, ap, ◌∙◌, arith, inl, inr}
use Rattle.std.specs.Prelude.{Option, Some, None}
use Rattle.std.proofs.lemmas.Bool.{cases_order}
use Rattle.std.proofs.lemmas.List.{get_or-take, length-take}
use Rattle.std.proofs.lemmas.Option.{get_or_from_slice_get, slice_get_within}
use Rattle.mill_model.specs.Instance.{Problem, largest}
use Rattle.mill_model.specs.declared.order.Order.{Order}
use Rattle.mill_model.specs.Heavy.{NoneHeavy, IsFirstHeavy, IsFirstHeavyIfAny}

-- an order that is too heavy isn't among light ones
heavy-outside : (problem : Problem) (place n : ℕ) → IsFirstHeavy problem place → place < n →
    NoneHeavy (largest problem.sizes) (take n problem.orders) → ⊥
heavy-outside problem place n first below light =
    let orders = problem.orders in
    let inside = slice_get_within orders place first.order first.here in
    let count : place < length (take n orders) = omega (arith, length-take n orders) in
    let order : get_or (take n orders) place first.order ≡ first.order =
    get_or-take n orders place first.order below
    ∙ get_or_from_slice_get orders place first.order first.order first.here in
    let weight = ap (λ (order : Order). order.weight) order in
    let here = light place first.order count in
    let heavy = first.heavy in
    omega arith

-- of two first ones none comes before the other
pub heavy-once : (problem : Problem) (a b : ℕ) → IsFirstHeavy problem a →
    IsFirstHeavy problem b → a ≡ b
heavy-once problem a b first second = elim (cases_order a b) [
  | inl same ↦ same
  | inr rest ↦ elim rest [
    | inl less ↦ absurd (heavy-outside problem a b first less second.before)
    | inr more ↦ absurd (heavy-outside problem b a second more first.before)
  ]
]

-- an order is too heavy, or none is
pub heavy-or-none : (problem : Problem) (place : ℕ) → IsFirstHeavy problem place →
    NoneHeavy (largest problem.sizes) problem.orders → ⊥
heavy-or-none problem place first light =
    let orders = problem.orders in
    let inside = slice_get_within orders place first.order first.here in
    let order = get_or_from_slice_get orders place first.order first.order first.here in
    let weight = ap (λ (order : Order). order.weight) order in
    let here = light place first.order inside in
    let heavy = first.heavy in
    omega arith

pub any-once : (problem : Problem) (a b : Option ℕ) → IsFirstHeavyIfAny problem a →
    IsFirstHeavyIfAny problem b → a ≡ b
any-once problem None None first second = refl
any-once problem None (Some b) first second = absurd (heavy-or-none problem b second first)
any-once problem (Some a) None first second = absurd (heavy-or-none problem a first second)
any-once problem (Some a) (Some b) first second = ap Some (heavy-once problem a b first second)
