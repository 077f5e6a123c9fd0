-- Orders that are sorted by colour have those of each colour together.
use Rattle.std.proofs.Common.{ℕ, suc, ◌+◌, ◌<◌, ◌≤◌, ◌≡◌, Bool, true, false, List, [], ◌∷◌, length}
use Rattle.std.proofs.Common.{get_or, eqb, refl, arith, inl, inr, ltb-false, ne_eqb, subst, ◌||◌}
use Rattle.std.specs.List.Sorted.{IsSortedBy}
use Rattle.list_laws.specs.Sets.{holds}
use Rattle.mill_model.specs.declared.order.Order.{Order}
use Rattle.list_laws.proofs.Tests.{either}
use Rattle.pair_split.specs.Splits.{grouped, colours_in}
use Rattle.large_moves.specs.Coloured.{orders_of, has_lower_colour}
use Rattle.large_moves.specs.declared.coloured.Coloured.{Coloured}

-- colours that do not fall, from a first one on
abbrev Rise : ℕ → List Order → Type 0
Rise c [] = Unit {0}
Rise c (order ∷ orders) = (c ≤ order.colour) × Rise order.colour orders

lower-lacks : (c d : ℕ) (orders : List Order) → c < d → Rise d orders →
    holds c (colours_in orders) ≡ false
lower-lacks c d [] l r = refl
lower-lacks c d (order ∷ orders) l r =
    let below : d ≤ order.colour = r.0 in
    let e : eqb c order.colour ≡ false =
    ne_eqb c order.colour (λ q. absurd (omega (arith, q, l, below))) in
    rw e (lower-lacks c order.colour orders (omega (arith, l, below)) r.1)

rise-grouped : (c : ℕ) (orders : List Order) → Rise c orders → grouped orders ≡ true
rise-grouped c [] r = refl
rise-grouped c (order ∷ []) r = rw (or-true (eqb order.colour 0)) refl
  where
    or-true : (b : Bool) → (b || true) ≡ true
    or-true true = refl
    or-true false = refl
rise-grouped c (order ∷ next ∷ orders) r =
    let rest : grouped (next ∷ orders) ≡ true =
    rise-grouped order.colour (next ∷ orders) r.1 in
    elim (either (eqb order.colour next.colour)) [
      | inl e ↦ rw e rest
      | inr e ↦ (let low : order.colour ≤ next.colour = r.1.0 in
          let l : order.colour < next.colour = strict order.colour next.colour low e in
          let n = lower-lacks order.colour next.colour orders l r.1.1 in
          rw (e, n) rest)
    ]
  where
    strict : (a b : ℕ) → a ≤ b → eqb a b ≡ false → a < b
    strict a b l e = grind arith

sorted-rise : (c : ℕ) (coloured : List Coloured) → IsSortedBy has_lower_colour coloured →
    ((d : Coloured) → 0 < length coloured → c ≤ (get_or coloured 0 d).order.colour) →
    Rise c (orders_of coloured)
sorted-rise c [] s h = tt
sorted-rise c (x ∷ coloured) s h = (
  h x (omega arith),
  sorted-rise x.order.colour coloured
      (λ k d l m. (let e : suc k + 1 ≡ suc (k + 1) = omega arith in
      subst (λ n. has_lower_colour (get_or (x ∷ coloured) n d) (get_or coloured k d) ≡ false)
      e (s (suc k) d (omega arith) (omega (arith, m)))))
      (λ d l. ltb-false _ _ (s 0 d (omega arith) (omega (arith, l)))),
)

pub sorted-grouped : (coloured : List Coloured) → IsSortedBy has_lower_colour coloured →
    grouped (orders_of coloured) ≡ true
sorted-grouped coloured s =
    rise-grouped 0 (orders_of coloured) (sorted-rise 0 coloured s (λ d l. omega arith))
