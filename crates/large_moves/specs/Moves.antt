-- Moves of the orders of a pair of slabs.
use Rattle.std.specs.Prelude.{ℕ, ◌<◌, ◌≡◌, Bool, false, cond, List, [], ◌∷◌, length}
use Rattle.std.specs.Prelude.{map, slice_index_or, slice_set}
use Rattle.list_laws.specs.Sets.{holds}
use Rattle.mill_model.specs.declared.order.Order.{Order}

abbrev pub first_mark : List Bool → Bool
first_mark [] = false
first_mark (mark ∷ marks) = mark

abbrev pub further : List Bool → List Bool
further [] = []
further (mark ∷ marks) = marks

-- a plan whose orders on slabs of a kind go to a where they are marked, and else to c
abbrev pub split_plan : (ℕ → Bool) → List Bool → ℕ → ℕ → List ℕ → List ℕ
split_plan kind marks a c [] = []
split_plan kind marks a c (s ∷ plan) = cond (kind s)
    (cond (first_mark marks) a c ∷ split_plan kind (further marks) a c plan)
    (s ∷ split_plan kind marks a c plan)

-- the orders at some places
abbrev pub orders_at : List Order → List ℕ → List Order
orders_at orders places =
    map (λ i. slice_index_or orders i (record { weight = 0; colour = 0 })) places

-- a plan whose orders at some places go to a where they are marked, and else to c
abbrev pub put_at : List ℕ → List Bool → ℕ → ℕ → List ℕ → List ℕ
put_at [] marks a c plan = plan
put_at (i ∷ places) marks a c plan =
    put_at places (further marks) a c (slice_set plan i (cond (first_mark marks) a c))

-- where the second part of a split goes: to the second slab of a pair, or for a slab alone to one
-- that is not used
pub record IsSecond (plan : List ℕ) (a b c : ℕ) : Type 0 where
  pub below : c < length plan
  pub two : a < b → c ≡ b
  pub one : a ≡ b → holds c plan ≡ false
