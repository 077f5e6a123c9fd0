-- Sets that may join a slab, of which the load and the colours are known, and what they gain.
use Rattle.std.specs.Prelude.{ℕ, ◌+◌, ◌<◌, ◌≤◌, ◌*◌, ◌≡◌, ◌++◌, ◌∷◌, Bool, true, ◌&&◌, ◌||◌, not}
use Rattle.std.specs.Prelude.{List, length, map, ℤ, pos, ◌-ℤ◌, neg_ℤ, Option, Some, None, cond, eqb}
use Rattle.std.specs.Prelude.{leb, ltb, slice_index_or}
use Rattle.list_laws.specs.Sets.{chosen, int_sum, holds, different}
use Rattle.mill_model.specs.Slab.{load}
use Rattle.mill_model.specs.Bounds.{in_set}
use Rattle.mill_model.specs.declared.order.Order.{Order}
use Rattle.set_minima.specs.Packs.{Packs, nobody, colours_in}

-- the orders of a slab, of which one knows the load and the colours
pub record IsSlab (group : List Order) (base : ℕ) (own : List ℕ) : Type 0 where
  pub weighs : load group ≡ base
  pub same : (x : ℕ) → holds x own ≡ holds x (map (λ order. order.colour) group)

-- the prices of a set, less 60 times the charge of its load with the slab's
abbrev pub gain : (ℕ → ℕ) → ℕ → List Order → List ℤ → List Bool → ℤ
gain charge base rest prices marks =
    int_sum (chosen marks prices) -ℤ pos (60 * charge (base + load (chosen marks rest)))

-- a set of allowed places alone that may join a slab, of at least a load
pub record Joins (allowed : ℕ → Bool) (low largest base : ℕ) (own : List ℕ) (most : ℕ)
    (rest : List Order) (marks : List Bool) : Type 0 where
  pub long : length marks ≡ length rest
  pub fine : (i : ℕ) → in_set i marks ≡ true → allowed i ≡ true
  pub above : low ≤ load (chosen marks rest)
  pub fits : base + load (chosen marks rest) ≤ largest
  pub few : different (own ++ colours_in marks rest) ≤ most

-- a set of allowed places alone, with few colours and a load in a range
pub record Packed (allowed : ℕ → Bool) (own : List ℕ) (k : ℕ) (rest : List Order) (low stop : ℕ)
    (marks : List Bool) : Type 0 where
  pub above : low ≤ load (chosen marks rest)
  pub below : load (chosen marks rest) < stop
  pub packs : Packs allowed own k rest (load (chosen marks rest)) marks

-- every place, and every place but one
abbrev pub all_places : ℕ → Bool
all_places i = true

abbrev pub all_but : ℕ → ℕ → Bool
all_but skip i = not (eqb i skip)

-- the number with the other sign, if there is one
abbrev pub opposite : Option ℤ → Option ℤ
opposite None = None
opposite (Some x) = Some (neg_ℤ x)

-- the colours of a slab with one order more
abbrev pub with_colour : ℕ → List ℕ → List ℕ
with_colour colour own = cond (holds colour own) own (colour ∷ own)

-- whether an order may join
abbrev pub may_join : ℕ → ℕ → ℕ → List ℕ → Order → Bool
may_join largest most base own order =
    leb (base + order.weight) largest && (holds order.colour own || ltb (length own) most)

-- each order weighs something
abbrev pub AreOrders : List Order → Type 0
AreOrders rest = (i : ℕ) → i < length rest → 0 < (slice_index_or rest i nobody).weight
