-- A slab that more orders may join.
use Rattle.std.specs.Prelude.{ℕ, ◌+◌, ◌≡◌, ◌≤◌, cond, List, [], ◌∷◌, ◌++◌, map, length}
use Rattle.list_laws.specs.Sets.{holds, different}
use Rattle.mill_model.specs.Slab.{Mill, load}
use Rattle.mill_model.specs.declared.order.Order.{Order}

-- the load, the colours in the order of joining, and the mill that makes the slab
pub record OpenSlab : Type 0 where
  pub load : ℕ
  pub colours : List ℕ
  pub mill : Mill

-- a slab with no order
abbrev pub empty_on : Mill → OpenSlab
empty_on mill = record { load = 0; colours = []; mill = mill }

-- colours with one more, which comes last where it is new
abbrev pub with_colour : List ℕ → ℕ → List ℕ
with_colour colours colour = cond (holds colour colours) colours (colours ++ colour ∷ [])

-- a slab with one more order
abbrev pub joined : OpenSlab → Order → OpenSlab
joined slab order = record {
  load = slab.load + order.weight;
  colours = with_colour slab.colours order.colour;
  mill = slab.mill;
}

-- the largest size holds the load, and the colours are few
pub record IsWithinBounds (slab : OpenSlab) : Type 0 where
  pub light : slab.load ≤ slab.mill.largest
  pub few : length slab.colours ≤ slab.mill.most_colours

-- no number stands twice
abbrev pub HasNoRepeats : List ℕ → Type 0
HasNoRepeats xs = different xs ≡ length xs

-- what each open slab keeps
pub record IsOpenSlab (slab : OpenSlab) : Type 0 where
  pub bounds : IsWithinBounds slab
  pub once : HasNoRepeats slab.colours
  pub size_limit : slab.mill.largest ≤ 20000
  pub some_colour : 1 ≤ slab.mill.most_colours
  pub colour_limit : slab.mill.most_colours ≤ 8

-- a slab carries some orders: it has their load, and their colours are its colours
pub record Carries (slab : OpenSlab) (orders : List Order) : Type 0 where
  pub weight : slab.load ≡ load orders
  pub each : (colour : ℕ) → holds colour slab.colours
      ≡ holds colour (map (λ order. order.colour) orders)
