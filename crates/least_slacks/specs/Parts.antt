-- Keys that tables serve: which colours the tables leave out for them, and how large they are.
use Rattle.std.specs.Prelude.{ℕ, ◌+◌, ◌-◌, ◌*◌, ◌<◌, ◌≤◌, ◌≡◌, ◌⊎◌, true, cond, ltb, ◌++◌, List, []}
use Rattle.std.specs.Prelude.{◌∷◌}
use Rattle.std.specs.Prelude.{All, length, map, ℤ}
use Rattle.list_laws.specs.Sets.{holds}
use Rattle.mill_model.specs.Limits.{all_prices}
use Rattle.mill_model.specs.Slab.{load}
use Rattle.mill_model.specs.declared.order.Order.{Order}
use Rattle.set_minima.specs.Cells.{AreNearTo}
use Rattle.least_slacks.specs.Items.{Letting}
use Rattle.least_slacks.specs.Later.{AreLayersOf, AreReachesOf, others_of}
use Rattle.least_slacks.specs.declared.key.Key.{Key}
use Rattle.least_slacks.specs.declared.later_orders.LaterOrders.{LaterOrders}
use Rattle.least_slacks.specs.declared.limits.SlabLimits.{SlabLimits}
use Rattle.least_slacks.specs.declared.parts.Part.{Part}
use Rattle.least_slacks.specs.declared.parts.Shape.{Shape}

-- the colours to come of the keys whose slabs may take another colour
abbrev pub out_of : ℕ → List Key → List ℕ
out_of most [] = []
out_of most (key ∷ keys) = cond (ltb key.colours most) (key.coming ++ out_of most keys) (out_of
    most keys)

-- what is let in for a part: at first all colours but those of its keys, else those alone that are
-- left out for the whole
abbrev pub letting_of : List Order → Part → Letting
letting_of rest part =
    record {
      before =
          cond part.first (map (λ order. order.colour) rest) (out_of part.most part.whole.now);
      after = out_of part.most part.keys.now;
    }

-- the whole leaves out what a part of it leaves out
abbrev pub IsWithin : Part → Type 0
IsWithin part =
    (c : ℕ) → holds c (out_of part.most part.keys.now) ≡ true →
    holds c (out_of part.most part.whole.now) ≡ true

-- each of the keys that count has the colours that are left out
abbrev pub NameTheSame : ℕ → List Key → Type 0
NameTheSame most keys =
    All (λ key. key.colours < most → (c : ℕ) → holds c (out_of most keys) ≡ holds c key.coming) keys

-- layers go as far as a slab with a key may: to its colours and its room, or to all later orders
pub record Serves (limits : SlabLimits) (later : LaterOrders) (shape : Shape) (key : Key) : Type 0
  where
    pub deep : limits.most < key.colours + shape.layers ⊎ later.kinds < shape.layers
    pub wide : limits.largest < key.load + shape.width ⊎ load later.rest.now < shape.width

abbrev pub ServesAll : SlabLimits → LaterOrders → Shape → List Key → Type 0
ServesAll limits later shape keys =
    All (λ key. key.colours < limits.most → Serves limits later shape key) keys

-- how far from zero numbers may get, where so many halvings are left
abbrev pub drift : ℕ → ℕ
drift levels = (65 - levels) * (9 * all_prices)

-- layers for some keys
pub record IsFilled (limits : SlabLimits) (later : LaterOrders) (keys : List Key) (shape : Shape)
    (reach : List ℕ) (tables : List ℤ)
    : Type 0 where
  pub few : shape.layers ≤ limits.most + 1
  pub some : 0 < shape.width
  pub narrow : shape.width ≤ limits.largest + 1
  pub inside : shape.layers * shape.width ≤ length tables
  pub serves : ServesAll limits later shape keys
  pub filled :
      AreLayersOf later (others_of later (out_of limits.most keys)) shape.layers shape.width tables
  pub reached :
      AreReachesOf later (others_of later (out_of limits.most keys)) shape.layers shape.width reach

-- layers for one key, with small numbers
pub record IsFor (limits : SlabLimits) (later : LaterOrders) (shape : Shape) (tables : List ℤ)
    (key : Key)
    : Type 0 where
  pub narrow : shape.width ≤ limits.largest + 1
  pub inside : shape.layers * shape.width ≤ length tables
  pub near : AreNearTo 200000000000000000 (shape.layers * shape.width) tables
  pub serves : key.colours < limits.most → Serves limits later shape key
  pub filled :
      key.colours < limits.most →
      AreLayersOf later (others_of later key.coming) shape.layers shape.width tables
