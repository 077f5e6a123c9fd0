-- What a log is judged by, from an instance and a table of charges.
use Rattle.std.specs.Prelude.{ℕ, ◌+◌, ◌<◌, ◌≤◌, ◌≡◌, All, List, length, slice_index, slice_index_or}
use Rattle.std.specs.Prelude.{drop, ltb}
use Rattle.mill_model.specs.Instance.{IsOrder}
use Rattle.mill_model.specs.LiveKey.{has_colour}
use Rattle.mill_model.specs.declared.order.Order.{Order}
use Rattle.mill_model.specs.declared.order.TheConstants.{MAX_ORDERS}
use Rattle.mill_model.specs.declared.charges.TheConstants.{MAX_CHARGE}

-- orders in rank, a charge of each load up to the largest size, and the limits of both
pub record IsSetting (ranked : List Order) (charges : List ℕ) (largest most_colours : ℕ) : Type 0
  where
    pub few : length ranked ≤ MAX_ORDERS
    pub orders : All IsOrder ranked
    pub reach : length charges ≡ largest + 1
    pub none : slice_index charges 0 ≡ 0
    pub small : All (λ charge. charge ≤ MAX_CHARGE) charges
    pub size : largest ≤ 20000
    pub colours : most_colours ≤ 8
    pub falls :
        (i j : ℕ) (d : Order) → i ≤ j → j < length ranked →
        (slice_index_or ranked j d).weight ≤ (slice_index_or ranked i d).weight

-- one more than the last rank of each colour; 0 for a colour that none has
abbrev pub AreEnds : List Order → List ℕ → Type 0
AreEnds ranked last =
    (colour k : ℕ) → has_colour (drop k ranked) colour ≡ ltb k (slice_index last colour)
