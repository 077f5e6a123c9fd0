-- What ties a slab to the orders on it.
use Rattle.std.specs.Prelude.{◌≡◌, ◌↔◌, true, List, [], ◌∷◌, ◌++◌}
use Rattle.mill_model.specs.Slab.{legal}
use Rattle.mill_model.specs.declared.order.Order.{Order}
use Rattle.slab_rules.specs.OpenSlab.{OpenSlab, joined, IsWithinBounds, HasNoRepeats, Carries}

-- an order that joins is one more of the orders on the slab
abbrev pub JoinedCarriesOneMore : Type 0
JoinedCarriesOneMore =
    (slab : OpenSlab) (orders : List Order) (order : Order) → Carries slab orders →
    Carries (joined slab order) (orders ++ order ∷ [])

-- a slab whose colours stand once is within its bounds exactly where its orders are legal
abbrev pub WithinBoundsIsLegal : Type 0
WithinBoundsIsLegal =
    (slab : OpenSlab) (orders : List Order) → HasNoRepeats slab.colours → Carries slab orders →
    IsWithinBounds slab ↔ (legal slab.mill orders ≡ true)
