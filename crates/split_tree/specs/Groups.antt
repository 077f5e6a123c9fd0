-- Open slabs that an order joins by number.
use Rattle.std.specs.Prelude.{ℕ, zero, suc, List, [], ◌∷◌}
use Rattle.mill_model.specs.declared.order.Order.{Order}
use Rattle.slab_rules.specs.OpenSlab.{OpenSlab, joined}

-- the slab of a number, or the next new one, which is empty
abbrev pub slab_at : OpenSlab → List OpenSlab → ℕ → OpenSlab
slab_at empty [] g = empty
slab_at empty (slab ∷ groups) zero = slab
slab_at empty (slab ∷ groups) (suc g) = slab_at empty groups g

-- slabs with one more order, on the one of a number or the next new one
abbrev pub with_order : OpenSlab → List OpenSlab → ℕ → Order → List OpenSlab
with_order empty [] g order = joined empty order ∷ []
with_order empty (slab ∷ groups) zero order = joined slab order ∷ groups
with_order empty (slab ∷ groups) (suc g) order = slab ∷ with_order empty groups g order
