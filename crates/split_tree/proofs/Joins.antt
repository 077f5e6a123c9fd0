-- An order joins the slab of a number, or a new one.
use Rattle.std.proofs.Common.{ℕ, zero, suc, ◌<◌, ◌≤◌, ◌≡◌, ◌≢◌, List, [], ◌∷◌, ◌++◌, length, get_or}
use Rattle.std.proofs.Common.{set, max, Some, refl, ap, arith}
use Rattle.std.specs.List.{slice_get}
use Rattle.mill_model.specs.declared.order.Order.{Order}
use Rattle.slab_rules.specs.OpenSlab.{OpenSlab, joined}
use Rattle.split_tree.specs.Groups.{slab_at, with_order}

pub slab_at-old : (empty : OpenSlab) (groups : List OpenSlab) (g : ℕ) (slab : OpenSlab) →
    g < length groups → slab ≡ get_or groups g slab → slab_at empty groups g ≡ slab
slab_at-old empty [] g slab l e = absurd (omega arith)
slab_at-old empty (x ∷ groups) zero slab l e = cc
slab_at-old empty (x ∷ groups) (suc g) slab l e = slab_at-old empty groups g slab (omega arith) e

pub slab_at-new : (empty : OpenSlab) (groups : List OpenSlab) (g : ℕ) → length groups ≤ g →
    slab_at empty groups g ≡ empty
slab_at-new empty [] g l = refl
slab_at-new empty (x ∷ groups) zero l = absurd (omega arith)
slab_at-new empty (x ∷ groups) (suc g) l = slab_at-new empty groups g (omega arith)

pub with_order-old : (empty : OpenSlab) (groups : List OpenSlab) (g : ℕ) (slab : OpenSlab)
    (order : Order) → g < length groups → slab ≡ get_or groups g slab →
    with_order empty groups g order ≡ set groups g (joined slab order)
with_order-old empty [] g slab order l e = absurd (omega arith)
with_order-old empty (x ∷ groups) zero slab order l e =
    let same : x ≡ slab = cc in ap (λ z. joined z order ∷ groups) same
with_order-old empty (x ∷ groups) (suc g) slab order l e =
    ap (λ xs. x ∷ xs) (with_order-old empty groups g slab order (omega arith) e)

pub with_order-new : (empty : OpenSlab) (groups : List OpenSlab) (g : ℕ) (order : Order) →
    g ≡ length groups → with_order empty groups g order ≡ groups ++ joined empty order ∷ []
with_order-new empty [] g order e = refl
with_order-new empty (x ∷ groups) zero order e = absurd (omega arith)
with_order-new empty (x ∷ groups) (suc g) order e =
    ap (λ xs. x ∷ xs) (with_order-new empty groups g order (omega arith))

-- what stands at a number afterwards
pub at-old : (empty : OpenSlab) (groups : List OpenSlab) (g s : ℕ) (order : Order)
    (slab : OpenSlab) → s ≢ g → g ≤ length groups →
    slice_get (with_order empty groups g order) s ≡ Some slab → slice_get groups s ≡ Some slab
at-old empty [] g zero order slab n l e = absurd (n (omega arith))
at-old empty [] g (suc s) order slab n l e = absurd (cc)
at-old empty (x ∷ groups) zero zero order slab n l e = absurd (n refl)
at-old empty (x ∷ groups) zero (suc s) order slab n l e = e
at-old empty (x ∷ groups) (suc g) zero order slab n l e = e
at-old empty (x ∷ groups) (suc g) (suc s) order slab n l e =
    at-old empty groups g s order slab (λ q. n (ap suc q)) (omega arith) e

pub at-joined : (empty : OpenSlab) (groups : List OpenSlab) (g : ℕ) (order : Order)
    (slab : OpenSlab) → g ≤ length groups →
    slice_get (with_order empty groups g order) g ≡ Some slab →
    slab ≡ joined (slab_at empty groups g) order
at-joined empty [] zero order slab l e = cc
at-joined empty [] (suc g) order slab l e = absurd (omega arith)
at-joined empty (x ∷ groups) zero order slab l e = cc
at-joined empty (x ∷ groups) (suc g) order slab l e =
    at-joined empty groups g order slab (omega arith) e

pub length-with_order : (empty : OpenSlab) (groups : List OpenSlab) (g : ℕ) (order : Order) →
    g ≤ length groups → length (with_order empty groups g order) ≡ max (suc g) (length groups)
length-with_order empty [] zero order l = omega arith
length-with_order empty [] (suc g) order l = absurd (omega arith)
length-with_order empty (x ∷ groups) zero order l = omega arith
length-with_order empty (x ∷ groups) (suc g) order l =
    omega (arith, length-with_order empty groups g order)

pub slab_at-get : (empty : OpenSlab) (groups : List OpenSlab) (g : ℕ) → g < length groups →
    slice_get groups g ≡ Some (slab_at empty groups g)
slab_at-get empty [] g l = absurd (omega arith)
slab_at-get empty (x ∷ groups) zero l = refl
slab_at-get empty (x ∷ groups) (suc g) l = slab_at-get empty groups g (omega arith)
