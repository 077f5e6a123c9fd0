-- What stands at a rank, and where classes start.
use Rattle.std.proofs.Common.{ℕ, zero, suc, ◌-◌, ◌<◌, ◌≡◌, ◌⊎◌, true, not, List, [], ◌∷◌, map}
use Rattle.std.proofs.Common.{length, get_or, refl, sym, ap, ap₂, arith, inl, inr, Some}
use Rattle.std.specs.List.{slice_get}
use Rattle.mill_model.specs.Rank.{same_order, starts_class_in}
use Rattle.mill_model.specs.declared.order.Order.{Order}
use Rattle.order_symmetry.specs.Numbered.{placed_of}
use Rattle.order_symmetry.specs.declared.numbered.Numbered.{Numbered}

-- the orders and the places of numbered orders
abbrev pub orders_in : List Numbered → List Order
orders_in items = map (λ placed. placed.order) (map placed_of items)

abbrev pub places_in : List Numbered → List ℕ
places_in items = map (λ placed. placed.place) (map placed_of items)

pub order-at : (items : List Numbered) (k : ℕ) (x : Numbered) → k < length items →
    x ≡ get_or items k x → slice_get (orders_in items) k ≡ Some x.order
order-at [] k x l e = absurd (omega arith)
order-at (y ∷ items) zero x l e = ap (λ z. Some z.order) (sym e)
order-at (y ∷ items) (suc k) x l e = order-at items k x (omega arith) e

pub place-at : (items : List Numbered) (k : ℕ) (x : Numbered) → k < length items →
    x ≡ get_or items k x → x.number ≡ get_or (places_in items) k 0
place-at [] k x l e = absurd (omega arith)
place-at (y ∷ items) zero x l e = ap (λ z. z.number) e
place-at (y ∷ items) (suc k) x l e = place-at items k x (omega arith) e

pub starts-ends : (items : List Numbered) (k : ℕ) → (k ≡ 0) ⊎ (k ≡ length items) →
    starts_class_in k (orders_in items) ≡ true
starts-ends items zero h = refl
starts-ends [] (suc k) h = refl
starts-ends (x ∷ []) (suc zero) h = refl
starts-ends (x ∷ []) (suc (suc k)) h = refl
starts-ends (x ∷ y ∷ items) (suc zero) (inl e) = absurd (omega arith)
starts-ends (x ∷ y ∷ items) (suc zero) (inr e) = absurd (omega arith)
starts-ends (x ∷ y ∷ items) (suc (suc k)) (inl e) = absurd (omega arith)
starts-ends (x ∷ y ∷ items) (suc (suc k)) (inr e) =
    starts-ends (y ∷ items) (suc k) (inr (omega arith))

starts-step : (items : List Numbered) (k : ℕ) (x y : Numbered) → suc k < length items →
    x ≡ get_or items k x → y ≡ get_or items (suc k) y →
    starts_class_in (suc k) (orders_in items) ≡ not (same_order x.order y.order)
starts-step [] k x y l e f = absurd (omega arith)
starts-step (v ∷ []) k x y l e f = absurd (omega arith)
starts-step (v ∷ w ∷ items) zero x y l e f =
    ap₂ (λ a b. not (same_order a.order b.order)) (sym e) (sym f)
starts-step (v ∷ w ∷ items) (suc k) x y l e f =
    starts-step (w ∷ items) k x y (omega arith) e f

pub starts-between : (items : List Numbered) (k : ℕ) (x y : Numbered) → 0 < k →
    k < length items → x ≡ get_or items (k - 1) x → y ≡ get_or items k y →
    starts_class_in k (orders_in items) ≡ not (same_order x.order y.order)
starts-between items zero x y p l e f = absurd (omega arith)
starts-between items (suc k) x y p l e f =
    let q : suc k - 1 ≡ k = omega arith in starts-step items k x y l (rw q at e) f
