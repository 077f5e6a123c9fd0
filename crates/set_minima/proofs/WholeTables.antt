-- A whole table: one order is let in, and the same table for the same places.
use Rattle.std.proofs.Common.{ℕ, ◌-◌, ◌<◌, ◌≡◌, Bool, true, List, length, get_or, ℤ, pos, Option}
use Rattle.std.proofs.Common.{leb, leb-true, leb-false, sym, subst, arith, inl, inr}
use Rattle.list_laws.specs.Sets.{holds}
use Rattle.mill_model.specs.declared.order.Order.{Order}
use Rattle.list_laws.proofs.Tests.{either}
use Rattle.set_minima.specs.Packs.{nobody, colour_at, IsBest, IsTable, IsNext}
use Rattle.set_minima.specs.Cells.{cell}
use Rattle.set_minima.proofs.OneOrder.{best-added, best-heavy, best-allowed}
use Rattle.set_minima.proofs.OneCell.{raised}

-- a whole table, where one order is let in
pub table-adds : (rest : List Order) (prices : List ℤ) → length prices ≡ length rest →
    (before after : ℕ → Bool) (own : List ℕ) (k j : ℕ) → j < length rest → IsNext before after j →
    holds (colour_at rest j) own ≡ true → (old new : List ℤ) →
    ((l : ℕ) → l < length old → cell new l ≡
    raised (get_or rest j nobody).weight (get_or prices j (pos 0)) old l) →
    IsTable before own k rest prices (length old) (cell old) →
    IsTable after own k rest prices (length old) (cell new)
table-adds rest prices same before after own k j here next paid old new e p l b =
    elim (either (leb (get_or rest j nobody).weight l)) [
      | inl t ↦ subst (λ x. IsBest after own k rest prices l x) (sym (rw t at (e l b)))
          (best-added rest prices same before after own k j here next paid l (leb-true _ _ t)
          (cell old l) (cell old (l - (get_or rest j nobody).weight)) (p l b)
          (p (l - (get_or rest j nobody).weight) (omega arith)))
      | inr t ↦ subst (λ x. IsBest after own k rest prices l x) (sym (rw t at (e l b)))
          (best-heavy rest prices same before after own k j here next paid l (leb-false _ _ t)
          (cell old l) (p l b))
    ]

-- the same places by another test
pub table-allowed : (rest : List Order) (prices : List ℤ) (before after : ℕ → Bool)
    (own : List ℕ) (k width : ℕ) (best : ℕ → Option ℤ) →
    ((i : ℕ) → i < length rest → before i ≡ after i) →
    IsTable before own k rest prices width best → IsTable after own k rest prices width best
table-allowed rest prices before after own k width best e p l b =
    best-allowed rest prices before after own k l (best l) e (p l b)

-- the same width
pub table-width : (rest : List Order) (prices : List ℤ) (allowed : ℕ → Bool) (own : List ℕ)
    (k w v : ℕ) (best : ℕ → Option ℤ) → w ≡ v → IsTable allowed own k rest prices w best →
    IsTable allowed own k rest prices v best
table-width rest prices allowed own k w v best e p l b = p l (omega arith)
