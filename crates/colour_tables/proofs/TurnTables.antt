-- The tables of an order in its turn, by other names and for fewer loads.
use Rattle.std.proofs.Common.{ℕ, ◌≤◌, ◌≡◌, Bool, List, ℤ, sym, subst, arith}
use Rattle.mill_model.specs.declared.order.Order.{Order}
use Rattle.set_minima.specs.Packs.{IsTable, IsBest}
use Rattle.set_minima.specs.Cells.{cell}
use Rattle.colour_tables.specs.Owned.{IsTurn}

pub turn-from : (rest : List Order) (prices : List ℤ) (name : ℕ → ℕ) (w v c j : ℕ)
    (alone beside alone' beside' : List ℤ) → v ≡ w → alone' ≡ alone → beside' ≡ beside →
    IsTurn rest prices name w c j alone beside → IsTurn rest prices name v c j alone' beside'
turn-from rest prices name w v c j alone beside alone' beside' e f g t =
    subst (λ z. IsTurn rest prices name z c j alone' beside') (sym e)
    (subst (λ z. IsTurn rest prices name w c j z beside') (sym f)
    (subst (λ z. IsTurn rest prices name w c j alone z) (sym g) t))

pub turn-wide : (rest : List Order) (prices : List ℤ) (name : ℕ → ℕ) (w v c j : ℕ)
    (alone beside : List ℤ) → v ≡ w → IsTurn rest prices name w c j alone beside →
    IsTurn rest prices name v c j alone beside
turn-wide rest prices name w v c j alone beside e t =
    subst (λ z. IsTurn rest prices name z c j alone beside) (sym e) t

pub front-of : (allowed : ℕ → Bool) (own : List ℕ) (k : ℕ) (rest : List Order) (prices : List ℤ)
    (w n : ℕ) (table table' : List ℤ) → n ≤ w → table' ≡ table →
    IsTable allowed own k rest prices w (cell table) →
    IsTable allowed own k rest prices n (cell table')
front-of allowed own k rest prices w n table table' h e t l b =
    subst (λ (xs : List ℤ). IsBest allowed own k rest prices l (cell xs l)) (sym e)
    (t l (omega arith))
