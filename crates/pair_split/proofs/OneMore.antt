-- One more order in a table.
use Rattle.std.proofs.Common.{ℕ, suc, ◌+◌, ◌<◌, ◌≤◌, ◌≡◌, Bool, true, List, [], ◌∷◌, length, drop}
use Rattle.std.proofs.Common.{eqb, refl, sym, ap, ◌∙◌, arith, inl, inr, subst, get_or}
use Rattle.std.proofs.Math.Seq.{drop-cons}
use Rattle.mill_model.specs.Slab.{Mill}
use Rattle.mill_model.specs.declared.order.Order.{Order}
use Rattle.pair_split.specs.Splits.{front, grouped}
use Rattle.pair_split.specs.States.{IsPart, IsWithin, state_of, with_order}
use Rattle.pair_split.specs.Tables.{IsTable, Marked, Spreads}
use Rattle.pair_split.specs.declared.state.State.{State}
use Rattle.pair_split.proofs.Front.{state-order, part-less, part-more}

abbrev pub nobody : Order
nobody = record { weight = 0; colour = 0 }

-- a whole set of one more order begins with a mark
pub whole-set : (mill : Mill) (o : Order) (rest : List Order) (set : List Bool) →
    IsPart mill (o ∷ rest) set → (mark : Bool) × (tail : List Bool) × (set ≡ mark ∷ tail)
whole-set mill o rest [] h = let e : 0 ≡ suc (length rest) = h.whole in absurd (omega arith)
whole-set mill o rest (m ∷ set) h = (m, set, refl)

pub table-more : (mill : Mill) (words : ℕ) (o : Order) (rest : List Order) →
    grouped (o ∷ rest) ≡ true → (old none new : List ℕ) → IsTable mill words rest old →
    ((s : State) → IsWithin mill s → Marked words none s → ⊥) →
    Spreads mill words o.weight (eqb o.colour (front rest)) old none new
    (λ s. s.first ≤ mill.most_colours) → IsTable mill words (o ∷ rest) new
table-more mill words o rest g old none new t nothing x = record {
  found = λ s h m. elim (x.only s h m) [
    | inl k ↦ absurd (nothing s h k)
    | inr c ↦ (let f = t.found c.state c.within c.marked in
        let e : with_order c.mark o.weight (eqb o.colour (front rest)) (state_of rest f.0) ≡ s =
        ap (with_order c.mark o.weight (eqb o.colour (front rest))) f.2 ∙ c.to in (
          c.mark ∷ f.0,
          part-more mill c.mark o rest f.0 g f.1.whole (subst (IsWithin mill) (sym e) h),
          state-order c.mark o rest f.0 g ∙ e,
        ))
  ];
  every = λ set h. (let w = whole-set mill o rest set h in
      let hh : IsPart mill (o ∷ rest) (w.0 ∷ w.1) = subst (IsPart mill (o ∷ rest)) w.2 h in
      let q = part-less mill w.0 o rest w.1 g hh in
      let e = state-order w.0 o rest w.1 g in
      let k = x.here (state_of rest w.1) q.within.few q.within (t.every w.1 q) w.0
      (subst (IsWithin mill) e hh.within) in
      subst (λ s. Marked words new (state_of (o ∷ rest) s)) (sym w.2)
      (subst (Marked words new) (sym e) k));
}

-- the same, by the place of the order
pub table-next : (mill : Mill) (words : ℕ) (orders : List Order) (i : ℕ) → i < length orders →
    grouped (drop i orders) ≡ true → (weight : ℕ) (same : Bool) →
    weight ≡ (get_or orders i nobody).weight →
    same ≡ eqb (get_or orders i nobody).colour (front (drop (suc i) orders)) →
    (old none new : List ℕ) → IsTable mill words (drop (suc i) orders) old →
    ((s : State) → IsWithin mill s → Marked words none s → ⊥) →
    Spreads mill words weight same old none new (λ s. s.first ≤ mill.most_colours) →
    IsTable mill words (drop i orders) new
table-next mill words orders i here g weight same we se old none new t nothing x =
    let d : drop i orders ≡ get_or orders i nobody ∷ drop (suc i) orders =
    drop-cons orders i nobody here in
    let Spread : ℕ → Bool → Type 0 = λ weight same.
    Spreads mill words weight same old none new (λ s. s.first ≤ mill.most_colours) in
    let in-front : Bool = eqb (get_or orders i nobody).colour (front (drop (suc i) orders)) in
    subst (λ l. IsTable mill words l new) (sym d)
    (table-more mill words (get_or orders i nobody) (drop (suc i) orders)
    (subst (λ l. grouped l ≡ true) d g) old none new t nothing
    (subst (λ weight. Spread weight in-front) we (subst (λ same. Spread weight same) se x)))

-- the colour of the next order
pub front-next : (orders : List Order) (i r : ℕ) → r ≡ front (drop (i + 1) orders) →
    eqb (get_or orders i nobody).colour r
    ≡ eqb (get_or orders i nobody).colour (front (drop (suc i) orders))
front-next orders i r f =
    let e : i + 1 ≡ suc i = omega arith in
    ap (λ x. eqb (get_or orders i nobody).colour x) (f ∙ ap (λ n. front (drop n orders)) e)
