-- Where two slabs of a plan change, the pairs of the others are the same pairs as before, of the
-- same orders, and lose the same; so those that were closed still are.
use Rattle.std.proofs.Common.{ℕ, ◌≡◌, ◌≢◌, ◌+◌, false, ◌&&◌, ◌||◌, List, [], ◌∷◌, map, cond}
use Rattle.std.proofs.Common.{eqb, ltb, leb, refl, sym, ap, ap₂, ◌∙◌, eq-eqb, ne_eqb}
use Rattle.std.proofs.Common.{inl, inr}
use Rattle.std.proofs.lemmas.Bool.{cases_eq}
use Rattle.list_laws.specs.Sets.{holds, chosen}
use Rattle.mill_model.specs.Slab.{Mill, load}
use Rattle.mill_model.specs.Pairs.{one_of, closed_pair, not_bettered}
use Rattle.mill_model.specs.declared.order.Order.{Order}
use Rattle.large_moves.specs.Laid.{StayElsewhere}
use Rattle.large_moves.specs.Scans.{is_pair}

-- equality read from the other side
eqb-swap : (x t : ℕ) → eqb t x ≡ eqb x t
eqb-swap x t = elim (cases_eq t x) [
  | inl e ↦ eq-eqb t x e ∙ sym (eq-eqb x t (sym e))
  | inr n ↦ ne_eqb t x n ∙ sym (ne_eqb x t (λ e. n (sym e)))
]

-- whether a slab is used, by the orders that lie on it
same-holds : (s : ℕ) (plan new : List ℕ) → map (λ t. eqb s t) new ≡ map (λ t. eqb s t) plan →
    holds s new ≡ holds s plan
same-holds s [] [] same = refl
same-holds s [] (u ∷ new) same = absurd (cc)
same-holds s (t ∷ plan) [] same = absurd (cc)
same-holds s (t ∷ plan) (u ∷ new) same =
    let here : eqb s u ≡ eqb s t = cc in
    let rest : map (λ t. eqb s t) new ≡ map (λ t. eqb s t) plan = cc in
    ap₂ (λ a b. a || b) here (same-holds s plan new rest)

-- which orders lie on one of two slabs
same-kind : (x y : ℕ) (plan new : List ℕ) → map (λ t. eqb x t) new ≡ map (λ t. eqb x t) plan →
    map (λ t. eqb y t) new ≡ map (λ t. eqb y t) plan →
    map (one_of x y) new ≡ map (one_of x y) plan
same-kind x y [] [] first second = refl
same-kind x y [] (u ∷ new) first second = absurd (cc)
same-kind x y (t ∷ plan) [] first second = absurd (cc)
same-kind x y (t ∷ plan) (u ∷ new) first second =
    let at_x : eqb x u ≡ eqb x t = cc in
    let at_y : eqb y u ≡ eqb y t = cc in
    let more_x : map (λ t. eqb x t) new ≡ map (λ t. eqb x t) plan = cc in
    let more_y : map (λ t. eqb y t) new ≡ map (λ t. eqb y t) plan = cc in
    let here : one_of x y u ≡ one_of x y t =
    ap₂ (λ a b. a || (b || false)) (eqb-swap x u ∙ at_x ∙ sym (eqb-swap x t))
    (eqb-swap y u ∙ at_y ∙ sym (eqb-swap y t)) in
    ap₂ (λ mark marks. mark ∷ marks) here (same-kind x y plan new more_x more_y)

module _ (a c : ℕ) (plan new : List ℕ) (stay : StayElsewhere a c plan new) (x y : ℕ)
    (first : (x ≢ a) × (x ≢ c)) (second : (y ≢ a) × (y ≢ c)) where
  pub same-pair : is_pair new x y ≡ is_pair plan x y
  same-pair = ap₂ (λ one other. leb x y && (one && other))
      (same-holds x plan new (stay x first.0 first.1))
      (same-holds y plan new (stay y second.0 second.1))

  pub same-closed : (mill : Mill) (charge : ℕ → ℕ) (orders : List Order) →
      closed_pair mill charge orders new x y ≡ closed_pair mill charge orders plan x y
  same-closed mill charge orders = ap₂ (λ loss items. not_bettered mill charge loss items)
      (ap₂ (λ one other. charge (load (chosen one orders))
      + cond (ltb x y) (charge (load (chosen other orders))) 0) (stay x first.0 first.1)
      (stay y second.0 second.1))
      (ap (λ marks. chosen marks orders) (same-kind x y plan new (stay x first.0 first.1)
      (stay y second.0 second.1)))
