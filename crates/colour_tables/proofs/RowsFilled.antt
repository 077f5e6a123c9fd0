-- The rows of the first colours of a list, and one more.
use Rattle.std.proofs.Common.{ℕ, zero, suc, ◌+◌, ◌*◌, ◌<◌, ◌≤◌, ◌≡◌, ◌⊎◌, true, false, not, List}
use Rattle.std.proofs.Common.{[], ◌∷◌, ◌++◌, length, take, get_or, ℤ, eqb, eqb-true, eq-eqb, ne_eqb}
use Rattle.std.proofs.Common.{refl, sym, ap, ◌∙◌, subst, arith, inl, inr}
use Rattle.std.proofs.Math.Seq.{take-suc}
use Rattle.std.proofs.lemmas.Grind.{get_or_default_zero}
use Rattle.list_laws.specs.Sets.{holds}
use Rattle.mill_model.specs.declared.order.Order.{Order}
use Rattle.list_laws.proofs.Tests.{or-cases, or-left, or-right}
use Rattle.list_laws.proofs.Different.{holds-append}
use Rattle.list_laws.proofs.Tests.{and-left, and-right}
use Rattle.set_minima.specs.Packs.{IsTable, IsBest}
use Rattle.list_laws.proofs.Tests.{clash}
use Rattle.colour_tables.specs.Entries.{entry}
use Rattle.set_minima.specs.Cells.{found}
use Rattle.colour_tables.specs.Threes.{three, insert, once, row_entry}
use Rattle.colour_tables.specs.declared.tops.Three.{Three}
use Rattle.colour_tables.specs.Colours.{of_colour}
use Rattle.colour_tables.proofs.RunsLetIn.{not-true}
use Rattle.colour_tables.proofs.ThreeGreatest.{three-last, three-same}
use Rattle.colour_tables.proofs.OneRowPriced.{outside}

pub held-get : (t : ℕ) (cs : List ℕ) → t < length cs → holds (get_or cs t 0) cs ≡ true
held-get t [] h = absurd (omega arith)
held-get zero (c ∷ cs) h = or-left (eqb c c) _ (eq-eqb c c refl)
held-get (suc t) (c ∷ cs) h = or-right (eqb (get_or cs t 0) c) _ (held-get t cs (omega arith))

once-before : (t : ℕ) (cs : List ℕ) → t < length cs → once cs ≡ true →
    holds (get_or cs t 0) (take t cs) ≡ false
once-before t [] h o = absurd (omega arith)
once-before zero (c ∷ cs) h o = refl
once-before (suc t) (c ∷ cs) h o =
    let n : holds c cs ≡ false =
    not-true (holds c cs) (and-left (not (holds c cs)) (once cs) o) in
    let e : eqb (get_or cs t 0) c ≡ false =
    ne_eqb (get_or cs t 0) c (λ q. clash (holds c cs)
    (subst (λ z. holds z cs ≡ true) q (held-get t cs (omega arith))) n) in
    rw e (once-before t cs (omega arith) (and-right (not (holds c cs)) (once cs) o))

pub more : (t : ℕ) (cs : List ℕ) → t < length cs → take (t + 1) cs ≡ take t cs ++ get_or cs t 0 ∷ []
more t cs h = ap (λ j. take j cs) (one t) ∙ take-suc cs t 0 h
  where
    one : (t : ℕ) → t + 1 ≡ suc t
    one t = omega arith

module _ (cs : List ℕ) (o : once cs ≡ true) (t w : ℕ) (here : t < length cs)
    (old now : List ℤ) (other : (i : ℕ) → i < get_or cs t 0 * w ⊎ get_or cs t 0 * w + w ≤ i →
    entry now i ≡ entry old i) where
  kept : (d l : ℕ) → holds d (take t cs) ≡ true → l < w → row_entry now w l d ≡ row_entry old w l d
  kept d l h b =
      other (d * w + l) (outside w d (get_or cs t 0) l b (λ q.
      clash (holds (get_or cs t 0) (take t cs))
      (subst (λ z. holds z (take t cs) ≡ true) q h) (once-before t cs here o)))

  pub filled-tops : (l : ℕ) → l < w → (a b : Three) →
      a ≡ three (row_entry old w l) (take t cs) →
      b ≡ insert (row_entry now w l (get_or cs t 0)) a →
      b ≡ three (row_entry now w l) (take (t + 1) cs)
  filled-tops l h a b e f =
      f ∙ ap (insert (row_entry now w l (get_or cs t 0)))
      (e ∙ three-same (row_entry old w l) (row_entry now w l) (take t cs)
      (λ d k. sym (kept d l k h)))
      ∙ sym (three-last (row_entry now w l) (get_or cs t 0) (take t cs))
      ∙ sym (ap (three (row_entry now w l)) (more t cs here))

  pub filled-rows : (rest : List Order) (prices : List ℤ) (name : ℕ → ℕ) →
      ((c : ℕ) → holds c (take t cs) ≡ true → IsTable (of_colour rest (name c)) (name c ∷ []) 1
      rest prices w (λ l. found (row_entry old w l c))) →
      IsTable (of_colour rest (name (get_or cs t 0))) (name (get_or cs t 0) ∷ []) 1 rest prices w
      (λ l. found (row_entry now w l (get_or cs t 0))) → (c : ℕ) →
      holds c (take (t + 1) cs) ≡ true → IsTable (of_colour rest (name c)) (name c ∷ []) 1 rest
      prices w (λ l. found (row_entry now w l c))
  filled-rows rest prices name before last c h =
      elim (or-cases (holds c (take t cs)) (holds c (get_or cs t 0 ∷ []))
      (sym (holds-append c (take t cs) (get_or cs t 0 ∷ []))
      ∙ subst (λ z. holds c z ≡ true) (more t cs here) h)) [
        | inl a ↦ (λ l b. subst (λ z. IsBest (of_colour rest (name c)) (name c ∷ []) 1 rest prices
            l (found z)) (sym (kept c l a b)) (before c a l b))
        | inr a ↦ elim (or-cases (eqb c (get_or cs t 0)) false a) [
          | inl e ↦ subst (λ x. IsTable (of_colour rest (name x)) (name x ∷ []) 1 rest prices w
              (λ l. found (row_entry now w l x))) (sym (eqb-true c (get_or cs t 0) e)) last
          | inr f ↦ absurd (clash false f refl)
        ]
      ]

-- what stands at a place of a list
pub index-is : (xs : List ℕ) (t x : ℕ) → t < length xs → x ≡ get_or xs t x → x ≡ get_or xs t 0
index-is xs t x h e = e ∙ get_or_default_zero xs t x h

pub index-held : (xs : List ℕ) (t x : ℕ) → t < length xs → x ≡ get_or xs t x →
    holds x xs ≡ true
index-held xs t x h e =
    subst (λ z. holds z xs ≡ true) (sym (index-is xs t x h e)) (held-get t xs h)
