-- A record has the lengths that its verdict has.
use Rattle.std.proofs.Common.{ℕ, ◌≡◌, Bool, true, ◌&&◌, List, [], ◌∷◌, refl, sym}
use Rattle.std.proofs.Common.{◌∙◌, subst, ℤ, All}
use Rattle.std.specs.Prelude.{int_le, ◌≤ℤ◌}
use Rattle.std.proofs.lemmas.List.Elements.{All-head, All-tail}
use Rattle.std.specs.List.{list_all}
use Rattle.std.proofs.lemmas.Int.{ints}
use Rattle.std.proofs.Common.{inl, inr, arith}
use Rattle.list_laws.proofs.Tests.{and-left, and-right, either}
use Rattle.mill_model.specs.Limits.{IsPrice}
use Rattle.mill_model.specs.declared.closing.Closing.{Closing}
use Rattle.mill_model.specs.declared.closing.Closing.TheVariants.{Split, Leaf, Priced, Dominated}
use Rattle.mill_model.specs.declared.plan.Start.{Start}
use Rattle.nogood_store.specs.declared.store.Entry.{Entry as Noted}
use Rattle.std.proofs.Common.{Option, Some}
use Rattle.refute_log.specs.Fits.{fits, path_fits, price_fits}
use Rattle.search_step.specs.Moves.{has_lengths}
use Rattle.search_step.specs.Parts.{Parts}
use Rattle.search_step.specs.declared.parts.Verdict.{Verdict}
use Rattle.search_step.specs.declared.parts.Verdict.TheVariants.{Better, Plain, ByPrices, ByOther}
use Rattle.search_step.specs.declared.parts.Verdict.TheVariants.{Open}

pub and-both : (a b : Bool) → a ≡ true → b ≡ true → (a && b) ≡ true
and-both a b p q = rw (p, q) refl

-- the lengths that hold of a worker hold of the piece inside
pub lengths-here : (w : Parts) (held : Option (List ℕ)) (orders of_piece : ℕ) (path : List ℕ)
    (v : Verdict) → held ≡ w.held → orders ≡ w.orders → of_piece ≡ orders →
    ((p : List ℕ) → w.held ≡ Some p → has_lengths w.orders p v ≡ true) → held ≡ Some path →
    has_lengths of_piece path v ≡ true
lengths-here w held orders of_piece path v h o p lengths e =
    subst (λ (n : ℕ). has_lengths n path v ≡ true) (sym (p ∙ o)) (lengths path (sym h ∙ e))

le-int-true : (x y : ℤ) → x ≤ℤ y → int_le x y ≡ true
le-int-true x y l = elim (either (int_le x y)) [
  | inl t ↦ t
  | inr f ↦ absurd (grind (arith, ints))
]

module _ (orders : ℕ) (path : List ℕ) (v : Verdict) (h : has_lengths orders path v ≡ true) where
  abbrev Fits : Closing → Type 0
  Fits closing = fits orders (record { path = path; closing = closing }) ≡ true

  of-verdict : (w : Verdict) → v ≡ w → has_lengths orders path w ≡ true
  of-verdict w e = subst (λ u. has_lengths orders path u ≡ true) e h

  pub fits-better : (start : Start) → v ≡ Better start → Fits Leaf
  fits-better start e = and-both (path_fits orders path) true (of-verdict (Better start) e) refl

  pub fits-plain : v ≡ Plain → Fits Leaf
  fits-plain e = and-both (path_fits orders path) true (of-verdict Plain e) refl

  pub fits-split : (paths : List (List ℕ)) (note : Option Noted) → v ≡ Open paths note → Fits Split
  fits-split paths note e =
      and-both (path_fits orders path) true (of-verdict (Open paths note) e) refl

  pub fits-other : (other : List ℕ) → v ≡ ByOther other → Fits (Dominated other)
  fits-other other e = of-verdict (ByOther other) e

  pub fits-priced : (prices : List ℤ) → v ≡ ByPrices prices → All IsPrice prices →
      Fits (Priced prices)
  fits-priced prices e within =
      let both = of-verdict (ByPrices prices) e in
      and-both (path_fits orders path) _ (and-left (path_fits orders path) _ both)
      (and-both _ _ (and-right (path_fits orders path) _ both) (all prices within))
    where
      all : (ps : List ℤ) → All IsPrice ps → list_all price_fits ps ≡ true
      all [] a = refl
      all (p ∷ ps) a =
          let here : IsPrice p = All-head IsPrice p ps a in
          and-both (price_fits p) _ (and-both _ _ (le-int-true _ _ here.0) (le-int-true _ _ here.1))
          (all ps (All-tail IsPrice p ps a))
