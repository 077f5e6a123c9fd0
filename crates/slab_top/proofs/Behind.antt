-- What stands behind white space.
use Rattle.std.proofs.Common.{◌≡◌, ℕ, zero, suc, ◌+◌, ◌-◌, ◌<◌, List, [], ◌∷◌, true, IsTrue}
use Rattle.std.proofs.Common.{length, take, drop, get_or, refl, ap, ◌∙◌, subst, arith, inl}
use Rattle.std.proofs.Common.{inr}
use Rattle.std.proofs.Common.{length-drop, drop-cons}
use Rattle.std.specs.Prelude.{All}
use Rattle.std.proofs.lemmas.Bool.{cases_order}
use Rattle.std.proofs.lemmas.List.{get_or-drop, take_all}
use Rattle.line_text.specs.Lines.{is_white}
use Rattle.instance_text.specs.Words.{IsBlankFrom, IsFirstNotBlank}
use Rattle.slab_top.specs.Input.{after_white}

-- a rest that is blank has no first byte that isn't
pub rest-is-blank : (text : List ℕ) (end at : ℕ) → IsFirstNotBlank text end at →
    IsBlankFrom text end → ⊥
rest-is-blank text end at first blank =
    let from = first.later in
    let inside = first.within in
    let here : end + (at - end) ≡ at = omega arith in
    let same : get_or (drop end text) (at - end) 0 ≡ get_or text at 0 =
    get_or-drop end text (at - end) 0 ∙ ap (λ i. get_or text i 0) here in
    let space : is_white (get_or text at 0) ≡ true =
    subst (λ byte. is_white byte ≡ true) same
    (blank (at - end) 0 (omega (arith, length-drop end text))) in
    let solid = first.solid in
    cc

-- and there is one such byte
no-earlier : (text : List ℕ) (end a b : ℕ) → IsFirstNotBlank text end a →
    IsFirstNotBlank text end b → a < b → ⊥
no-earlier text end a b first second less =
    let space = second.blank a first.later less in let solid = first.solid in absurd (cc)

pub first-once : (text : List ℕ) (end a b : ℕ) → IsFirstNotBlank text end a →
    IsFirstNotBlank text end b → a ≡ b
first-once text end a b first second = elim (cases_order a b) [
  | inl same ↦ same
  | inr rest ↦ elim rest [
    | inl less ↦ absurd (no-earlier text end a b first second less)
    | inr more ↦ absurd (no-earlier text end b a second first more)
  ]
]

-- white space alone has nothing behind it
after-all-white : (text : List ℕ) → All (λ byte. IsTrue (is_white byte)) text →
    after_white text ≡ []
after-all-white [] blank = refl
after-all-white (byte ∷ text) blank =
    let white : is_white byte ≡ true = blank 0 0 (omega arith) in
    rw white (after-all-white text (λ i d inside. blank (suc i) d (omega arith)))

pub after-blank : (text : List ℕ) (end : ℕ) → IsBlankFrom text end →
    after_white (drop end text) ≡ []
after-blank text end blank = after-all-white (drop end text) blank

-- and else what is behind it begins at the first byte that isn't white space
after-first-from : (n : ℕ) (text : List ℕ) (end at : ℕ) → end + n ≡ at →
    IsFirstNotBlank text end at → after_white (drop end text) ≡ drop at text
after-first-from zero text end at e first =
    let same : end ≡ at = omega arith in
    let inside = first.within in
    let solid = first.solid in
    rw (same, drop-cons text at 0 inside, solid) refl
after-first-from (suc n) text end at e first =
    let inside = first.within in
    let here : end < length text = omega arith in
    let white = first.blank end (omega arith) (omega arith) in
    rw (drop-cons text end 0 here, white) (after-first-from n text (suc end) at (omega arith)
    (record {
      later = omega arith;
      within = inside;
      blank = λ k later before. first.blank k (omega arith) before;
      solid = first.solid;
    }))

pub after-first : (text : List ℕ) (end at : ℕ) → IsFirstNotBlank text end at →
    after_white (drop end text) ≡ drop at text
after-first text end at first =
    let later = first.later in after-first-from (at - end) text end at (omega arith) first

-- a text from a place on
pub rest-from : (text : List ℕ) (at : ℕ) → take (length text - at) (drop at text) ≡ drop at text
rest-from text at =
    take_all (length text - at) (drop at text) (omega (arith, length-drop at text))
