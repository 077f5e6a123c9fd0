-- A table of the slabs' numbers by first appearance, and what one more slab makes of it.
use Rattle.std.proofs.Common.{ℕ, suc, ◌+◌, ◌<◌, ◌≤◌, ◌≡◌, ◌≢◌, true, false, ◌||◌, min, List}
use Rattle.std.proofs.Common.{[], ◌∷◌, ◌++◌, length, eqb, refl, sym, ap, ◌∙◌, arith, inl, inr}
use Rattle.std.proofs.Common.{eq-eqb, eqb-true, ne_eqb, get_or, set, Option, Some, None}
use Rattle.std.proofs.Common.{get_or-set_same, get_or-set_other, false-eqb}
use Rattle.std.proofs.lemmas.List.{length-set}
use Rattle.list_laws.specs.Sets.{holds, different}
use Rattle.mill_model.specs.Tree.{before_first_of}
use Rattle.mill_model.specs.Numbering.{number_in, IsNumbering}
use Rattle.list_laws.proofs.Tests.{either, or-left, or-right}
use Rattle.list_laws.proofs.Different.{holds-append, different-push, different-bounded}
use Rattle.mill_model.proofs.FirstPlaces.{before-old, before-new}
use Rattle.list_laws.proofs.Different.{holds-push}

slabs-push : (seen : List ℕ) (s : ℕ) → s < 65536 → ((t : ℕ) → holds t seen ≡ true → t < 65536) →
    (t : ℕ) → holds t (seen ++ s ∷ []) ≡ true → t < 65536
slabs-push seen s l h t k = elim (holds-push seen t s k) [ inl e ↦ h t e | inr e ↦ rw e l ]

-- a slab that appeared keeps its number
number_in-old : (seen : List ℕ) (t s : ℕ) → holds t seen ≡ true →
    number_in (seen ++ s ∷ []) t ≡ number_in seen t
number_in-old seen t s h =
    let there : holds t (seen ++ s ∷ []) ≡ true =
    rw holds-append (or-left (holds t seen) (eqb t s || false) h) in
    rw (there, h) (ap (λ l. Some (different l)) (before-old t seen (s ∷ []) h))

-- one that did not, and is not the new one, has none
number_in-other : (seen : List ℕ) (t s : ℕ) → holds t seen ≡ false → t ≢ s →
    number_in (seen ++ s ∷ []) t ≡ number_in seen t
number_in-other seen t s h n =
    let there : holds t (seen ++ s ∷ []) ≡ false = rw holds-append (rw (h, ne_eqb t s n)) in
    rw (there, h)

some-same : (a b : ℕ) → Some a ≡ Some b → a ≡ b
some-same a b e = cc

-- the slab appeared before: nothing changes
pub numbered-again : (seen : List ℕ) (numbers : List (Option ℕ)) (next s number : ℕ) → s < 65536 →
    s < length numbers → IsNumbering seen numbers next → get_or numbers s None ≡ Some number →
    IsNumbering (seen ++ s ∷ []) numbers next
    × (number ≡ different (before_first_of s (seen ++ s ∷ [])))
numbered-again seen numbers next s number small l is got =
    let has : number_in seen s ≡ Some number = sym (is.each s l) ∙ got in
    elim (either (holds s seen)) [
      | inl h ↦ (let number_is : different (before_first_of s seen) ≡ number =
          some-same _ _ (rw h at has) in
          let count : different (seen ++ s ∷ []) ≡ different seen =
          rw h at (different-push s seen) in
          let each : (t : ℕ) → number_in (seen ++ s ∷ []) t ≡ number_in seen t =
          λ t. elim (either (holds t seen)) [
            | inl k ↦ number_in-old seen t s k
            | inr k ↦ number_in-other seen t s k (λ e. absurd (grind (arith, rw e at k)))
          ] in (
            record {
              slabs = slabs-push seen s small is.slabs;
              each =
                  λ t m. is.each t m ∙ sym (each t);
              count = rw count is.count;
            },
            sym number_is ∙ ap different (sym (before-old s seen (s ∷ []) h)),
          ))
      | inr h ↦ absurd (none-some number (rw h at has))
    ]
  where
    none-some : (n : ℕ) → ◌≡◌ {A = Option ℕ} None (Some n) → ⊥
    none-some n e = cc

-- the slab is new: it takes the next number
pub numbered-new : (seen : List ℕ) (numbers : List (Option ℕ)) (next s : ℕ) → s < 65536 →
    s < length numbers → IsNumbering seen numbers next → get_or numbers s None ≡ None →
    IsNumbering (seen ++ s ∷ []) (set numbers s (Some next)) (min (next + 1) 65535)
    × (next ≡ different (before_first_of s (seen ++ s ∷ [])))
numbered-new seen numbers next s small l is got =
    let none : number_in seen s ≡ None = sym (is.each s l) ∙ got in
    let new : holds s seen ≡ false = absent none in
    let count : different (seen ++ s ∷ []) ≡ suc (different seen) =
    rw new at (different-push s seen) in
    let few : different (seen ++ s ∷ []) ≤ 65536 =
    different-bounded 65536 (seen ++ s ∷ []) (slabs-push seen s small is.slabs) in
    let now : next ≡ different seen = is.count ∙ (omega arith) in
    let before : before_first_of s (seen ++ s ∷ []) ≡ seen = before-new s seen [] new in
    let its : holds s (seen ++ s ∷ []) ≡ true =
    rw holds-append (or-right (holds s seen) (eqb s s
    || false) (or-left (eqb s s) false (eq-eqb s s refl))) in (
      record {
        slabs = slabs-push seen s small is.slabs;
        each = λ t m. elim (either (eqb t s)) [
          | inl e ↦ (let same : t ≡ s = eqb-true t s e in
              rw same (get_or-set_same numbers s (Some next) None l ∙ its-number its before now))
          | inr e ↦ (let other : t ≢ s = λ q. false-eqb t s (sym e) q in
              get_or-set_other numbers s t (Some next) None other ∙ is.each t (rw length-set at m)
              ∙ sym (unchanged t other))
        ];
        count = omega arith;
      },
      now ∙ ap different (sym before),
    )
  where
    absent : number_in seen s ≡ None → holds s seen ≡ false
    absent e = elim (either (holds s seen)) [ inl h ↦ absurd (some-none _ (rw h at e)) | inr h ↦ h ]
      where
        some-none : (n : ℕ) → ◌≡◌ {A = Option ℕ} (Some n) None → ⊥
        some-none n e = cc

    its-number : holds s (seen ++ s ∷ []) ≡ true → before_first_of s (seen ++ s ∷ []) ≡ seen →
        next ≡ different seen → Some next ≡ number_in (seen ++ s ∷ []) s
    its-number h b n = rw (h, b) (ap Some n)

    unchanged : (t : ℕ) → t ≢ s → number_in (seen ++ s ∷ []) t ≡ number_in seen t
    unchanged t n =
        elim (either (holds t seen)) [
          | inl k ↦ number_in-old seen t s k
          | inr k ↦ number_in-other seen t s k n
        ]
