-- A number with a sign is a canonical number, or a minus before one other than 0.
use Rattle.std.proofs.Common.{ℕ, suc, ◌^◌, ◌<◌, ◌≤◌, ◌≡◌, List, [], ◌∷◌, length, ℤ, pos, negsuc}
use Rattle.std.proofs.Common.{eqb, refl, sym, ap, ◌∙◌, arith}
use Rattle.std.proofs.lemmas.Int.{ints}
use Rattle.std.proofs.lemmas.List.Splits.{length-slice_split}
use Rattle.std.specs.List.{onto_first}
use Rattle.std.specs.Fmt.{decimal, signed_decimal}
use Rattle.line_text.specs.Words.{line_words, BeginsWith}
use Rattle.line_text.specs.Numbers.{IsWithin}
use Rattle.line_text.proofs.Numerals.{digits-no_minus}

-- a byte in front of a line stands in front of its first word
onto-parts : (b : ℕ) (words : List (List ℕ)) (word : List ℕ) (more : List (List ℕ))
    → 0 < length words → onto_first b words ≡ word ∷ more
    → (rest : List ℕ) × (word ≡ b ∷ rest) × (words ≡ rest ∷ more)
onto-parts b [] word more l e = absurd (omega arith)
onto-parts b (rest ∷ words) word more l e =
    let h : word ≡ b ∷ rest = cc in let t : words ≡ more = cc in
    (rest, h, ap (λ ws. rest ∷ ws) t)

some-word : (line : List ℕ) → 0 < length (line_words line)
some-word line = omega (arith, length-slice_split (λ b. eqb b 32) line)

-- where no amount stands behind a minus, no number is spelled
pub minus-refused : (amount : List ℕ) (limit : ℕ) → limit < 2 ^ 63
    → ((m : ℕ) → suc m ≤ limit → ¬ (BeginsWith (line_words amount) (decimal (suc m) ∷ [])))
    → (number : ℤ) → IsWithin limit number
    → ¬ (BeginsWith (line_words (45 ∷ amount)) (signed_decimal number ∷ []))
minus-refused amount limit s none (pos n) w b =
    let p = onto-parts 45 (line_words amount) (decimal n) b.more (some-word amount) b.is in
    digits-no_minus n (decimal n) p.0 (omega (arith, ints)) refl p.1
minus-refused amount limit s none (negsuc m) w b =
    let p =
    onto-parts 45 (line_words amount) (45 ∷ decimal (suc m)) b.more (some-word amount) b.is in
    let e : decimal (suc m) ≡ p.0 = cc (p.1) in
    none m (omega (arith, ints)) (record { more = b.more; is = p.2 ∙ ap (λ x. x ∷ b.more) (sym e) })
