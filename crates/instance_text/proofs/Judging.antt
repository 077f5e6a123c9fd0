-- The next word of a text, judged.
use Rattle.std.specs.Prelude.{nat_le, Result, Ok, Err, IsTrue, min, ◌^◌}
use Rattle.std.specs.List.{list_all, prefix_len}
use Rattle.std.proofs.Common.{◌≡◌, ℕ, ◌+◌, ◌-◌, ◌<◌, ◌≤◌, true, false, cond, List, [], ◌∷◌, ◌++◌}
use Rattle.std.proofs.Common.{length, get_or, take, drop, ap, sym, ◌∙◌, arith, inl, inr}
use Rattle.std.proofs.lemmas.Bool.{and_right, both_ways, cases_lt, lt-leb}
use Rattle.std.proofs.lemmas.List.{drop_more, drop-drop, length-drop, get_or-drop, take-append-drop}
use Rattle.std.proofs.lemmas.List.{take_rest, drop_all}
use Rattle.std.proofs.lemmas.List.Elements.{recursion_from_All}
use Rattle.std.proofs.lemmas.List.Folds.{length-prefix_len}
use Rattle.std.proofs.lemmas.List.Sums.{prefix_len_stops}
use Rattle.line_text.specs.Lines.{is_white}
use Rattle.line_text.specs.Numbers.{is_digit, value}
use Rattle.line_text.proofs.LeadingDigits.{digits-run}
use Rattle.instance_text.specs.declared.field.Field.{Field}
use Rattle.instance_text.specs.declared.field.Field.TheVariants.{SizeCount, Size, ColourCount}
use Rattle.instance_text.specs.declared.field.Field.TheVariants.{OrderCount, Weight, Colour}
use Rattle.instance_text.specs.declared.error.InstanceError.{InstanceError}
use Rattle.instance_text.specs.declared.error.InstanceError.TheVariants.{BadByte, Short, OutOfRange}
use Rattle.instance_text.specs.Words.{is_cut, word, words_from}
use Rattle.instance_text.specs.Words.{IsBlankFrom, IsFirstNotBlank}
use Rattle.instance_text.specs.Fields.{least, greatest, in_range, judged}
use Rattle.instance_text.specs.declared.reader.Reader.{Reader}
use Rattle.instance_text.specs.Reading.{Took}
use Rattle.instance_text.proofs.Ranges.{range_bounds}
use Rattle.instance_text.proofs.Runs.{words_skip, words_blank, run_front, words_bad}

-- no word is left
pub judged_short : (what : Field) (token : ℕ) (text : List ℕ) (at : ℕ) → IsBlankFrom text at →
    judged what token (words_from at (drop at text)) ≡ Err (Short token)
judged_short what token text at blank =
    ap (judged what token) (words_blank at (drop at text)
    (recursion_from_All (λ b. IsTrue (is_white b)) (drop at text) blank))

-- the words from the first byte that isn't white space on
to_first : (text : List ℕ) (at start : ℕ) → IsFirstNotBlank text at start →
    words_from at (drop at text) ≡ words_from start (drop start text)
to_first text at start first =
    let e : at + (start - at) ≡ start = omega arith in
    words_skip text at (start - at) (omega arith)
    (λ k low high. first.blank k low (omega arith))
    ∙ ap (λ i. words_from i (drop i text)) e

-- the text from a place on, as a slice
abbrev pub from_place : List ℕ → ℕ → List ℕ
from_place text start = take (length text - start) (drop start text)

-- a word goes on only where a byte stands that isn't white space
goes_on : (text : List ℕ) (end : ℕ) → is_cut (drop end text) ≡ false →
    (end < length text) × (is_white (get_or text end 0) ≡ false)
goes_on text end over = elim (cases_lt end (length text)) [
  | inl more ↦ (more, ap is_cut (sym (drop_more text end 0 more)) ∙ over)
  | inr none ↦ absurd (both_ways _ over (ap is_cut (drop_all end text none)))
]

-- the first word has a byte that is no digit
pub judged_bad : (what : Field) (token : ℕ) (text : List ℕ) (at start count : ℕ) →
    IsFirstNotBlank text at start → count ≡ prefix_len is_digit (from_place text start) →
    is_cut (drop (start + count) text) ≡ false →
    judged what token (words_from at (drop at text)) ≡ Err (BadByte (start + count))
judged_bad what token text at start count first digits over =
    let rest : List ℕ = drop start text in
    let n : ℕ = prefix_len is_digit rest in
    let end : ℕ = start + count in
    let here : end ≡ start + n =
    ap (λ k. start + k) (digits ∙ ap (prefix_len is_digit) (take_rest text start)) in
    let byte : ℕ = get_or text end 0 in
    let within : end < length text = (goes_on text end over).0 in
    let size : length rest ≡ length text - start = length-drop start text in
    let more : n < length rest = omega arith in
    let same : get_or rest n 0 ≡ byte =
    get_or-drop start text n 0 ∙ ap (λ i. get_or text i 0) (sym here) in
    let bad : is_digit byte ≡ false =
    ap is_digit (sym same) ∙ prefix_len_stops is_digit rest 0 more in
    let split : rest ≡ take n rest ++ byte ∷ drop (n + 1) rest =
    sym (take-append-drop n rest) ∙ ap (λ r. take n rest ++ r) (drop_more rest n 0 more
    ∙ ap (λ b. b ∷ drop (n + 1) rest) same) in
    let found = words_bad start byte (take n rest) (drop (n + 1) rest) (digits-run rest) bad
    (goes_on text end over).1 in
    let whole : words_from at (drop at text) ≡ found.first ∷ found.others =
    to_first text at start first ∙ ap (words_from start) split ∙ found.split in
    let place : found.first.at + prefix_len is_digit found.first.bytes ≡ end =
    omega (arith, found.place, found.digits, length-prefix_len is_digit rest) in
    ap (judged what token) whole
    ∙ ap (λ t. cond t (cond (in_range what (value found.first.bytes)) (Ok (value found.first.bytes))
    (Err (OutOfRange what token))) (Err (BadByte (found.first.at
    + prefix_len is_digit found.first.bytes)))) found.bad
    ∙ ap (λ i. Err (BadByte i)) place

-- the first word is of digits alone, and this is their number, at most the greatest `u64`
pub record BeginsNumber (text : List ℕ) (at start end number : ℕ) : Type 0 where
  pub digits : List ℕ
  pub are_digits : list_all is_digit digits ≡ true
  pub split : words_from at (drop at text) ≡ word start digits ∷ words_from end (drop end text)
  pub ends : start + length digits ≡ end
  pub limit : number ≡ min (value digits) (2 ^ 64 - 1)

-- some digits stand in front of a byte that isn't white space only where there is one
some_digit : (text : List ℕ) (start : ℕ) → start < length text →
    is_white (get_or text start 0) ≡ false →
    is_cut (drop (start + prefix_len is_digit (drop start text)) text) ≡ true →
    0 < prefix_len is_digit (drop start text)
some_digit text start within solid cut = elim (cases_lt 0 (prefix_len is_digit (drop start text))) [
  | inl some ↦ some
  | inr none ↦
      let e : start + prefix_len is_digit (drop start text) ≡ start = omega arith in
      let here : is_cut (drop start text) ≡ false =
      ap is_cut (drop_more text start 0 within) ∙ solid in
      let there : is_cut (drop start text) ≡ true = ap (λ i. is_cut (drop i text)) (sym e) ∙ cut in
      absurd (both_ways _ here there)
]

pub begins_number : (text : List ℕ) (at start count number : ℕ) → IsFirstNotBlank text at start →
    count ≡ prefix_len is_digit (from_place text start) →
    number ≡ min (value (take count (from_place text start))) (2 ^ 64 - 1) →
    is_cut (drop (start + count) text) ≡ true → BeginsNumber text at start (start + count) number
begins_number text at start count number first digits limit ends =
    let rest : List ℕ = drop start text in
    let n : ℕ = prefix_len is_digit rest in
    let end : ℕ = start + count in
    let same : count ≡ n = digits ∙ ap (prefix_len is_digit) (take_rest text start) in
    let some : 0 < n =
    some_digit text start first.within first.solid
    (ap (λ k. is_cut (drop (start + k) text)) (sym same) ∙ ends) in
    let size : length (take n rest) ≡ n = length-prefix_len is_digit rest in
    let place : start + length (take n rest) ≡ end = omega arith in
    let after : drop n rest ≡ drop end text =
    drop-drop n start text ∙ ap (λ i. drop i text) (omega arith) in
    record {
      digits = take n rest;
      are_digits = digits-run rest;
      split =
          to_first text at start first
          ∙ ap (words_from start) (sym (take-append-drop n rest) ∙ ap (λ r. take n rest ++ r) after)
          ∙ run_front start (take n rest) (drop end text) (omega arith) (digits-run rest) ends
          ∙ ap (λ i. word start (take n rest) ∷ words_from i (drop end text)) place;
      ends = place;
      limit =
          limit ∙ ap (λ k. min (value (take k (from_place text start))) (2 ^ 64 - 1)) same
          ∙ ap (λ r. min (value (take n r)) (2 ^ 64 - 1)) (take_rest text start);
    }

-- each range is below the greatest `u64`
greatest_bound : (what : Field) → greatest what ≤ 1000000
greatest_bound SizeCount = omega arith
greatest_bound Size = omega arith
greatest_bound ColourCount = omega arith
greatest_bound OrderCount = omega arith
greatest_bound Weight = omega arith
greatest_bound Colour = omega arith

-- a number that is cut off at the greatest `u64` is in range just where the whole is
range_same : (what : Field) (n v : ℕ) → n ≡ min v (2 ^ 64 - 1) → in_range what v ≡ in_range what n
range_same what n v limit = elim (cases_lt v (2 ^ 64)) [
  | inl small ↦ ap (in_range what) (omega arith)
  | inr great ↦
      (let bound = greatest_bound what in
      and_right (nat_le (least what) v) _ (lt-leb v (greatest what) (omega arith))
      ∙ sym (and_right (nat_le (least what) n) _ (lt-leb n (greatest what) (omega arith))))
]

-- a number out of its range
pub judged_range : (what : Field) (token : ℕ) (text : List ℕ) (at start end number : ℕ) →
    BeginsNumber text at start end number →
    in_range what number ≡ false →
    judged what token (words_from at (drop at text)) ≡ Err (OutOfRange what token)
judged_range what token text at start end number found out =
    let v : ℕ = value found.digits in
    let place : ℕ = start + prefix_len is_digit found.digits in
    let inner : Result ℕ InstanceError =
    cond (in_range what v) (Ok v) (Err (OutOfRange what token)) in
    ap (judged what token) found.split
    ∙ ap (λ t. cond t inner (Err (BadByte place))) found.are_digits
    ∙ ap (λ t. cond t (Ok v) (Err (OutOfRange what token)))
    (range_same what number v found.limit ∙ out)

-- a number in its range is read
pub took_number : (what : Field) (old new : Reader) (start number : ℕ) →
    BeginsNumber old.bytes.now old.at start new.at number → in_range what number ≡ true →
    new.bytes.now ≡ old.bytes.now → new.tokens ≡ old.tokens + 1 →
    Took (what ∷ []) (number ∷ []) old new
took_number what old new start number found admitted same tokens =
    let bounds = range_bounds what number admitted in
    let bound = greatest_bound what in
    let read : value found.digits ≡ number = omega (arith, found.limit) in
    record {
      used = word start found.digits ∷ [];
      split =
          found.split
          ∙ ap (λ text. word start found.digits ∷ words_from new.at (drop new.at text)) (sym same);
      right = (
        record {
          digits = found.are_digits;
          range =
              range_same what number (value found.digits) found.limit ∙ admitted;
        },
        tt,
      );
      values_are = ap (λ n. n ∷ []) read;
      place = sym found.ends;
      tokens_are = tokens;
      same = same;
    }
