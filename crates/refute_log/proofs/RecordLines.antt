-- The lines of a log and their words.
use Rattle.std.proofs.Common.{ℕ, ◌+◌, ◌^◌, ◌<◌, ◌≤◌, ◌≡◌, true, false, List, []}
use Rattle.std.proofs.Common.{◌∷◌, ◌++◌, map, flat_map, length, All, ℤ, pos, ◌-ℤ◌, ◌≤ℤ◌, int_le}
use Rattle.std.proofs.Common.{leb, ltb}
use Rattle.std.proofs.Common.{eqb, codes, refl, sym, ap, ◌∙◌, arith, leb-true, ltb-true}
use Rattle.std.proofs.Common.{append_assoc}
use Rattle.std.proofs.lemmas.Bool.{and_parts, and_from}
use Rattle.std.proofs.lemmas.List.Elements.{All-cons, All-nil}
use Rattle.std.proofs.lemmas.Grind.{flat_map-append}
use Rattle.std.proofs.lemmas.Int.{ints}
use Rattle.std.specs.List.{list_all}
use Rattle.std.specs.Fmt.{decimal, signed_decimal}
use Rattle.line_text.specs.Lines.{is_end}
use Rattle.line_text.specs.Words.{line_words, line_of}
use Rattle.line_text.specs.Numbers.{ordinal, ordinals, signed_numbers, IsWithin}
use Rattle.line_text.proofs.Cuts.{lacks}
use Rattle.line_text.proofs.Plain.{is_plain, are_plain, are_plain-append, plain-decimal}
use Rattle.line_text.proofs.Plain.{plain-ordinals, plain-signed_numbers, line-cons, words-line}
use Rattle.line_text.proofs.Plain.{line-words, lacks-line}
use Rattle.mill_model.specs.declared.closing.Entry.{Entry}
use Rattle.mill_model.specs.declared.closing.Closing.{Closing}
use Rattle.mill_model.specs.declared.closing.Closing.TheVariants.{Split, Leaf, Priced, Dominated}
use Rattle.refute_log.specs.Fits.{path_fits, price_fits, closing_fits, fits}
use Rattle.refute_log.specs.Text.{letter_of, closing_words, record_words, record_line, first_words}
use Rattle.refute_log.specs.Text.{first_line}

-- what the test of a list says of its elements
pub path-numbers : (n : ℕ) (path : List ℕ) → list_all (λ g. ltb g n) path ≡ true
    → All (λ g. g < n) path
path-numbers n [] h = All-nil (λ g. g < n)
path-numbers n (g ∷ path) h =
    let p = and_parts (ltb g n) (list_all (λ g. ltb g n) path) h in
    All-cons (λ g. g < n) g path (ltb-true g n p.0) (path-numbers n path p.1)

int-le-true : (x y : ℤ) → int_le x y ≡ true → x ≤ℤ y
int-le-true x y h = grind (arith, ints)

pub price-numbers : (prices : List ℤ) → list_all price_fits prices ≡ true
    → All (IsWithin 20000000000) prices
price-numbers [] h = All-nil (IsWithin 20000000000)
price-numbers (y ∷ prices) h =
    let p = and_parts (price_fits y) (list_all price_fits prices) h in
    let q = and_parts (int_le (pos 0 -ℤ pos 20000000000) y) (int_le y (pos 20000000000)) p.0 in
    All-cons (IsWithin 20000000000) y prices
    (int-le-true (pos 0 -ℤ pos 20000000000) y q.0, int-le-true y (pos 20000000000) q.1)
    (price-numbers prices p.1)

plain-closing : (n depth : ℕ) (closing : Closing) → n < 2 ^ 63
    → closing_fits n depth closing ≡ true → are_plain (closing_words closing) ≡ true
plain-closing n depth Split small h = refl
plain-closing n depth Leaf small h = refl
plain-closing n depth (Priced prices) small h =
    let p = and_parts (eqb (depth + length prices) n) (list_all price_fits prices) h in
    plain-signed_numbers 20000000000 prices (omega arith) (price-numbers prices p.1)
plain-closing n depth (Dominated other) small h =
    let p = and_parts (path_fits n other) (eqb (length other) depth) h in
    let q = and_parts (leb (length other) n) (list_all (λ g. ltb g n) other) p.0 in
    plain-ordinals n other small (path-numbers n other q.1)

plain-letter : (closing : Closing) → is_plain (letter_of closing) ≡ true
plain-letter Split = refl
plain-letter Leaf = refl
plain-letter (Priced prices) = refl
plain-letter (Dominated other) = refl

-- the words of a record that fits are plain
plain-record : (n : ℕ) (entry : Entry) → n < 2 ^ 63 → fits n entry ≡ true
    → are_plain (record_words entry) ≡ true
plain-record n entry small h =
    let p = and_parts (path_fits n entry.path)
    (closing_fits n (length entry.path) entry.closing) h in
    let q = and_parts (leb (length entry.path) n) (list_all (λ g. ltb g n) entry.path) p.0 in
    let short : length entry.path ≤ n = leb-true (length entry.path) n q.0 in
    and_from (is_plain (letter_of entry.closing))
    (are_plain (decimal (length entry.path)
    ∷ (ordinals entry.path ++ closing_words entry.closing)))
    (plain-letter entry.closing)
    (and_from (is_plain (decimal (length entry.path)))
    (are_plain (ordinals entry.path ++ closing_words entry.closing))
    (plain-decimal (length entry.path) (omega arith))
    (are_plain-append (ordinals entry.path) (closing_words entry.closing)
    (plain-ordinals n entry.path small (path-numbers n entry.path q.1))
    (plain-closing n (length entry.path) entry.closing small p.1)))

-- a record's line is cut into its words
pub words-record : (n : ℕ) (entry : Entry) → n < 2 ^ 63 → fits n entry ≡ true
    → line_words (record_line entry) ≡ record_words entry
words-record n entry small h =
    words-line (record_words entry) (omega arith) (plain-record n entry small h)

pub lacks-record : (n : ℕ) (entry : Entry) → n < 2 ^ 63 → fits n entry ≡ true
    → lacks 10 (record_line entry) ≡ true
lacks-record n entry small h = lacks-line (record_words entry) (plain-record n entry small h)

plain-first : (count : ℕ) → count < 2 ^ 64 → are_plain (first_words count) ≡ true
plain-first count small = rw (plain-decimal count small) refl

pub words-first_line : (count : ℕ) → count < 2 ^ 64
    → line_words (first_line count) ≡ first_words count
words-first_line count small =
    words-line (first_words count) (omega arith) (plain-first count small)

pub lacks-first_line : (count : ℕ) → count < 2 ^ 64 → lacks 10 (first_line count) ≡ true
lacks-first_line count small = lacks-line (first_words count) (plain-first count small)

-- a line of these words
pub line-from_words : (line : List ℕ) (words : List (List ℕ)) → line_words line ≡ words
    → line ≡ line_of words
line-from_words line words h = sym (line-words line) ∙ ap line_of h

-- a record's line is not `end`
pub record-is_no_end : (entry : Entry) → is_end (record_line entry) ≡ false
record-is_no_end entry =
    by_letter entry.closing (decimal (length entry.path) ∷ (ordinals entry.path
    ++ closing_words entry.closing))
  where
    by_letter : (closing : Closing) (words : List (List ℕ))
        → is_end (line_of (letter_of closing ∷ words)) ≡ false
    by_letter Split [] = refl
    by_letter Split (w ∷ words) = refl
    by_letter Leaf [] = refl
    by_letter Leaf (w ∷ words) = refl
    by_letter (Priced prices) [] = refl
    by_letter (Priced prices) (w ∷ words) = refl
    by_letter (Dominated other) [] = refl
    by_letter (Dominated other) (w ∷ words) = refl

flat_map-map : {X : Type 0} (word : X → List ℕ) (xs : List X)
    → flat_map (λ w. 32 ∷ w) (map word xs) ≡ flat_map (λ x. 32 ∷ word x) xs
flat_map-map word [] = refl
flat_map-map word (x ∷ xs) = ap (λ l. (32 ∷ word x) ++ l) (flat_map-map word xs)

pub spaced-prices : (prices : List ℤ)
    → flat_map (λ w. 32 ∷ w) (signed_numbers prices) ≡ flat_map (λ y. 32 ∷ signed_decimal y) prices
spaced-prices prices = flat_map-map signed_decimal prices

pub spaced-path : (path : List ℕ)
    → flat_map (λ w. 32 ∷ w) (ordinals path) ≡ flat_map (λ g. 32 ∷ ordinal g) path
spaced-path path = flat_map-map ordinal path

-- a record's line, part by part
pub record-parts : (entry : Entry) → record_line entry
    ≡ letter_of entry.closing ++ (32 ∷ decimal (length entry.path)
    ++ (flat_map (λ g. 32 ∷ ordinal g) entry.path
    ++ flat_map (λ w. 32 ∷ w) (closing_words entry.closing)))
record-parts entry =
    line-cons (letter_of entry.closing)
    (decimal (length entry.path) ∷ (ordinals entry.path ++ closing_words entry.closing))
    ∙ ap (λ l. letter_of entry.closing ++ (32 ∷ decimal (length entry.path) ++ l))
    (flat_map-append (λ w. 32 ∷ w) (ordinals entry.path) (closing_words entry.closing)
    ∙ ap (λ l. l ++ flat_map (λ w. 32 ∷ w) (closing_words entry.closing))
    (spaced-path entry.path))

-- a record's line is put in as its letter with the length of the path, the path, and the rest
pub put-parts : (entry : Entry) (letter path : List ℕ)
    → letter ≡ letter_of entry.closing ++ 32 ∷ [] → path ≡ entry.path
    → record_line entry ++ 10 ∷ [] ≡ (letter ++ decimal (length path))
    ++ (flat_map (λ g. 32 ∷ ordinal g) path
    ++ (flat_map (λ w. 32 ∷ w) (closing_words entry.closing) ++ 10 ∷ []))
put-parts entry letter path l p =
    let closing = flat_map (λ w. 32 ∷ w) (closing_words entry.closing) in
    ap (λ line. line ++ 10 ∷ []) (record-parts entry)
    ∙ rw (l, p) (grouped (letter_of entry.closing) (decimal (length entry.path))
    (flat_map (λ g. 32 ∷ ordinal g) entry.path) closing)
  where
    grouped : (letter number path closing : List ℕ)
        → (letter ++ (32 ∷ number ++ (path ++ closing))) ++ 10 ∷ []
        ≡ ((letter ++ 32 ∷ []) ++ number) ++ (path ++ (closing ++ 10 ∷ []))
    grouped letter number path closing = simp append_assoc

-- what stands behind the first two words of a first line
pub count-behind : (line : List ℕ) (rest : List (List ℕ)) (count : ℕ) → count < 2 ^ 64
    → line_words line ≡ codes "log" ∷ codes "1" ∷ rest → line ≡ first_line count
    → rest ≡ decimal count ∷ []
count-behind line rest count small words is =
    let w : line_words line ≡ first_words count =
    ap line_words is ∙ words-first_line count small in
    same rest (sym words ∙ w)
  where
    same : (rest : List (List ℕ)) → codes "log" ∷ codes "1" ∷ rest ≡ first_words count
        → rest ≡ decimal count ∷ []
    same rest e = cc

pub only-count : (m n : ℕ) (rest behind : List (List ℕ)) → rest ≡ decimal m ∷ []
    → rest ≡ decimal n ∷ behind → behind ≡ []
only-count m n rest behind d e = same behind (sym d ∙ e)
  where
    same : (behind : List (List ℕ)) → decimal m ∷ [] ≡ decimal n ∷ behind → behind ≡ []
    same behind e = cc
