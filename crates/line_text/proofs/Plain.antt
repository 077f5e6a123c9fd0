-- Words with neither spaces nor line feeds: their lines and texts are cut into them again.
use Rattle.std.proofs.Common.{ℕ, suc, ◌+◌, ◌^◌, ◌<◌, ◌≡◌, Bool, true, not, ◌&&◌, List, []}
use Rattle.std.proofs.Common.{◌∷◌, ◌++◌, flat_map, length, All, ℤ, pos, negsuc, eqb, refl, sym, ap}
use Rattle.std.proofs.Common.{◌∙◌, arith, append_assoc}
use Rattle.std.proofs.lemmas.Fmt.{decimal_injective}
use Rattle.std.proofs.lemmas.Int.{ints}
use Rattle.std.proofs.lemmas.Bool.{and_parts, and_from}
use Rattle.std.proofs.lemmas.List.{append-nil}
use Rattle.std.proofs.lemmas.List.Elements.{All-head, All-tail}
use Rattle.std.proofs.lemmas.List.Splits.{join_with_byte-slice_split}
use Rattle.std.specs.List.{list_all}
use Rattle.std.specs.Fmt.{decimal, signed_decimal}
use Rattle.line_text.specs.Lines.{text_lines, text_of}
use Rattle.line_text.specs.Words.{line_words, line_of}
use Rattle.line_text.specs.Numbers.{ordinal, ordinals, signed_numbers, IsWithin}
use Rattle.line_text.proofs.Cuts.{lacks, lines-first, words-first, words-alone}
use Rattle.line_text.proofs.Numerals.{lacks-decimal}

-- whether a word has neither a space nor a line feed
abbrev pub is_plain : List ℕ → Bool
is_plain word = lacks 32 word && lacks 10 word

abbrev pub are_plain : List (List ℕ) → Bool
are_plain words = list_all is_plain words

-- of plain words the first and the others are plain
plain-head : (word : List ℕ) (words : List (List ℕ)) → are_plain (word ∷ words) ≡ true
    → (lacks 32 word ≡ true) × (lacks 10 word ≡ true)
plain-head word words h =
    and_parts (lacks 32 word) (lacks 10 word) (and_parts (is_plain word) (are_plain words) h).0

plain-tail : (word : List ℕ) (words : List (List ℕ)) → are_plain (word ∷ words) ≡ true
    → are_plain words ≡ true
plain-tail word words h = (and_parts (is_plain word) (are_plain words) h).1

pub are_plain-append : (xs ys : List (List ℕ)) → are_plain xs ≡ true → are_plain ys ≡ true
    → are_plain (xs ++ ys) ≡ true
are_plain-append [] ys h k = k
are_plain-append (x ∷ xs) ys h k =
    let p = and_parts (is_plain x) (are_plain xs) h in
    and_from (is_plain x) (are_plain (xs ++ ys)) p.0 (are_plain-append xs ys p.1 k)

-- numbers are plain
pub plain-decimal : (n : ℕ) → n < 2 ^ 64 → is_plain (decimal n) ≡ true
plain-decimal n small =
    and_from (lacks 32 (decimal n)) (lacks 10 (decimal n))
    (lacks-decimal 32 n (omega arith) small) (lacks-decimal 10 n (omega arith) small)

pub plain-ordinals : (most : ℕ) (things : List ℕ) → most < 2 ^ 63
    → All (λ thing. thing < most) things → are_plain (ordinals things) ≡ true
plain-ordinals most [] small all = refl
plain-ordinals most (thing ∷ things) small all =
    let h : thing < most = All-head (λ t. t < most) thing things all in
    and_from (is_plain (ordinal thing)) (are_plain (ordinals things))
    (plain-decimal (thing + 1) (omega arith))
    (plain-ordinals most things small (All-tail (λ t. t < most) thing things all))

plain-signed : (limit : ℕ) (number : ℤ) → limit < 2 ^ 63 → IsWithin limit number
    → is_plain (signed_decimal number) ≡ true
plain-signed limit (pos n) small w = plain-decimal n (omega (arith, ints))
plain-signed limit (negsuc m) small w = plain-decimal (suc m) (omega (arith, ints))

pub plain-signed_numbers : (limit : ℕ) (numbers : List ℤ) → limit < 2 ^ 63
    → All (IsWithin limit) numbers → are_plain (signed_numbers numbers) ≡ true
plain-signed_numbers limit [] small all = refl
plain-signed_numbers limit (number ∷ numbers) small all =
    and_from (is_plain (signed_decimal number)) (are_plain (signed_numbers numbers))
    (plain-signed limit number small (All-head (IsWithin limit) number numbers all))
    (plain-signed_numbers limit numbers small (All-tail (IsWithin limit) number numbers all))

-- a line of words, with the space in front of each word but the first
pub line-cons : (word : List ℕ) (words : List (List ℕ))
    → line_of (word ∷ words) ≡ word ++ flat_map (λ w. 32 ∷ w) words
line-cons word [] = sym (append-nil word)
line-cons word (next ∷ words) = ap (λ rest. word ++ 32 ∷ rest) (line-cons next words)

-- plain words are the words of their line
pub words-line : (words : List (List ℕ)) → 0 < length words → are_plain words ≡ true
    → line_words (line_of words) ≡ words
words-line [] some h = absurd (omega arith)
words-line (word ∷ []) some h = words-alone word (plain-head word [] h).0
words-line (word ∷ next ∷ words) some h =
    words-first word (line_of (next ∷ words)) (plain-head word (next ∷ words) h).0
    ∙ ap (λ rest. word ∷ rest)
    (words-line (next ∷ words) (omega arith) (plain-tail word (next ∷ words) h))

-- the words of a line make that line
pub line-words : (line : List ℕ) → line_of (line_words line) ≡ line
line-words line = join_with_byte-slice_split 32 line

lacks-append : (c : ℕ) (xs ys : List ℕ) → lacks c xs ≡ true → lacks c ys ≡ true
    → lacks c (xs ++ ys) ≡ true
lacks-append c [] ys h k = k
lacks-append c (x ∷ xs) ys h k =
    let p = and_parts (not (eqb x c)) (lacks c xs) h in
    and_from (not (eqb x c)) (lacks c (xs ++ ys)) p.0 (lacks-append c xs ys p.1 k)

-- a line of plain words has no line feed
pub lacks-line : (words : List (List ℕ)) → are_plain words ≡ true
    → lacks 10 (line_of words) ≡ true
lacks-line [] h = refl
lacks-line (word ∷ []) h = (plain-head word [] h).1
lacks-line (word ∷ next ∷ words) h =
    lacks-append 10 word (32 ∷ line_of (next ∷ words)) (plain-head word (next ∷ words) h).1
    (lacks-line (next ∷ words) (plain-tail word (next ∷ words) h))

-- lines without line feeds are the lines of their text
pub lines-text : (lines : List (List ℕ)) → list_all (lacks 10) lines ≡ true
    → text_lines (text_of lines) ≡ lines
lines-text [] h = refl
lines-text (line ∷ lines) h =
    let p = and_parts (lacks 10 line) (list_all (lacks 10) lines) h in
    lines-first line (text_of lines) p.0 ∙ ap (λ rest. line ∷ rest) (lines-text lines p.1)

pub text_of-append : (xs ys : List (List ℕ)) → text_of (xs ++ ys) ≡ text_of xs ++ text_of ys
text_of-append [] ys = refl
text_of-append (x ∷ xs) ys =
    ap (λ l. x ++ 10 ∷ l) (text_of-append xs ys)
    ∙ sym (append_assoc x (10 ∷ text_of xs) (text_of ys))

-- the words of a list of things stand for one list
pub ordinals-injective : (most : ℕ) (xs ys : List ℕ) → most < 2 ^ 63 → All (λ x. x < most) xs
    → All (λ y. y < most) ys → ordinals xs ≡ ordinals ys → xs ≡ ys
ordinals-injective most [] [] small h k e = refl
ordinals-injective most [] (y ∷ ys) small h k e =
    absurd (let z : [] ≡ ordinal y ∷ ordinals ys = e in cc)
ordinals-injective most (x ∷ xs) [] small h k e =
    absurd (let z : ordinal x ∷ ordinals xs ≡ [] = e in cc)
ordinals-injective most (x ∷ xs) (y ∷ ys) small h k e =
    let z : ordinal x ∷ ordinals xs ≡ ordinal y ∷ ordinals ys = e in
    let d : ordinal x ≡ ordinal y = cc in let t : ordinals xs ≡ ordinals ys = cc in
    let l : x < most = All-head (λ n. n < most) x xs h in
    let m : y < most = All-head (λ n. n < most) y ys k in
    let s : x + 1 ≡ y + 1 = decimal_injective (x + 1) (y + 1) (omega arith) (omega arith) d in
    let same : x ≡ y = omega arith in
    let rest : xs ≡ ys = ordinals-injective most xs ys small
    (All-tail (λ n. n < most) x xs h) (All-tail (λ n. n < most) y ys k) t in
    cc
