-- The lines of an answer: their words, and what they are read back as.
use Rattle.std.proofs.Common.{ℕ, ◌+◌, ◌^◌, ◌<◌, ◌≤◌, ◌≡◌, Bool, true, List, [], ◌∷◌, length, codes}
use Rattle.std.proofs.Common.{refl, sym, ap, ◌∙◌, arith}
use Rattle.std.proofs.lemmas.Fmt.{decimal_injective}
use Rattle.std.specs.Fmt.{decimal}
use Rattle.line_text.specs.Words.{line_words, line_of}
use Rattle.line_text.specs.Numbers.{ordinal, ordinals}
use Rattle.line_text.proofs.Cuts.{lacks}
use Rattle.line_text.proofs.Plain.{is_plain, are_plain, plain-decimal, plain-ordinals, words-line}
use Rattle.line_text.proofs.Plain.{line-words, lacks-line, ordinals-injective}
use Rattle.answer_text.specs.Line.{Line, kind, loss, plan, spent, order, words_of, spell, IsWithin}
use Rattle.mill_model.specs.declared.limits.TheConstants.{MAX_NODES}

-- whether the name of a kind is plain
abbrev pub plain_name : Line → Bool
plain_name (kind name) = is_plain name
plain_name (loss number) = true
plain_name (plan slabs) = true
plain_name (spent number) = true
plain_name (order place) = true

pub plain-words : (orders : ℕ) (line : Line) → orders < 2 ^ 63 → plain_name line ≡ true
    → IsWithin orders line → are_plain (words_of line) ≡ true
plain-words orders (kind name) small h w = rw h refl
plain-words orders (loss number) small h w =
    let l : number < 2 ^ 64 = omega arith in rw (plain-decimal number l) refl
plain-words orders (plan slabs) small h w = plain-ordinals orders slabs small w.1
plain-words orders (spent number) small h w =
    let l : number < 2 ^ 64 = omega arith in rw (plain-decimal number l) refl
plain-words orders (order place) small h w =
    let l : place + 1 < 2 ^ 64 = omega arith in rw (plain-decimal (place + 1) l) refl

has-words : (line : Line) → 0 < length (words_of line)
has-words (kind name) = omega arith
has-words (loss number) = omega arith
has-words (plan slabs) = omega arith
has-words (spent number) = omega arith
has-words (order place) = omega arith

-- a line is cut into its words
pub words-spell : (orders : ℕ) (line : Line) → orders < 2 ^ 63 → plain_name line ≡ true
    → IsWithin orders line → line_words (spell line) ≡ words_of line
words-spell orders line small h w =
    words-line (words_of line) (has-words line) (plain-words orders line small h w)

pub lacks-spell : (orders : ℕ) (line : Line) → orders < 2 ^ 63 → plain_name line ≡ true
    → IsWithin orders line → lacks 10 (spell line) ≡ true
lacks-spell orders line small h w = lacks-line (words_of line) (plain-words orders line small h w)

-- a line with these words
pub spell-words : (bytes : List ℕ) (line : Line) → line_words bytes ≡ words_of line
    → bytes ≡ spell line
spell-words bytes line h = sym (line-words bytes) ∙ ap line_of h

-- a line says one thing
same-words : (orders : ℕ) (line other : Line) → orders < 2 ^ 63 → plain_name line ≡ true
    → plain_name other ≡ true → IsWithin orders line → IsWithin orders other
    → spell line ≡ spell other → words_of line ≡ words_of other
same-words orders line other small h k w v e =
    sym (words-spell orders line small h w) ∙ ap line_words e ∙ words-spell orders other small k v

pub same-loss : (m n : ℕ) → m ≤ 1000000000000 → n ≤ 1000000000000
    → spell (loss m) ≡ spell (loss n) → m ≡ n
same-loss m n l k e =
    let w : codes "loss" ∷ decimal m ∷ [] ≡ codes "loss" ∷ decimal n ∷ [] =
    same-words 0 (loss m) (loss n) (omega arith) refl refl l k e in
    let d : decimal m ≡ decimal n = cc in
    decimal_injective m n (omega arith) (omega arith) d

pub same-spent : (m n : ℕ) → m ≤ MAX_NODES → n ≤ MAX_NODES
    → spell (spent m) ≡ spell (spent n) → m ≡ n
same-spent m n l k e =
    let w : codes "spent" ∷ decimal m ∷ [] ≡ codes "spent" ∷ decimal n ∷ [] =
    same-words 0 (spent m) (spent n) (omega arith) refl refl l k e in
    let d : decimal m ≡ decimal n = cc in
    decimal_injective m n (omega arith) (omega arith) d

pub same-order : (orders m n : ℕ) → orders < 2 ^ 63 → m < orders → n < orders
    → spell (order m) ≡ spell (order n) → m ≡ n
same-order orders m n small l k e =
    let w : codes "order" ∷ ordinal m ∷ [] ≡ codes "order" ∷ ordinal n ∷ [] =
    same-words orders (order m) (order n) small refl refl l k e in
    let d : ordinal m ≡ ordinal n = cc in
    let s : m + 1 ≡ n + 1 = decimal_injective (m + 1) (n + 1) (omega arith) (omega arith) d in
    omega arith

pub same-plan : (orders : ℕ) (xs ys : List ℕ) → orders < 2 ^ 63 → IsWithin orders (plan xs)
    → IsWithin orders (plan ys) → spell (plan xs) ≡ spell (plan ys) → xs ≡ ys
same-plan orders xs ys small h k e =
    let w : codes "plan" ∷ ordinals xs ≡ codes "plan" ∷ ordinals ys =
    same-words orders (plan xs) (plan ys) small refl refl h k e in
    let o : ordinals xs ≡ ordinals ys = cc in
    ordinals-injective orders xs ys small h.1 k.1 o
