-- Cutting bytes at one byte: a text at its line feeds, a line at its spaces.
use Rattle.std.proofs.Common.{ℕ, zero, suc, ◌+◌, ◌<◌, ◌≤◌, ◌≡◌, Bool, true, false, not, cond, ◌&&◌}
use Rattle.std.proofs.Common.{List, [], ◌∷◌, ◌++◌, length, take, drop, get_or, take_all, IsTrue}
use Rattle.std.proofs.Common.{◌↔◌, if◌then◌else◌, length-drop, slice_range, ◌-◌, Some, None, eqb}
use Rattle.std.proofs.Common.{eqb-true, refl, sym, ap, ◌∙◌, arith}
use Rattle.std.specs.List.{onto_first}
use Rattle.std.proofs.lemmas.List.Splits.{length-slice_split}
use Rattle.memchr.specs.Find.{IsFirstByte, is_byte}
use Rattle.line_text.specs.Lines.{text_lines}
use Rattle.line_text.specs.Words.{line_words}

-- whether a byte stands nowhere in a list
abbrev pub lacks : ℕ → List ℕ → Bool
lacks c [] = true
lacks c (b ∷ bytes) = not (eqb b c) && lacks c bytes

lacks-head : (c b : ℕ) (bytes : List ℕ) → lacks c (b ∷ bytes) ≡ true → eqb b c ≡ false
lacks-head c b bytes h = of_not (eqb b c) (lacks c bytes) h
  where
    of_not : (x y : Bool) → (not x && y) ≡ true → x ≡ false
    of_not true y h = sym h
    of_not false y h = refl

lacks-tail : (c b : ℕ) (bytes : List ℕ) → lacks c (b ∷ bytes) ≡ true → lacks c bytes ≡ true
lacks-tail c b bytes h = of_not (eqb b c) (lacks c bytes) h
  where
    of_not : (x y : Bool) → (not x && y) ≡ true → y ≡ true
    of_not true true h = refl
    of_not true false h = h
    of_not false y h = h

-- a line feed ends the first line
pub lines-first : (line rest : List ℕ) → lacks 10 line ≡ true
    → text_lines (line ++ 10 ∷ rest) ≡ line ∷ text_lines rest
lines-first [] rest h = refl
lines-first (b ∷ line) rest h =
    rw (lacks-head 10 b line h)
    (ap (onto_first b) (lines-first line rest (lacks-tail 10 b line h)))

-- the last line may lack it
pub lines-alone : (line : List ℕ) → 0 < length line → lacks 10 line ≡ true
    → text_lines line ≡ line ∷ []
lines-alone [] l h = absurd (omega arith)
lines-alone (b ∷ []) l h = rw (lacks-head 10 b [] h) refl
lines-alone (b ∷ d ∷ line) l h =
    rw (lacks-head 10 b (d ∷ line) h)
    (ap (onto_first b) (lines-alone (d ∷ line) (omega arith) (lacks-tail 10 b (d ∷ line) h)))

-- a space ends the first word
pub words-first : (word rest : List ℕ) → lacks 32 word ≡ true
    → line_words (word ++ 32 ∷ rest) ≡ word ∷ line_words rest
words-first [] rest h = refl
words-first (b ∷ word) rest h =
    rw (lacks-head 32 b word h)
    (ap (onto_first b) (words-first word rest (lacks-tail 32 b word h)))

pub words-alone : (word : List ℕ) → lacks 32 word ≡ true → line_words word ≡ word ∷ []
words-alone [] h = refl
words-alone (b ∷ word) h =
    rw (lacks-head 32 b word h) (ap (onto_first b) (words-alone word (lacks-tail 32 b word h)))

pub length-text_lines : (text : List ℕ) → length (text_lines text) ≤ length text
length-text_lines [] = omega arith
length-text_lines (b ∷ text) = one_more (eqb b 10) b (text_lines text) (length-text_lines text)
  where
    one_more : (x : Bool) (b : ℕ) (lines : List (List ℕ)) → length lines ≤ length text
        → length (cond x ([] ∷ lines) (onto_first b lines)) ≤ suc (length text)
    one_more true b lines h = omega arith
    one_more false b [] h = omega arith
    one_more false b (line ∷ lines) h = omega arith

-- a byte that is first found at a place: what stands before it lacks it
lacks-take : (c : ℕ) (bytes : List ℕ) (i : ℕ) → i ≤ length bytes
    → ((k : ℕ) → k < i → eqb (get_or bytes k 0) c ≡ false) → lacks c (take i bytes) ≡ true
lacks-take c bytes zero l h = refl
lacks-take c [] (suc i) l h = refl
lacks-take c (b ∷ bytes) (suc i) l h =
    let e : eqb b c ≡ false = h 0 (omega arith) in
    rw e (lacks-take c bytes i (omega arith) (λ k m. h (suc k) (omega arith)))

not-true : (b : Bool) → ¬ (b ≡ true) → b ≡ false
not-true true h = absurd (h refl)
not-true false h = refl

-- the parts round a byte
pub at-place : (c : ℕ) (bytes : List ℕ) (i : ℕ) → i < length bytes
    → eqb (get_or bytes i 0) c ≡ true → bytes ≡ take i bytes ++ c ∷ drop (i + 1) bytes
at-place c bytes i l h =
    let e : i + 1 ≡ suc i = omega arith in rw e (from bytes i l h)
  where
    from : (bytes : List ℕ) (i : ℕ) → i < length bytes → eqb (get_or bytes i 0) c ≡ true
        → bytes ≡ take i bytes ++ c ∷ drop (suc i) bytes
    from [] i l h = absurd (omega arith)
    from (b ∷ bytes) zero l h = ap (λ x. x ∷ bytes) (eqb-true b c h)
    from (b ∷ bytes) (suc i) l h = ap (λ x. b ∷ x) (from bytes i (omega arith) h)

-- where a byte is first found, the bytes are cut there
pub record IsCut (c : ℕ) (bytes : List ℕ) (i : ℕ) : Type 0 where
  pub within : i < length bytes
  pub before : lacks c (take i bytes) ≡ true
  pub parts : bytes ≡ take i bytes ++ c ∷ drop (i + 1) bytes

pub cut-at : (c : ℕ) (bytes : List ℕ) (i : ℕ) → IsFirstByte (is_byte c) bytes (Some i)
    → IsCut c bytes i
cut-at c bytes i h =
    record {
      within = h.0.high;
      before = lacks-take c bytes i (omega (arith, h.0.high))
          (λ k m. not-true _ (h.0.before k (omega arith) m));
      parts = at-place c bytes i h.0.high h.1;
    }

pub uncut : (c : ℕ) (bytes : List ℕ) → IsFirstByte (is_byte c) bytes None → lacks c bytes ≡ true
uncut c bytes h =
    let front : lacks c (take (length bytes) bytes) ≡ true =
    lacks-take c bytes (length bytes) (omega arith)
    (λ k m. not-true _ (h k (omega arith) m)) in
    rw (take_all (length bytes) bytes (omega arith)) at front

-- what stands behind a place
pub range-drop : (bytes : List ℕ) (i : ℕ) → slice_range bytes i (length bytes) ≡ drop i bytes
range-drop bytes i =
    take_all (length bytes - i) (drop i bytes) (omega (arith, length-drop i bytes))

pub lines-cut : (text : List ℕ) (i : ℕ) → IsFirstByte (is_byte 10) text (Some i)
    → text_lines text ≡ take i text ∷ text_lines (slice_range text (i + 1) (length text))
lines-cut text i h =
    let c = cut-at 10 text i h in
    ap text_lines c.parts ∙ lines-first (take i text) (drop (i + 1) text) c.before
    ∙ ap (λ rest. take i text ∷ text_lines rest) (sym (range-drop text (i + 1)))

pub words-cut : (line : List ℕ) (i : ℕ) → IsFirstByte (is_byte 32) line (Some i)
    → line_words line ≡ take i line ∷ line_words (slice_range line (i + 1) (length line))
words-cut line i h =
    let c = cut-at 32 line i h in
    ap line_words c.parts ∙ words-first (take i line) (drop (i + 1) line) c.before
    ∙ ap (λ rest. take i line ∷ line_words rest) (sym (range-drop line (i + 1)))

-- a line has at least one word
pub is_empty-words : (ended : Bool) (line : List ℕ)
    → IsTrue ended ↔ ((if ended then [] else line_words line) ≡ [])
is_empty-words true line = (λ _. refl, λ _. refl)
is_empty-words false line = (
  λ e. absurd (let z : false ≡ true = e in cc),
  λ e. absurd (omega (arith, length-slice_split (λ b. eqb b 32) line, ap length e)),
)
