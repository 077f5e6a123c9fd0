-- The tokens of a text, without the places of its words: white space in front is passed over, and
-- the first token is what stands before the next white space.
use Rattle.std.specs.Prelude.{IsTrue}
use Rattle.std.specs.List.{prefix_len}
use Rattle.std.proofs.Common.{◌≡◌, ℕ, suc, ◌+◌, ◌-◌, ◌<◌, Bool, true, false, not, cond, List}
use Rattle.std.proofs.Common.{[], ◌∷◌, map, length, get_or, take, drop, refl, sym, ap, ◌∙◌}
use Rattle.std.proofs.Common.{arith, inl, inr}
use Rattle.std.proofs.lemmas.Bool.{cases_Bool}
use Rattle.std.proofs.lemmas.List.{length-drop, get_or-drop, take_rest}
use Rattle.std.proofs.lemmas.List.Elements.{recursion_from_All}
use Rattle.line_text.specs.Lines.{is_white}
use Rattle.instance_text.specs.Words.{Word, is_cut, with_byte, words_from, IsBlankFrom}
use Rattle.instance_text.specs.Words.{IsFirstNotBlank}
use Rattle.instance_text.proofs.Runs.{words_skip, words_blank}
use Rattle.schedule_text.specs.Text.{tokens_of}

abbrev texts : List Word → List (List ℕ)
texts ws = map (λ word. word.bytes) ws

-- `with_byte` on the texts of words
abbrev with_front : ℕ → Bool → List (List ℕ) → List (List ℕ)
with_front b cut [] = (b ∷ []) ∷ []
with_front b cut (t ∷ ts) = cond cut ((b ∷ []) ∷ t ∷ ts) ((b ∷ t) ∷ ts)

texts-with : (at b : ℕ) (cut : Bool) (ws : List Word) →
    texts (with_byte at b cut ws) ≡ with_front b cut (texts ws)
texts-with at b cut [] = refl
texts-with at b true (w ∷ ws) = refl
texts-with at b false (w ∷ ws) = refl

texts-white : (at b : ℕ) (text : List ℕ) → is_white b ≡ true →
    texts (words_from at (b ∷ text)) ≡ texts (words_from (suc at) text)
texts-white at b text e =
    ap (λ c. texts (cond c (words_from (suc at) text) (with_byte at b (is_cut text)
    (words_from (suc at) text)))) e

texts-solid : (at b : ℕ) (text : List ℕ) → is_white b ≡ false →
    texts (words_from at (b ∷ text))
    ≡ with_front b (is_cut text) (texts (words_from (suc at) text))
texts-solid at b text e =
    ap (λ c. texts (cond c (words_from (suc at) text) (with_byte at b (is_cut text)
    (words_from (suc at) text)))) e
    ∙ texts-with at b (is_cut text) (words_from (suc at) text)

-- the place where a text begins is nothing to its tokens
anywhere : (at there : ℕ) (text : List ℕ) →
    texts (words_from at text) ≡ texts (words_from there text)
anywhere at there [] = refl
anywhere at there (b ∷ text) = elim (cases_Bool (is_white b)) [
  | inl w ↦ texts-white at b text w ∙ anywhere (suc at) (suc there) text
      ∙ sym (texts-white there b text w)
  | inr s ↦ texts-solid at b text s
      ∙ ap (with_front b (is_cut text)) (anywhere (suc at) (suc there) text)
      ∙ sym (texts-solid there b text s)
]

-- no token stands in white space
pub tokens-blank : (text : List ℕ) → IsBlankFrom text 0 → tokens_of text ≡ []
tokens-blank text blank =
    ap texts (words_blank 0 text (recursion_from_All (λ b. IsTrue (is_white b)) text blank))

-- white space in front is passed over
pub tokens-skip : (text : List ℕ) (start : ℕ) → IsFirstNotBlank text 0 start →
    tokens_of text ≡ tokens_of (drop start text)
tokens-skip text start first =
    let same : 0 + start ≡ start = omega arith in
    ap texts (words_skip text 0 start (omega (arith, first.within))
    (λ k low high. first.blank k low (omega arith)))
    ∙ anywhere (0 + start) 0 (drop (0 + start) text)
    ∙ ap (λ n. tokens_of (drop n text)) same

-- how many bytes stand in front of the first white space
abbrev pub front_length : List ℕ → ℕ
front_length text = prefix_len (λ byte. not (is_white byte)) text

-- the first token is what stands before the next white space
first-token : (at b : ℕ) (text : List ℕ) → is_white b ≡ false →
    texts (words_from at (b ∷ text))
    ≡ (b ∷ take (front_length text) text)
    ∷ texts (words_from at (drop (front_length text) text))
first-token at b [] s = texts-solid at b [] s
first-token at b (c ∷ text) s = elim (cases_Bool (is_white c)) [
  | inl w ↦ (
      let none : front_length (c ∷ text) ≡ 0 = rw w refl in
      texts-solid at b (c ∷ text) s
      ∙ ap (λ cut. with_front b cut (texts (words_from (suc at) (c ∷ text)))) w
      ∙ alone (texts (words_from (suc at) (c ∷ text)))
      ∙ ap (λ ts. (b ∷ []) ∷ ts) (anywhere (suc at) at (c ∷ text))
      ∙ ap (λ n. (b ∷ take n (c ∷ text)) ∷ texts (words_from at (drop n (c ∷ text)))) (sym none)
      )
  | inr t ↦ (
      let more : front_length (c ∷ text) ≡ suc (front_length text) =
      rw t (omega arith) in
      texts-solid at b (c ∷ text) s
      ∙ ap (λ cut. with_front b cut (texts (words_from (suc at) (c ∷ text)))) t
      ∙ ap (with_front b false) (first-token (suc at) c text t)
      ∙ ap (λ ts. (b ∷ c ∷ take (front_length text) text) ∷ ts)
      (anywhere (suc at) at (drop (front_length text) text))
      ∙ ap (λ n. (b ∷ take n (c ∷ text)) ∷ texts (words_from at (drop n (c ∷ text)))) (sym more)
      )
]
  where
    alone : (ts : List (List ℕ)) → with_front b true ts ≡ (b ∷ []) ∷ ts
    alone [] = refl
    alone (t ∷ ts) = refl

-- the same of a text in which something stands at a place
pub token-cut : (text : List ℕ) → 0 < length text → is_white (get_or text 0 0) ≡ false →
    tokens_of text
    ≡ take (front_length text) text ∷ tokens_of (drop (front_length text) text)
token-cut [] some solid = absurd (omega arith)
token-cut (b ∷ text) some solid =
    let more : front_length (b ∷ text) ≡ suc (front_length text) = rw solid (omega arith) in
    first-token 0 b text solid
    ∙ ap (λ n. take n (b ∷ text) ∷ tokens_of (drop n (b ∷ text))) (sym more)

-- the same of the part of a text behind white space, and of the parts that are cut from it
pub next-token : (text : List ℕ) (start count : ℕ) → IsFirstNotBlank text 0 start →
    let front = take (length text - start) (drop start text) in
    count ≡ front_length front →
    tokens_of text ≡ take count front ∷ tokens_of (take (length front - count) (drop count front))
next-token text start count first e =
    let rest : List ℕ = drop start text in
    let same : take (length text - start) rest ≡ rest = take_rest text start in
    let some : 0 < length rest = omega (arith, length-drop start text, first.within) in
    let solid : is_white (get_or rest 0 0) ≡ false =
    ap is_white (get_or-drop start text 0 0 ∙ ap (λ i. get_or text i 0) (omega arith))
    ∙ first.solid in
    tokens-skip text start first
    ∙ token-cut rest some solid
    ∙ ap (λ n. take n rest ∷ tokens_of (drop n rest)) (sym (e ∙ ap front_length same))
    ∙ ap (λ ts. take count rest ∷ tokens_of ts) (sym (take_rest rest count))
    ∙ ap (λ us. take count us ∷ tokens_of (take (length us - count) (drop count us))) (sym same)
