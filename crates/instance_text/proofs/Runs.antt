-- The words of a text, from its bytes.
use Rattle.std.specs.Prelude.{IsTrue}
use Rattle.std.specs.List.{list_all, prefix_len, AllByRecursion}
use Rattle.std.proofs.Common.{◌≡◌, ℕ, zero, suc, ◌+◌, ◌<◌, ◌≤◌, Bool, true, false, cond, List, []}
use Rattle.std.proofs.Common.{◌∷◌, ◌++◌, length, get_or, drop, refl, ap, sym, ◌∙◌, arith}
use Rattle.std.proofs.lemmas.Bool.{and_parts, and_left, and_right, cond-false}
use Rattle.std.proofs.lemmas.Bool.Decides.{nat_tests}
use Rattle.std.proofs.lemmas.List.{drop_more}
use Rattle.line_text.specs.Lines.{is_white}
use Rattle.line_text.specs.Numbers.{is_digit}
use Rattle.instance_text.specs.Words.{is_cut, Word, word, with_byte, words_from}

-- a digit is no white space
pub digit_is_solid : (b : ℕ) → is_digit b ≡ true → is_white b ≡ false
digit_is_solid b h = grind (arith, nat_tests)

-- white space in front is passed over
words_space : (at b : ℕ) (text : List ℕ) → is_white b ≡ true →
    words_from at (b ∷ text) ≡ words_from (suc at) text
words_space at b text e =
    ap (λ c. cond c (words_from (suc at) text) (with_byte at b (is_cut text)
    (words_from (suc at) text))) e

-- a byte that isn't white space belongs to the first word
words_solid : (at b : ℕ) (text : List ℕ) → is_white b ≡ false →
    words_from at (b ∷ text) ≡ with_byte at b (is_cut text) (words_from (suc at) text)
words_solid at b text e =
    ap (λ c. cond c (words_from (suc at) text) (with_byte at b (is_cut text)
    (words_from (suc at) text))) e

-- a byte that is a word
with_byte-cut : (at b : ℕ) (ws : List Word) → with_byte at b true ws ≡ word at (b ∷ []) ∷ ws
with_byte-cut at b [] = refl
with_byte-cut at b (w ∷ ws) = refl

-- white space between two places is passed over
pub words_skip : (text : List ℕ) (from d : ℕ) → from + d ≤ length text →
    ((k : ℕ) → from ≤ k → k < from + d → is_white (get_or text k 0) ≡ true) →
    words_from from (drop from text) ≡ words_from (from + d) (drop (from + d) text)
words_skip text from zero within blank =
    let e : from + 0 ≡ from = omega arith in ap (λ i. words_from i (drop i text)) (sym e)
words_skip text from (suc d) within blank =
    let e : from + 1 ≡ suc from = omega arith in
    let f : suc from + d ≡ from + suc d = omega arith in
    let here : is_white (get_or text from 0) ≡ true = blank from (omega arith) (omega arith) in
    ap (words_from from) (drop_more text from 0 (omega arith))
    ∙ words_space from (get_or text from 0) (drop (from + 1) text) here
    ∙ ap (λ i. words_from (suc from) (drop i text)) e
    ∙ words_skip text (suc from) d (omega arith) (λ k low high. blank k (omega arith) (omega arith))
    ∙ ap (λ i. words_from i (drop i text)) f

-- white space alone has no word
pub words_blank : (at : ℕ) (text : List ℕ) → AllByRecursion (λ b. IsTrue (is_white b)) text →
    words_from at text ≡ []
words_blank at [] blank = refl
words_blank at (b ∷ text) blank =
    words_space at b text blank.0 ∙ words_blank (suc at) text blank.1

-- a run of digits that ends a word is the first word
words_run : (at b : ℕ) (w rest : List ℕ) → list_all is_digit (b ∷ w) ≡ true →
    is_cut rest ≡ true →
    words_from at ((b ∷ w) ++ rest) ≡ word at (b ∷ w) ∷ words_from (at + length (b ∷ w)) rest
words_run at b [] rest digits cut =
    let e : suc at ≡ at + 1 = omega arith in
    let first = and_parts (is_digit b) true digits in
    words_solid at b rest (digit_is_solid b first.0)
    ∙ ap (λ c. with_byte at b c (words_from (suc at) rest)) cut
    ∙ with_byte-cut at b (words_from (suc at) rest)
    ∙ ap (λ i. word at (b ∷ []) ∷ words_from i rest) e
words_run at b (c ∷ w) rest digits cut =
    let first = and_parts (is_digit b) (list_all is_digit (c ∷ w)) digits in
    let second = and_parts (is_digit c) (list_all is_digit w) first.1 in
    let e : suc at + length (c ∷ w) ≡ at + length (b ∷ c ∷ w) = omega arith in
    words_solid at b ((c ∷ w) ++ rest) (digit_is_solid b first.0)
    ∙ ap (λ d. with_byte at b d (words_from (suc at) ((c ∷ w) ++ rest)))
    (digit_is_solid c second.0)
    ∙ ap (with_byte at b false) (words_run (suc at) c w rest first.1 cut)
    ∙ ap (λ i. word at (b ∷ c ∷ w) ∷ words_from i rest) e

-- a run of digits that isn't empty, as words
pub run_front : (at : ℕ) (w rest : List ℕ) → 0 < length w → list_all is_digit w ≡ true →
    is_cut rest ≡ true → words_from at (w ++ rest) ≡ word at w ∷ words_from (at + length w) rest
run_front at [] rest some digits cut = absurd (omega arith)
run_front at (b ∷ w) rest some digits cut = words_run at b w rest digits cut

-- the first word, where some digits and then a byte that is none stand in it
pub record BeginsBad (at count : ℕ) (text : List ℕ) : Type 0 where
  pub first : Word
  pub others : List Word
  pub split : words_from at text ≡ first ∷ others
  pub place : first.at ≡ at
  pub digits : prefix_len is_digit first.bytes ≡ count
  pub bad : list_all is_digit first.bytes ≡ false

-- a byte before other words
bad_first : (at b : ℕ) (text : List ℕ) (cut : Bool) (ws : List Word) → is_digit b ≡ false →
    words_from at (b ∷ text) ≡ with_byte at b cut ws → BeginsBad at 0 (b ∷ text)
bad_first at b text cut [] bad split =
    record {
      first = word at (b ∷ []);
      others = [];
      split = split;
      place = refl;
      digits = cond-false _ _ _ bad;
      bad = and_left _ _ bad;
    }
bad_first at b text true (w ∷ ws) bad split =
    record {
      first = word at (b ∷ []);
      others = w ∷ ws;
      split = split;
      place = refl;
      digits = cond-false _ _ _ bad;
      bad = and_left _ _ bad;
    }
bad_first at b text false (w ∷ ws) bad split =
    record {
      first = word at (b ∷ w.bytes);
      others = ws;
      split = split;
      place = refl;
      digits = cond-false _ _ _ bad;
      bad = and_left _ _ bad;
    }

-- one more leading digit
one_more : (d : ℕ) (text : List ℕ) → is_digit d ≡ true →
    prefix_len is_digit (d ∷ text) ≡ suc (prefix_len is_digit text)
one_more d text e =
    let add : 1 + prefix_len is_digit text ≡ suc (prefix_len is_digit text) = omega arith in
    ap (λ t. cond t (1 + prefix_len is_digit text) 0) e ∙ add

pub words_bad : (at b : ℕ) (ds text : List ℕ) → list_all is_digit ds ≡ true →
    is_digit b ≡ false → is_white b ≡ false → BeginsBad at (length ds) (ds ++ b ∷ text)
words_bad at b [] text digits bad solid =
    bad_first at b text (is_cut text) (words_from (suc at) text) bad (words_solid at b text solid)
words_bad at b (d ∷ ds) text digits bad solid =
    let parts = and_parts (is_digit d) (list_all is_digit ds) digits in
    let rest = words_bad (suc at) b ds text parts.1 bad solid in
    record {
      first = word at (d ∷ rest.first.bytes);
      others = rest.others;
      split =
          words_solid at d (ds ++ b ∷ text) (digit_is_solid d parts.0)
          ∙ ap (λ c. with_byte at d c (words_from (suc at) (ds ++ b ∷ text)))
          (goes_on ds b text parts.1 solid)
          ∙ ap (with_byte at d false) rest.split;
      place = refl;
      digits = one_more d rest.first.bytes parts.0 ∙ ap suc rest.digits;
      bad = and_right _ _ rest.bad;
    }
  where
    goes_on : (ds : List ℕ) (b : ℕ) (text : List ℕ) → list_all is_digit ds ≡ true →
        is_white b ≡ false → is_cut (ds ++ b ∷ text) ≡ false
    goes_on [] b text digits solid = solid
    goes_on (d ∷ ds) b text digits solid =
        digit_is_solid d (and_parts (is_digit d) (list_all is_digit ds) digits).0
