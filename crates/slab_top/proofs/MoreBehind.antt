-- A text with more behind it, where no word goes on into that: it begins with the same words, and
-- so with the same instance, which ends at the same place. Where only white space follows the
-- instance, what is behind it is what was added.
use Rattle.std.specs.Prelude.{All, IsTrue}
use Rattle.std.specs.List.{AllByRecursion}
use Rattle.std.proofs.Common.{◌≡◌, ℕ, suc, ◌+◌, ◌≤◌, Bool, true, false, cond, List, [], ◌∷◌, ◌++◌}
use Rattle.std.proofs.Common.{length, drop, refl, ap, ◌∙◌, subst, arith, append_assoc}
use Rattle.std.proofs.lemmas.List.{drop-append-le}
use Rattle.mill_model.specs.Instance.{Problem}
use Rattle.line_text.specs.Lines.{is_white}
use Rattle.instance_text.specs.Text.{Begins}
use Rattle.instance_text.specs.Words.{Word, with_byte, is_cut, words_from, end_behind, IsBlankFrom}
use Rattle.slab_top.specs.Input.{after_white}

-- ---- the words of a text with more behind it

-- a text that no word begins is cut off before
wordless-cut : (at : ℕ) (text : List ℕ) → words_from at text ≡ [] → is_cut text ≡ true
wordless-cut at [] none = refl
wordless-cut at (byte ∷ text) none =
    by_test (is_white byte) (is_cut text) (words_from (suc at) text) none
  where
    by_test : (white cut : Bool) (ws : List Word) →
        cond white ws (with_byte at byte cut ws) ≡ [] → white ≡ true
    by_test true cut ws none = refl
    by_test false cut [] none = absurd (cc)
    by_test false true (w ∷ ws) none = absurd (cc)
    by_test false false (w ∷ ws) none = absurd (cc)

-- one more byte in front of words
byte-before : (at byte : ℕ) (cut : Bool) (ws more : List Word) → (ws ≡ [] → cut ≡ true) →
    with_byte at byte cut (ws ++ more) ≡ with_byte at byte cut ws ++ more
byte-before at byte true [] [] alone = refl
byte-before at byte true [] (v ∷ more) alone = refl
byte-before at byte false [] more alone = (let no = alone refl in absurd (cc))
byte-before at byte true (w ∷ ws) more alone = refl
byte-before at byte false (w ∷ ws) more alone = refl

cut-before : (text rest : List ℕ) → is_cut rest ≡ true → is_cut (text ++ rest) ≡ is_cut text
cut-before [] rest cut = cut
cut-before (byte ∷ text) rest cut = refl

words-before : (at : ℕ) (text rest : List ℕ) → is_cut rest ≡ true →
    words_from at (text ++ rest) ≡ words_from at text ++ words_from (at + length text) rest
words-before at [] rest cut = ap (λ place. words_from place rest) (omega arith)
words-before at (byte ∷ text) rest cut =
    let ws = words_from (suc at) text in
    let more = words_from (at + length (byte ∷ text)) rest in
    let place : suc at + length text ≡ at + length (byte ∷ text) = omega arith in
    let later : words_from (suc at) (text ++ rest) ≡ ws ++ more =
    words-before (suc at) text rest cut ∙ ap (λ place. ws ++ words_from place rest) place in
    rw (later, cut-before text rest cut) (by_test (is_white byte) ws more
    (wordless-cut (suc at) text))
  where
    by_test : (white : Bool) (ws more : List Word) → (ws ≡ [] → is_cut text ≡ true) →
        cond white (ws ++ more) (with_byte at byte (is_cut text) (ws ++ more))
        ≡ cond white ws (with_byte at byte (is_cut text) ws) ++ more
    by_test true ws more alone = refl
    by_test false ws more alone = byte-before at byte (is_cut text) ws more alone

-- ---- an instance that a text begins with

pub begins-before : (text rest : List ℕ) (problem : Problem) (end : ℕ) → is_cut rest ≡ true →
    Begins text problem end → Begins (text ++ rest) problem end
begins-before text rest problem end cut begins =
    let more = words_from (0 + length text) rest in
    record {
      tokens = begins.tokens;
      others = begins.others ++ more;
      split =
          words-before 0 text rest cut ∙ ap (λ ws. ws ++ more) begins.split
          ∙ append_assoc begins.tokens begins.others more;
      spelled = begins.spelled;
      last = begins.last;
    }

-- a word lies between two places
record IsBetween (low high : ℕ) (w : Word) : Type 0 where
  from : low ≤ w.at
  to : w.at + length w.bytes ≤ high

-- so it does where the first place is sooner
sooner : (at high : ℕ) (ws : List Word) → AllByRecursion (IsBetween (suc at) high) ws →
    AllByRecursion (IsBetween at high) ws
sooner at high [] between = tt
sooner at high (w ∷ ws) between = (
  record { from = omega (arith, between.0.from); to = between.0.to },
  sooner at high ws between.1,
)

byte-between : (at byte high : ℕ) (cut : Bool) (ws : List Word) → at + 1 ≤ high →
    AllByRecursion (IsBetween (suc at) high) ws →
    AllByRecursion (IsBetween at high) (with_byte at byte cut ws)
byte-between at byte high cut [] inside between =
    (record { from = omega arith; to = omega arith }, tt)
byte-between at byte high true (w ∷ ws) inside between =
    (record { from = omega arith; to = omega arith }, sooner at high (w ∷ ws) between)
byte-between at byte high false (w ∷ ws) inside between = (
  record { from = omega arith; to = omega (arith, between.0.from, between.0.to) },
  sooner at high ws between.1,
)

words-between : (at : ℕ) (text : List ℕ) →
    AllByRecursion (IsBetween at (at + length text)) (words_from at text)
words-between at [] = tt
words-between at (byte ∷ text) =
    let high = at + length (byte ∷ text) in
    let place : suc at + length text ≡ high = omega arith in
    let later = subst (λ high. AllByRecursion (IsBetween (suc at) high) (words_from (suc at) text))
    place (words-between (suc at) text) in
    by_test (is_white byte) high (words_from (suc at) text) (omega arith) later
  where
    by_test : (white : Bool) (high : ℕ) (ws : List Word) → at + 1 ≤ high →
        AllByRecursion (IsBetween (suc at) high) ws →
        AllByRecursion (IsBetween at high) (cond white ws (with_byte at byte (is_cut text) ws))
    by_test true high ws inside between = sooner at high ws between
    by_test false high ws inside between =
        byte-between at byte high (is_cut text) ws inside between

end-between : (at low high : ℕ) (tokens others : List Word) → at ≤ high →
    AllByRecursion (IsBetween low high) (tokens ++ others) → end_behind at tokens ≤ high
end-between at low high [] others within between = within
end-between at low high (w ∷ tokens) others within between =
    end-between (w.at + length w.bytes) low high tokens others between.0.to between.1

-- the instance ends within the text
pub ends-within : (text : List ℕ) (problem : Problem) (end : ℕ) → Begins text problem end →
    end ≤ length text
ends-within text problem end begins =
    let high = 0 + length text in
    let within = end-between 0 0 high begins.tokens begins.others (omega arith)
    (subst (λ ws. AllByRecursion (IsBetween 0 high) ws) begins.split (words-between 0 text)) in
    omega (arith, begins.last, within)

-- ---- what is behind it

skips-white : (blanks text : List ℕ) → All (λ byte. IsTrue (is_white byte)) blanks →
    after_white (blanks ++ text) ≡ after_white text
skips-white [] text blank = refl
skips-white (byte ∷ blanks) text blank =
    let white : is_white byte ≡ true = blank 0 0 (omega arith) in
    rw white (skips-white blanks text (λ i d inside. blank (suc i) d (omega arith)))

pub behind-blank : (text rest : List ℕ) (end : ℕ) → end ≤ length text → IsBlankFrom text end →
    after_white (drop end (text ++ rest)) ≡ after_white rest
behind-blank text rest end within blank =
    ap after_white (drop-append-le end text rest within) ∙ skips-white (drop end text) rest blank
