-- One option more: either the words up to it and its number read on, or the first wrong word is its
-- name, which may be none or a repeated one, or its number, which may be missing.
use Rattle.std.proofs.Common.{◌≡◌, ℕ, ◌+◌, ◌++◌, ◌∷◌, [], cond, false, sym, ap, ap₂, ◌∙◌, refl}
use Rattle.std.proofs.Common.{subst, arith}
use Rattle.std.specs.Prelude.{Option, Some, None, is_some}
use Rattle.job_words.specs.Options.{same_setting}
use Rattle.job_words.specs.Words.{texts, number_for}
use Rattle.job_words.proofs.Grammar.{text-at, texts-count, name-once, number-push, wrong-name}
use Rattle.job_words.proofs.Grammar.{missing-number, wrong-number, read-on}
use Rattle.job_words.proofs.read.read_option.Goals as goal

not-some : (number : Option ℕ) → is_some number ≡ false → number ≡ None
not-some None e = refl
not-some (Some number) e = absurd (cc)

pub returns-in_default-clause-usage : goal.returns-in_default-clause-usage
returns-in_default-clause-usage c =
    let words = c.args.words.now in
    wrong-name (texts words) c.args.place c.args.command c.requires.read.options
    c.requires.read.spell c.deref.result.now (omega (arith, c.requires.within, texts-count words))
    (text-at words c.args.place c.index-words-place.result c.requires.within
    c.index-words-place.is ∙ sym c.deref.ensures)
    (λ s named allowed new. c.in_default.ensures.none s named allowed)

pub returns-then-is_some-clause-usage : goal.returns-then-is_some-clause-usage
returns-then-is_some-clause-usage c =
    let words = c.args.words.now in
    wrong-name (texts words) c.args.place c.args.command c.requires.read.options
    c.requires.read.spell c.deref.result.now (omega (arith, c.requires.within, texts-count words))
    (text-at words c.args.place c.index-words-place.result c.requires.within
    c.index-words-place.is ∙ sym c.deref.ensures)
    (λ s named allowed new.
    let same = name-once s c.in-Some.rule.setting (sym named ∙ c.in-Some.ensures.some) in
    let held = c.of.ensures ∙ c.requires.read.held c.in-Some.rule.setting in
    let none = subst (λ t. number_for t c.requires.read.options ≡ None) same new in
    let given = c.is_some.ensures ∙ ap is_some (held ∙ none) in
    let some = c.if-is_some.true in
    cc)

pub returns-in_default-get-clause-usage : goal.returns-in_default-get-clause-usage
returns-in_default-get-clause-usage c =
    let words = c.args.words.now in
    let count = texts-count words in
    let past = c.in_default-get.ensures.lookup.3 in
    let new = sym (c.of.ensures ∙ c.requires.read.held c.in-Some.rule.setting)
    ∙ not-some c.of.result (sym c.is_some.ensures ∙ c.if-is_some.false) in
    missing-number (texts words) c.args.place c.args.command c.requires.read.options
    c.requires.read.spell c.in-Some.rule.setting (omega (arith, c.requires.within, count))
    (text-at words c.args.place c.index-words-place.result c.requires.within
    c.index-words-place.is ∙ sym c.deref.ensures ∙ c.in-Some.ensures.some)
    c.in-Some.ensures.allowed new (omega (arith, c.requires.within, count, past))

pub returns-in_default-number_of-clause-usage : goal.returns-in_default-number_of-clause-usage
returns-in_default-number_of-clause-usage c =
    let words = c.args.words.now in
    let count = texts-count words in
    let there = c.in-Some-get.ensures.lookup.3 in
    let new = sym (c.of.ensures ∙ c.requires.read.held c.in-Some.rule.setting)
    ∙ not-some c.of.result (sym c.is_some.ensures ∙ c.if-is_some.false) in
    wrong-number (texts words) c.args.place c.args.command c.requires.read.options
    c.requires.read.spell c.in-Some.rule.setting (omega (arith, c.requires.within, count))
    (text-at words c.args.place c.index-words-place.result c.requires.within
    c.index-words-place.is ∙ sym c.deref.ensures ∙ c.in-Some.ensures.some)
    c.in-Some.ensures.allowed new c.deref-2.result.now (omega (arith, there.0, count))
    (text-at words (c.args.place + 1) c.in-Some-get.word.now there.0
    (there.1 c.in-Some-get.word.now) ∙ sym c.deref-2.ensures)
    c.in_default-number_of.ensures.none

pub returns-clause-read : goal.returns-clause-read
returns-clause-read c =
    let words = c.args.words.now in
    let count = texts-count words in
    let there = c.in-Some-get.ensures.lookup.3 in
    let options = c.requires.read.options in
    let s = c.in-Some.rule.setting in
    let new = sym (c.of.ensures ∙ c.requires.read.held s)
    ∙ not-some c.of.result (sym c.is_some.ensures ∙ c.if-is_some.false) in
    record {
      options = options ++ record { setting = s; number = c.deref-2.result.now } ∷ [];
      spell = read-on (texts words) c.args.place c.args.command options
          c.requires.read.spell s (omega (arith, c.requires.within, count))
          (text-at words c.args.place c.index-words-place.result c.requires.within
          c.index-words-place.is ∙ sym c.deref.ensures ∙ c.in-Some.ensures.some)
          c.in-Some.ensures.allowed new c.deref-2.result.now (omega (arith, there.0, count))
          (text-at words (c.args.place + 1) c.in-Some-get.word.now there.0
          (there.1 c.in-Some-get.word.now) ∙ sym c.deref-2.ensures)
          c.in-Some-number_of.ensures.some;
      held = λ other.
          c.give.ensures other
          ∙ ap₂ (λ number before. cond (same_setting other s) (Some number) before)
          c.in-Some-number_of.ensures.number (c.requires.read.held other)
          ∙ sym (number-push other options
          (record { setting = s; number = c.deref-2.result.now }) new);
    }
