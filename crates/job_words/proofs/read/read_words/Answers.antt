use Rattle.std.proofs.Common.{◌≡◌, Ok, Err, ap, ◌∙◌, rules}
use Rattle.job_words.specs.Words.{texts}
use Rattle.job_words.proofs.Grammar.{no-first, other-first, wrong-only, asked-not-wrong, asked-only}
use Rattle.job_words.proofs.Grammar.{asked-in-range}
use Rattle.job_words.proofs.read.read_words.Goals as goal

pub returns-in_default-clause-usage : goal.returns-in_default-clause-usage
returns-in_default-clause-usage c = no-first c.args.words.now c.in_default.ensures.value

pub returns-in_default-command_of-clause-usage : goal.returns-in_default-command_of-clause-usage
returns-in_default-command_of-clause-usage c =
    other-first c.args.words.now c.in-Some.word.now c.in-Some.ensures.value
    (λ command spelt. c.in_default-command_of.ensures.none command (c.deref.ensures ∙ spelt))

pub returns-in_err-numbers-clause-asked : goal.returns-in_err-numbers-clause-asked
returns-in_err-numbers-clause-asked c = λ job asked. absurd
    (asked-not-wrong (texts c.args.words.now) job c.in_err-numbers.field-0.0.word asked
    c.in_err-numbers.ensures.usage)

pub returns-in_err-numbers-clause-wrong : goal.returns-in_err-numbers-clause-wrong
returns-in_err-numbers-clause-wrong c = λ place wrong.
    let same = wrong-only (texts c.args.words.now) c.in_err-numbers.field-0.0.word place
    c.in_err-numbers.ensures.usage wrong in
    let error : c.from_residual.result ≡ Err c.in_err-numbers.field-0.0 = search rules in
    error ∙ ap (λ word. Err (record { word = word })) same

pub returns-clause-in_range : goal.returns-clause-in_range
returns-clause-in_range c = asked-in-range (texts c.args.words.now) _ c.job_of.ensures

pub returns-clause-asked : goal.returns-clause-asked
returns-clause-asked c = λ job other.
    ap Ok (asked-only (texts c.args.words.now) _ job c.job_of.ensures other)

pub returns-clause-wrong : goal.returns-clause-wrong
returns-clause-wrong c = λ place wrong.
    absurd (asked-not-wrong (texts c.args.words.now) _ place c.job_of.ensures wrong)
