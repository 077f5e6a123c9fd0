use Rattle.std.proofs.Common.{ap, sym, ◌∙◌}
use Rattle.job_words.specs.Options.{is_in}
use Rattle.job_words.proofs.Rules.{rule-served}
use Rattle.job_words.proofs.option.rule_for.Goals as goal

pub returns-then-is_in-clause-rule : goal.returns-then-is_in-clause-rule
returns-then-is_in-clause-rule c =
    (rule-served c.args.word.now c.in_ok-rule.rule c.in_ok-rule.ensures).0

pub returns-then-is_in-clause-some : goal.returns-then-is_in-clause-some
returns-then-is_in-clause-some c =
    (rule-served c.args.word.now c.in_ok-rule.rule c.in_ok-rule.ensures).1

pub returns-then-is_in-clause-allowed : goal.returns-then-is_in-clause-allowed
returns-then-is_in-clause-allowed c =
    ap (λ rule. is_in rule.scope c.args.command)
    (sym (rule-served c.args.word.now c.in_ok-rule.rule c.in_ok-rule.ensures).0)
    ∙ sym c.is_in.ensures ∙ c.if-is_in.true
