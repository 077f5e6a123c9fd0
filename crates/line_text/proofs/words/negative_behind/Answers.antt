use Rattle.std.proofs.Common.{◌≡◌, suc, arith}
use Rattle.line_text.specs.Words.{line_words}
use Rattle.line_text.proofs.Signed.{minus-refused}
use Rattle.line_text.proofs.Numerals.{one-number}
use Rattle.line_text.proofs.words.negative_behind.Goals as goal

pub returns-in_default-clause-none : goal.returns-in_default-clause-none
returns-in_default-clause-none c =
    minus-refused c.args.amount.now c.args.limit c.requires
    (λ m small. c.in_default.ensures.none (suc m) small)

pub returns-then-number-eq0-clause-none : goal.returns-then-number-eq0-clause-none
returns-then-number-eq0-clause-none c =
    minus-refused c.args.amount.now c.args.limit c.requires
    (λ m small begins.
    let same : c.in-Some.number ≡ suc m =
    one-number (line_words c.args.amount.now) c.in-Some.number (suc m) c.in-Some.behind
    c.in-Some.ensures.some begins (omega arith) (omega arith) in
    omega (arith, c.if-number-eq0.true))
