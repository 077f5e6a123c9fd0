use Rattle.std.proofs.Common.{◌≡◌, ◌+◌, arith}
use Rattle.line_text.proofs.Numerals.{one-number}
use Rattle.line_text.proofs.words.Words.next_ordinal.Goals as goal

pub returns-then-number-eq0-clause-none : goal.returns-then-number-eq0-clause-none
returns-then-number-eq0-clause-none c thing small begins =
    let same : c.in-Some.number ≡ thing + 1 =
    one-number c.args.self.now c.in-Some.number (thing + 1) c.in-Some.behind
    c.in-Some.ensures.some begins
    (omega arith) (omega arith) in
    omega (arith, c.if-number-eq0.true)
