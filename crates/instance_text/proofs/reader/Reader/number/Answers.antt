use Rattle.std.proofs.Common.{◌≡◌, ℕ, suc, ◌+◌, Err, ap, sym, refl, ◌∙◌, arith}
use Rattle.instance_text.specs.declared.error.InstanceError.TheVariants.{Short, OutOfRange}
use Rattle.instance_text.proofs.Judging.{judged_short, judged_bad, judged_range}
use Rattle.instance_text.proofs.Judging.{begins_number, took_number}
use Rattle.instance_text.proofs.reader.Reader.number.Goals as goal

pub returns-in_default-clause-refused : goal.returns-in_default-clause-refused
returns-in_default-clause-refused c =
    let tokens : ℕ = c.args.self.now.tokens in
    let next : suc tokens ≡ tokens + 1 = omega arith in
    judged_short c.args.what (suc tokens) c.args.self.now.bytes.now c.args.self.now.at
    c.in_default.ensures.none
    ∙ ap (λ token. Err (Short token)) next

pub returns-then-not-is_word_end-clause-refused : goal.returns-then-not-is_word_end-clause-refused
returns-then-not-is_word_end-clause-refused c =
    judged_bad c.args.what (suc c.args.self.now.tokens) c.args.self.now.bytes.now
    c.args.self.now.at c.in-Some.start c.leading_digits-count.result.0
    c.in-Some.ensures.some c.leading_digits-count.ensures.count
    (sym c.if-not-is_word_end.ensures)

pub returns-then-not-admits-clause-refused : goal.returns-then-not-admits-clause-refused
returns-then-not-admits-clause-refused c =
    let tokens : ℕ = c.args.self.now.tokens in
    let next : suc tokens ≡ tokens + 1 = omega arith in
    let found = begins_number c.args.self.now.bytes.now c.args.self.now.at c.in-Some.start
    c.leading_digits-count.result.0 c.leading_digits-count.result.1
    c.in-Some.ensures.some c.leading_digits-count.ensures.count
    c.leading_digits-count.ensures.value (sym c.if-not-is_word_end.ensures) in
    judged_range c.args.what (suc tokens) c.args.self.now.bytes.now c.args.self.now.at
    c.in-Some.start _ c.leading_digits-count.result.1 found (sym c.if-not-admits.ensures)
    ∙ ap (λ token. Err (OutOfRange c.args.what token)) next

pub returns-clause-taken : goal.returns-clause-taken
returns-clause-taken c =
    let found = begins_number c.args.self.now.bytes.now c.args.self.now.at c.in-Some.start
    c.leading_digits-count.result.0 c.leading_digits-count.result.1
    c.in-Some.ensures.some c.leading_digits-count.ensures.count
    c.leading_digits-count.ensures.value (sym c.if-not-is_word_end.ensures) in
    took_number c.args.what c.args.self.now _ c.in-Some.start c.leading_digits-count.result.1
    found (sym c.if-not-admits.ensures) refl refl
