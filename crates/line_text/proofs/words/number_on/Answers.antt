use Rattle.std.proofs.Common.{◌<◌, length, ◌∙◌, ◌∷◌, sym, ap, arith}
use Rattle.std.specs.Fmt.{decimal}
use Rattle.line_text.proofs.Numerals.{refused-leading_zero, refused-large, refused-behind}
use Rattle.line_text.proofs.Numerals.{number-alone, number-first}
use Rattle.line_text.proofs.words.number_on.Goals as goal

pub returns-then-not-is_canonical-clause-none : goal.returns-then-not-is_canonical-clause-none
returns-then-not-is_canonical-clause-none c number small =
    let d = c.leading_digits-count in
    refused-leading_zero c.args.line.now d.result.0 d.result.1 c.args.limit d.ensures.count
    d.ensures.value c.requires number small
    (sym c.is_canonical.ensures ∙ c.if-not-is_canonical.true)

pub returns-then-number-limit-clause-none : goal.returns-then-number-limit-clause-none
returns-then-number-limit-clause-none c number small =
    let d = c.leading_digits-count in
    refused-large c.args.line.now d.result.0 d.result.1 c.args.limit d.ensures.count
    d.ensures.value c.requires number small c.if-number-limit.true

pub returns-then-count-line-clause-some : goal.returns-then-count-line-clause-some
returns-then-count-line-clause-some c =
    let d = c.leading_digits-count in
    number-alone c.args.line.now d.result.0 d.result.1 c.args.limit d.ensures.count
    d.ensures.value c.requires (sym c.is_canonical.ensures ∙ c.if-not-is_canonical.false)
    c.if-number-limit.false c.if-count-line.true

pub returns-then-line-count-ne32-clause-none : goal.returns-then-line-count-ne32-clause-none
returns-then-line-count-ne32-clause-none c number small =
    let d = c.leading_digits-count in
    refused-behind c.args.line.now d.result.0 d.result.1 c.args.limit d.ensures.count
    d.ensures.value c.requires number small c.if-count-line.false c.if-line-count-ne32.true

pub returns-clause-some : goal.returns-clause-some
returns-clause-some c =
    let d = c.leading_digits-count in
    let inside : d.result.0 < length c.args.line.now =
    omega (arith, d.ensures.within, c.if-count-line.false) in
    number-first c.args.line.now d.result.0 d.result.1 c.args.limit d.ensures.count
    d.ensures.value c.requires (sym c.is_canonical.ensures ∙ c.if-not-is_canonical.false)
    c.if-number-limit.false inside c.if-line-count-ne32.false
    ∙ ap (λ rest. decimal d.result.1 ∷ rest) (sym c.new-behind.ensures)
