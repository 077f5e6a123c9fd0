use Rattle.std.proofs.Common.{◌≡◌, ◌<◌, ◌∙◌, ◌++◌, ◌∷◌, [], length, arith, rules, sym}
use Rattle.std.proofs.lemmas.List.Elements.{All-append, All-cons, All-nil}
use Rattle.std.specs.Fmt.{signed_decimal}
use Rattle.line_text.specs.Numbers.{IsWithin}
use Rattle.line_text.proofs.Items.{none-longer, read-more}
use Rattle.line_text.proofs.words.Words.next_signed_numbers.Goals as goal

pub returns-in-None-clause-none : goal.returns-in-None-clause-none
returns-in-None-clause-none c numbers count limit begins =
    let shorter : length c.loop.numbers.items < length numbers =
    omega (arith, c.loop.invariant.count) in
    none-longer signed_decimal (IsWithin c.args.limit) c.loop.numbers.items numbers c.loop.ahead
    begins.more (sym c.loop.invariant.read ∙ begins.is) shorter limit c.in-None.ensures.none

pub loop-preserved : goal.loop-preserved
loop-preserved c =
    let more : c.push.new.self.items ≡ c.loop.numbers.items ++ c.in-Some.number ∷ [] =
    search rules in
    let P = IsWithin c.args.limit in
    record {
      read = rw more (read-more signed_decimal P c.args.self.now c.loop.numbers.items
          c.in-Some.number c.loop.ahead c.next_signed.new.self c.loop.invariant.read
          c.in-Some.ensures.some);
      count = search rules;
      limit = rw more (All-append P c.loop.numbers.items (c.in-Some.number ∷ [])
          c.loop.invariant.limit
          (All-cons P c.in-Some.number [] c.in-Some.ensures.limit (All-nil P)));
    }
