use Rattle.std.proofs.Common.{◌≡◌, ◌∷◌, [], codes, true, false, arith, rules}
use Rattle.line_text.specs.Words.{line_words}
use Rattle.refute_log.specs.Text.{first_words}
use Rattle.refute_log.proofs.RecordLines.{line-from_words, count-behind, only-count}
use Rattle.refute_log.proofs.read.count_on.Goals as goal

pub returns-in_default-clause-none : goal.returns-in_default-clause-none
returns-in_default-clause-none c count small line =
    let front : line_words c.args.line.now
    ≡ codes "log" ∷ codes "1" ∷ c.next_word-2.new.self =
    search rules in
    c.in_default.ensures.none count small (record {
      more = [];
      is = count-behind c.args.line.now c.next_word-2.new.self count (omega arith) front line;
    })

pub returns-then-is_empty-clause-some : goal.returns-then-is_empty-clause-some
returns-then-is_empty-clause-some c =
    let words : line_words c.args.line.now ≡ first_words c.in-Some.count = search rules in
    line-from_words c.args.line.now (first_words c.in-Some.count) words

pub returns-else-is_empty-clause-none : goal.returns-else-is_empty-clause-none
returns-else-is_empty-clause-none c count small line =
    let front : line_words c.args.line.now
    ≡ codes "log" ∷ codes "1" ∷ c.next_word-2.new.self =
    search rules in
    let done : c.next_number.new.self ≡ [] =
    only-count count c.in-Some.count c.next_word-2.new.self c.next_number.new.self
    (count-behind c.args.line.now c.next_word-2.new.self count (omega arith) front line)
    c.in-Some.ensures.some in
    let z : false ≡ true = c.if-is_empty.ensures.1 done in
    cc
