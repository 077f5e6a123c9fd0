-- A record's line is a letter, the length of the path, the path, what closes it, and no more. Where
-- one of these parts doesn't stand, no record that fits has these words: its own words would have
-- the part there.
use Rattle.std.proofs.Common.{◌≡◌, ◌∙◌, ◌∷◌, [], sym, arith, rules, true, false}
use Rattle.std.specs.Fmt.{decimal}
use Rattle.line_text.specs.Words.{line_words}
use Rattle.refute_log.proofs.Reading.{no_path, no_closing, no_more, record-fits}
use Rattle.refute_log.proofs.record.record_on.Goals as goal

pub returns-in_default-read-clause-none : goal.returns-in_default-read-clause-none
returns-in_default-read-clause-none c entry fit words =
    let front : line_words c.args.line.now
    ≡ c.in-Some.letter.now ∷ decimal c.in-Some-next_number.depth ∷ c.next_number.new.self =
    search rules in
    no_path c.args.orders c.in-Some.letter.now c.in-Some-next_number.depth c.next_number.new.self
    entry (omega arith) c.in-Some-next_number.ensures.limit fit (sym front ∙ words)
    (rw c.in_default-read.is at c.in_ok-read.ensures.none)

pub returns-in_default-read-2-clause-none : goal.returns-in_default-read-2-clause-none
returns-in_default-read-2-clause-none c entry fit words =
    let front : line_words c.args.line.now
    ≡ c.in-Some.letter.now ∷ decimal c.in-Some-next_number.depth ∷ c.next_number.new.self =
    search rules in
    no_closing c.args.orders c.in-Some.letter.now c.in-Some-next_number.depth c.next_number.new.self
    entry (omega arith) c.in-Some-next_number.ensures.limit fit (sym front ∙ words)
    c.in-Some-read.path.items c.next_ordinals.new.self
    (rw c.in-Some-read.is at c.in_ok-read.ensures.some)
    (rw c.in-Some-read.is at c.in_ok-read.ensures.count)
    (rw c.in_default-read-2.is at c.in_ok-read-2.ensures.none)

pub returns-then-not-is_empty-clause-none : goal.returns-then-not-is_empty-clause-none
returns-then-not-is_empty-clause-none c entry fit words =
    let front : line_words c.args.line.now
    ≡ c.in-Some.letter.now ∷ decimal c.in-Some-next_number.depth ∷ c.next_number.new.self =
    search rules in
    let done : c.next_closing.new.words ≡ [] =
    no_more c.args.orders c.in-Some.letter.now c.in-Some-next_number.depth
    c.next_number.new.self entry (omega arith) c.in-Some-next_number.ensures.limit fit
    (sym front ∙ words) c.in-Some-read.path.items c.next_ordinals.new.self
    c.next_closing.new.words c.in-Some-read-2.closing
    (rw c.in-Some-read.is at c.in_ok-read.ensures.some)
    (rw c.in-Some-read.is at c.in_ok-read.ensures.count)
    (rw c.in-Some-read-2.is at c.in_ok-read-2.ensures.fit)
    (rw c.in-Some-read-2.is at c.in_ok-read-2.ensures.letter)
    (rw c.in-Some-read-2.is at c.in_ok-read-2.ensures.some) in
    let z : false ≡ true = c.if-not-is_empty.ensures.1 done in
    cc

pub returns-clause-fit : goal.returns-clause-fit
returns-clause-fit c =
    rw c.from_list-path.ensures
    (record-fits c.args.orders c.in-Some-next_number.depth c.in-Some-read.path.items
    c.in-Some-read-2.closing c.in-Some-next_number.ensures.limit
    (rw c.in-Some-read.is at c.in_ok-read.ensures.count)
    (rw c.in-Some-read.is at c.in_ok-read.ensures.limit)
    (rw c.in-Some-read-2.is at c.in_ok-read-2.ensures.fit))
