-- Before each line the text has begun as a log's does: with the first line and the records so far.
-- The next line is `end`, or a record that keeps this so, or it is what is wrong: no record's line,
-- or a record whose path doesn't come after the one before.
use Rattle.std.proofs.Common.{◌≡◌, ◌+◌, ◌<◌, ◌∷◌, ◌++◌, ◌∙◌, [], ap, sym, length, true, false}
use Rattle.std.proofs.Common.{inl, inr, arith, rules, length-append}
use Rattle.line_text.specs.Lines.{is_end}
use Rattle.mill_model.specs.Log.{recorded}
use Rattle.refute_log.specs.Rising.{rises}
use Rattle.refute_log.specs.Text.{BeginsLog}
use Rattle.refute_log.proofs.Judging.{first_filled-below, lacks-record, falls-next, begins-more}
use Rattle.refute_log.proofs.read.judged.Goals as goal

pub overflow_add-result-in-Some-first_filled-2 : goal.overflow_add-result-in-Some-first_filled-2
overflow_add-result-in-Some-first_filled-2 c =
    let below : c.in-Some-first_filled.behind < length c.next_line.new.self =
    first_filled-below c.next_line.new.self c.in-Some-first_filled.behind
    (sym c.in-Some-first_filled.ensures) in
    let here : length c.loop-line.lines ≡ length c.next_line.new.self + 1 =
    omega (arith, ap length c.in-Some-next_line.ensures.some) in
    let found : c.len-found.result ≡ length c.loop-line.entries.items = search rules in
    omega (arith, c.loop-line.invariant.count)

pub returns-in_default-read : goal.returns-in_default-read
returns-in_default-read c =
    let found : c.len-found.result ≡ length c.loop-line.entries.items = search rules in
    let no_end : is_end c.in-Some-next_line.line.now ≡ false =
    sym c.is_end.ensures ∙ c.if-is_end.false in
    inr (inl (lacks-record c.args.orders c.args.first c.in-Some.stated c.loop-line.entries.items
    c.args.lines c.loop-line.lines c.next_line.new.self c.in-Some-next_line.line.now
    (omega arith) c.len-found.result found c.loop-line.invariant.begins
    c.in-Some-next_line.ensures.some no_end
    (rw c.in_default-read.is at c.in_ok-read.ensures.none)))

pub returns-then-not-rises_with : goal.returns-then-not-rises_with
returns-then-not-rises_with c =
    let found : c.len-found.result ≡ length c.loop-line.entries.items = search rules in
    let falls : rises (recorded c.loop-line.entries.items ++ c.in-Some-read.entry.path ∷ [])
    ≡ false =
    search rules in
    falls-next c.args.orders c.args.first c.in-Some.stated c.loop-line.entries.items
    c.args.lines c.loop-line.lines c.next_line.new.self c.in-Some-next_line.line.now
    (omega arith) c.len-found.result found c.loop-line.invariant.begins
    c.in-Some-next_line.ensures.some c.in-Some-read.entry
    (rw c.in-Some-read.is at c.in_ok-read.ensures.some)
    (rw c.in-Some-read.is at c.in_ok-read.ensures.fit) falls

pub loop-line-preserved : goal.loop-line-preserved
loop-line-preserved c =
    let found : c.len-found.result ≡ length c.loop-line.entries.items = search rules in
    let rise : rises (recorded c.loop-line.entries.items ++ c.in-Some-read.entry.path ∷ [])
    ≡ true =
    search rules in
    let more : c.push.new.self.items ≡ c.loop-line.entries.items ++ c.in-Some-read.entry ∷ [] =
    search rules in
    let begins : BeginsLog c.args.orders c.in-Some.stated
    (c.loop-line.entries.items ++ c.in-Some-read.entry ∷ []) c.args.lines
    c.next_line.new.self =
    begins-more c.args.orders c.args.first c.in-Some.stated c.loop-line.entries.items
    c.args.lines c.loop-line.lines c.next_line.new.self c.in-Some-next_line.line.now
    (omega arith) c.len-found.result found c.loop-line.invariant.begins
    c.in-Some-next_line.ensures.some c.in-Some-read.entry
    (rw c.in-Some-read.is at c.in_ok-read.ensures.some)
    (rw c.in-Some-read.is at c.in_ok-read.ensures.fit) rise in
    let here : length c.loop-line.lines ≡ length c.next_line.new.self + 1 =
    omega (arith, ap length c.in-Some-next_line.ensures.some) in
    let longer : length (c.loop-line.entries.items ++ c.in-Some-read.entry ∷ [])
    ≡ length c.loop-line.entries.items + 1 =
    omega (arith, length-append c.loop-line.entries.items (c.in-Some-read.entry ∷ [])) in
    rw more (record {
      begins = begins;
      count = omega (arith, c.loop-line.invariant.count);
    })
