use Rattle.std.proofs.Common.{◌≡◌, ◌+◌, ◌∷◌, ◌∙◌, inr, Some, true, length, ap, refl, sym, arith}
use Rattle.line_text.specs.Lines.{is_end, first_filled}
use Rattle.answer_text.specs.Reading.{Reading}
use Rattle.refute_log.proofs.Judging.{first_filled-below}
use Rattle.answer_text.proofs.read.Reader.end.Goals as goal

pub overflow_add-result : goal.overflow_add-result
overflow_add-result c =
    let filled : first_filled c.self.inside.lines ≡ Some c.in-Some.behind =
    sym c.first_filled.ensures ∙ c.in-Some.is in
    let lines : c.self.inside.lines ≡ c.next_line.new.self.rest =
    ap (λ (r : Reading). r.rest) c.self.view_is in
    let read : c.self.inside.read ≡ c.next_line.new.self.read =
    ap (λ (r : Reading). r.read) c.self.view_is in
    let text = c.in_ok-line.ensures.ok.text in
    omega (
      arith,
      first_filled-below c.self.inside.lines c.in-Some.behind filled,
      ap length lines,
      ap length text,
      c.in_ok-line.ensures.ok.read,
      read,
    )

pub returns-in-Some-clause-err : goal.returns-in-Some-clause-err
returns-in-Some-clause-err c =
    let filled : first_filled c.self.inside.lines ≡ Some c.in-Some.behind =
    sym c.first_filled.ensures ∙ c.in-Some.is in
    let lines : c.self.inside.lines ≡ c.next_line.new.self.rest =
    ap (λ (r : Reading). r.rest) c.self.view_is in
    let read : c.self.inside.read ≡ c.next_line.new.self.read =
    ap (λ (r : Reading). r.read) c.self.view_is in
    let ended : is_end c.in_ok-line.line.now ≡ true =
    sym c.is_end.ensures ∙ c.if-not-is_end.false in
    let next = c.in_ok-line.ensures.ok in (
      c.in-Some.behind + 2,
      omega (arith, read, next.read),
      inr (record {
        end_line = c.in_ok-line.line.now;
        after = c.self.inside.lines;
        behind = c.in-Some.behind;
        text = next.text ∙ ap (λ l. c.in_ok-line.line.now ∷ l) (sym lines);
        ended = ended;
        filled = filled;
        is = refl;
      }),
    )
