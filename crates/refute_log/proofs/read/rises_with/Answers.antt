use Rattle.std.proofs.Common.{◌∙◌, ap, sym}
use Rattle.std.specs.Prelude.{◌==◌}
use Rattle.std.specs.Ordering.{ordering_index}
use Rattle.refute_log.specs.Rising.{path_order}
use Rattle.refute_log.proofs.Order.{order-index}
use Rattle.refute_log.proofs.Rises.{rises-behind}
use Rattle.refute_log.proofs.read.rises_with.Goals as goal

pub returns-in-Some : goal.returns-in-Some
returns-in-Some c =
    let last = c.in-Some.last.now in
    let at_end = c.in-Some.ensures.item in
    c.eq.ensures
    ∙ ap (λ o. ordering_index o == 0)
    (c.compare.ensures ∙ ap (λ p. path_order p c.args.path.now) c.numbers.ensures)
    ∙ order-index last.path c.args.path.now
    ∙ sym (rises-behind c.args.entries.now last c.args.path.now at_end.3.0 at_end.1 c.requires)
