use Rattle.std.proofs.Common.{◌∙◌, drop, length, true, sym, ap, arith}
use Rattle.log_checker.specs.ByRules.{mill_by}
use Rattle.log_checker.proofs.Lightest.{takes-own, takes-any, takes-none}
use Rattle.log_checker.proofs.live.is_live.Goals as goal

pub returns-then-rules-colours : goal.returns-then-rules-colours
returns-then-rules-colours c =
    c.takes_own.ensures
    ∙ sym (takes-own (mill_by c.args.rules.now) (drop c.args.k c.args.rules.now.ranked.items)
    c.args.group.now (omega (arith, c.if-rules-colours.true, ap length c.colours.ensures)))

pub returns-in-Some : goal.returns-in-Some
returns-in-Some c =
    c.may_join.ensures
    ∙ sym (takes-any (mill_by c.args.rules.now) (drop c.args.k c.args.rules.now.ranked.items)
    c.args.group.now c.in-Some.order
    (omega (arith, c.if-rules-colours.false, ap length c.colours.ensures)) c.in-Some.ensures.some)

pub returns-in-None : goal.returns-in-None
returns-in-None c =
    takes-none (mill_by c.args.rules.now) (drop c.args.k c.args.rules.now.ranked.items)
    c.args.group.now (λ order. true) c.in-None.ensures.none
