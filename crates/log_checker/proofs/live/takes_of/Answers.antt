use Rattle.std.proofs.Common.{◌∙◌, drop, eqb, sym}
use Rattle.log_checker.specs.ByRules.{mill_by}
use Rattle.log_checker.proofs.Lightest.{takes-colour, takes-none}
use Rattle.log_checker.proofs.live.takes_of.Goals as goal

pub returns-in-Some : goal.returns-in-Some
returns-in-Some c =
    c.may_join.ensures
    ∙ sym (takes-colour (mill_by c.args.rules.now) (drop c.args.k c.args.rules.now.ranked.items)
    c.args.group.now c.args.colour c.in-Some.order c.in-Some.ensures.some)

pub returns-in-None : goal.returns-in-None
returns-in-None c =
    takes-none (mill_by c.args.rules.now) (drop c.args.k c.args.rules.now.ranked.items)
    c.args.group.now (λ order. eqb c.args.colour order.colour) c.in-None.ensures.none
