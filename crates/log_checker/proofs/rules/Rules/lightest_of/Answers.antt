use Rattle.std.proofs.Common.{drop, sym, arith}
use Rattle.log_checker.proofs.Lightest.{none-has, last-of, colour-lightest}
use Rattle.log_checker.proofs.rules.Rules.lightest_of.Goals as goal

pub returns-then-not-comes-clause-none : goal.returns-then-not-comes-clause-none
returns-then-not-comes-clause-none c =
    none-has (drop c.args.rank c.args.self.now.ranked.items) c.args.colour
    (sym c.if-not-comes.ensures)

pub order-requires : goal.order-requires
order-requires c =
    let l = last-of c.args.self.now.ranked.items c.args.self.now.last.items c.args.self.now.ends
    c.args.colour c.args.rank c.index.result.now c.if-not-comes.ensures c.index.ensures in
    omega (arith, l.0, l.1)

pub returns-clause-some : goal.returns-clause-some
returns-clause-some c =
    colour-lightest c.args.self.now.ranked.items c.args.self.now.last.items c.args.self.now.ends
    c.args.colour c.args.rank c.index.result.now c.if-not-comes.ensures c.index.ensures
    c.order.result c.args.self.now.setting.falls c.order.ensures.is
