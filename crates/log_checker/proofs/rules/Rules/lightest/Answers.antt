use Rattle.std.proofs.Common.{◌≡◌, ◌-◌, true, length, refl, arith, rules}
use Rattle.log_checker.proofs.Lightest.{last-lightest}
use Rattle.log_checker.proofs.rules.Rules.lightest.Goals as goal

pub returns-clause-some : goal.returns-clause-some
returns-clause-some c =
    let n : c.len-2.result ≡ length c.args.self.now.ranked.items = search rules in
    let l : c.len.result ≡ length c.args.self.now.ranked.items = search rules in
    last-lightest (λ order. true) c.args.self.now.ranked.items c.args.rank
    (c.len-2.result - 1) c.order.result c.args.self.now.setting.falls
    (omega (arith, c.if-len-rank.false)) (omega (arith, c.if-len-rank.false)) c.order.ensures.is
    refl (λ i h e. omega arith)
