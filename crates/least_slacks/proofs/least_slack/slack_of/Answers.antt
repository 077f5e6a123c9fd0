use Rattle.std.proofs.Common.{◌≡◌, ℕ, List, ◌≤◌, length, arith, sym, subst, SFits, w64}
use Rattle.std.proofs.Common.{to_z-of_z, rules}
use Rattle.list_laws.specs.Sets.{different}
use Rattle.least_slacks.specs.Later.{HaveSame}
use Rattle.least_slacks.proofs.least_slack.slack_of.Goals as goal

pub returns-clause-is : goal.returns-clause-is
returns-clause-is c own has =
    let served = c.serve-joined.ensures in
    let few : different own ≤ c.args.limits.now.most =
    omega (arith, has.once, has.count, c.requires.few) in
    let same : HaveSame c.args.later.now own c.serve-joined.result.coming =
    subst (λ (out : List ℕ). HaveSame c.args.later.now own out) (sym served.same.0) has.same in
    let count : length own ≡ c.serve-joined.result.colours =
    omega (arith, has.count, served.same.1) in
    let it = c.slack_from-slack.ensures.is own few
    (λ l b. served.joined.table own has.once count same l (omega (arith, b, served.reach))) in
    let f : SFits w64 c.slack_from-slack.result = search rules in
    simp to_z-of_z it
