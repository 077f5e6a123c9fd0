use Rattle.std.proofs.Common.{◌<◌, ◌≡◌, length, get_or, subst, sym, arith}
use Rattle.std.proofs.lemmas.List.{get_or_default}
use Rattle.plan_check.proofs.Slabs.{each-length, each-below}
use Rattle.plan_walk.proofs.draft.Draft.new.Goals as goal

pub new-requires-clause-few : goal.new-requires-clause-few
new-requires-clause-few c =
    let same = each-length c.args.plan.now c.args.instance.now.orders c.requires.each in
    omega (arith, same, c.orders-orders.ensures.kept.within.few_orders)

pub new-requires-clause-below : goal.new-requires-clause-below
new-requires-clause-below c k d l =
    let plan = c.args.plan.now in
    let same = each-length c.args.plan.now c.args.instance.now.orders c.requires.each in
    let low = each-below c.args.plan.now c.args.instance.now.orders k c.requires.each
    (omega (arith, same, l)) in
    let is = get_or_default c.args.plan.now k d 0 l in
    omega (arith, same, low, is)
