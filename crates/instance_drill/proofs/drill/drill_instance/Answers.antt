use Rattle.std.proofs.Common.{◌≡◌, ◌++◌, ap, ◌∙◌, subst, sym}
use Rattle.mill_model.specs.Heavy.{NoneHeavy}
use Rattle.mill_model.specs.Instance.{AreSizesOf, IsWithin, largest}
use Rattle.instance_drill.specs.Drilled.{sizes}
use Rattle.instance_drill.proofs.Made.{is-drilled, made-within}
use Rattle.instance_drill.proofs.Orders.{none-heavy}
use Rattle.instance_drill.proofs.Sizes.{given-sizes}
use Rattle.instance_drill.proofs.drill.drill_instance.Goals as goal

pub new-requires : goal.new-requires
new-requires c =
    let given : c.extend_from_slice.new.self.items ≡ sizes =
    c.in_ok-extend_from_slice.ensures.items
    ∙ ap (λ before. before ++ sizes) c.in_ok-sizes.ensures.items in
    subst (λ list. IsWithin list 20 c.in_ok-orders.orders.items c.args.p) (sym given)
    (subst (λ orders. IsWithin sizes 20 orders c.args.p) (sym c.in_ok-orders.ensures)
    (made-within c.args.seed c.args.orders c.args.p c.requires.few c.requires.low
    c.requires.high))

pub returns-clause-made : goal.returns-clause-made
returns-clause-made c =
    let given : c.extend_from_slice.new.self.items ≡ sizes =
    c.in_ok-extend_from_slice.ensures.items
    ∙ ap (λ before. before ++ sizes) c.in_ok-sizes.ensures.items in
    is-drilled c.new.result c.args.seed c.args.orders c.args.p
    (given-sizes c.new.result.sizes
    (subst (λ list. AreSizesOf list c.new.result.sizes) given c.new.ensures.sizes))
    c.new.ensures.stated (c.new.ensures.orders ∙ c.in_ok-orders.ensures) c.new.ensures.p

pub returns-clause-light : goal.returns-clause-light
returns-clause-light c =
    subst (λ problem. NoneHeavy (largest problem.sizes) problem.orders)
    (sym (returns-clause-made c)) (none-heavy c.args.seed c.args.orders)
