use Rattle.std.proofs.Common.{◌<◌, ◌≤◌, length, sym, ◌∙◌, subst, ltb-true, arith}
use Rattle.slab_rules.specs.OpenSlab.{OpenSlab, joined, IsWithinBounds}
use Rattle.split_tree.proofs.Joins.{slab_at-old, slab_at-new, with_order-old, with_order-new}
use Rattle.split_tree.proofs.groups.join_group.Goals as goal

pub join-requires : goal.join-requires
join-requires c =
    let item = c.in-Some.ensures.item in
    let l : c.args.group < length c.args.groups.now.items = ltb-true _ _ (sym item.0) in
    subst (λ (slab : OpenSlab). IsWithinBounds (joined slab c.args.order))
    (slab_at-old c.args.empty.now c.args.groups.now.items c.args.group c.in-Some.slab.now l item.1)
    c.requires.fits

pub returns-in-Some-clause-joined : goal.returns-in-Some-clause-joined
returns-in-Some-clause-joined c =
    let item = c.in-Some.ensures.item in
    let l : c.args.group < length c.args.groups.now.items = ltb-true _ _ (sym item.0) in
    rw c.join.ensures.is (sym (with_order-old c.args.empty.now c.args.groups.now.items c.args.group
    c.in-Some.slab.now c.args.order l item.1))

pub join-requires-2 : goal.join-requires-2
join-requires-2 c =
    let l : length c.args.groups.now.items ≤ c.args.group = c.in_default.ensures.item.3 in
    subst (λ (slab : OpenSlab). IsWithinBounds (joined slab c.args.order))
    (slab_at-new c.args.empty.now c.args.groups.now.items c.args.group l
    ∙ sym c.copy-slab.ensures) c.requires.fits

pub returns-clause-joined : goal.returns-clause-joined
returns-clause-joined c =
    let l : length c.args.groups.now.items ≤ c.args.group = c.in_default.ensures.item.3 in
    let n : c.args.group ≤ length c.args.groups.now.items = c.requires.number in
    rw (c.in_ok-push.ensures.items, c.join-2.ensures.is, c.copy-slab.ensures) (sym
    (with_order-new c.args.empty.now c.args.groups.now.items c.args.group c.args.order
    (omega arith)))
