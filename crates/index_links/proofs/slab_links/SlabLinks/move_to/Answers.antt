-- An order is taken out of the chain of its old slab and put first in that of its new one. The
-- laws of Moved say what the two steps make of all chains; here the tables of the struct, and the
-- lists that it is seen as, are put for those of the laws.
use Rattle.std.proofs.Common.{◌≡◌, ◌<◌, ◌∙◌, length, get_or, slice_set, refl, sym, subst, ap}
use Rattle.std.proofs.Common.{arith}
use Rattle.std.proofs.lemmas.List.{get_or_default}
use Rattle.index_links.specs.Lists.{AreSlabLists, moved, plan_of}
use Rattle.index_links.specs.Links.{IsLinked, lists_of}
use Rattle.index_links.proofs.Moved.{before-low, first-within, if-some, next-low, relinked}
use Rattle.index_links.proofs.Views.{are-lists, lists-are, plan-is}
use Rattle.index_links.proofs.slab_links.SlabLinks.move_to.Goals as goal

pub unlink-requires-clause-next : goal.unlink-requires-clause-next
unlink-requires-clause-next c =
    let count : length c.args.self.now ≡ length c.self.inside.chains.nexts.items =
    sym (ap length c.self.view_is) ∙ c.self.invariant.lists_count in
    let order : c.args.order < length c.self.inside.chains.nexts.items =
    omega (arith, c.requires.order, count) in
    let slab : c.args.slab < length c.self.inside.chains.nexts.items =
    omega (arith, c.requires.slab, count) in
    if-some _ (λ other. other < length c.self.inside.chains.nexts.items)
    (next-low c.self.inside.chains.firsts.items c.self.inside.chains.nexts.items
    c.self.inside.chains.previous.items c.self.inside.slabs.items
    _ c.self.invariant c.args.order c.args.slab order slab)

pub unlink-requires-clause-before : goal.unlink-requires-clause-before
unlink-requires-clause-before c =
    let count : length c.args.self.now ≡ length c.self.inside.chains.nexts.items =
    sym (ap length c.self.view_is) ∙ c.self.invariant.lists_count in
    let order : c.args.order < length c.self.inside.chains.nexts.items =
    omega (arith, c.requires.order, count) in
    let slab : c.args.slab < length c.self.inside.chains.nexts.items =
    omega (arith, c.requires.slab, count) in
    if-some _ (λ other. other < length c.self.inside.chains.nexts.items)
    (before-low c.self.inside.chains.firsts.items c.self.inside.chains.nexts.items
    c.self.inside.chains.previous.items c.self.inside.slabs.items
    _ c.self.invariant c.args.order c.args.slab order slab)

pub link-requires-clause-first : goal.link-requires-clause-first
link-requires-clause-first c =
    let count : length c.args.self.now ≡ length c.self.inside.chains.nexts.items =
    sym (ap length c.self.view_is) ∙ c.self.invariant.lists_count in
    let order : c.args.order < length c.self.inside.chains.nexts.items =
    omega (arith, c.requires.order, count) in
    let slab : c.args.slab < length c.self.inside.chains.nexts.items =
    omega (arith, c.requires.slab, count) in
    let left : c.index-old.result.now ≡ get_or c.self.inside.slabs.items c.args.order 0 =
    c.index-old.ensures
    ∙ get_or_default c.self.inside.slabs.items c.args.order c.index-old.result.now 0
    (omega (arith, order, c.self.invariant.slabs_count)) in
    if-some _ (λ other. other < length c.unlink.new.self.nexts.items)
    (first-within c.self.inside.chains.firsts.items c.self.inside.chains.nexts.items
    c.self.inside.chains.previous.items c.self.inside.slabs.items
    _ c.args.order c.args.slab c.index-old.result.now c.unlink.new.self.firsts.items
    c.unlink.new.self.nexts.items c.self.invariant order slab left c.unlink.ensures.firsts
    c.unlink.ensures.nexts)

pub invariant_of-self : goal.invariant_of-self
invariant_of-self c =
    let count : length c.args.self.now ≡ length c.self.inside.chains.nexts.items =
    sym (ap length c.self.view_is) ∙ c.self.invariant.lists_count in
    let order : c.args.order < length c.self.inside.chains.nexts.items =
    omega (arith, c.requires.order, count) in
    let slab : c.args.slab < length c.self.inside.chains.nexts.items =
    omega (arith, c.requires.slab, count) in
    let left : c.index-old.result.now ≡ get_or c.self.inside.slabs.items c.args.order 0 =
    c.index-old.ensures
    ∙ get_or_default c.self.inside.slabs.items c.args.order c.index-old.result.now 0
    (omega (arith, order, c.self.invariant.slabs_count)) in
    let linked = relinked c.self.inside.chains.firsts.items c.self.inside.chains.nexts.items
    c.self.inside.chains.previous.items c.self.inside.slabs.items
    (lists_of c.self.inside.chains.firsts.items c.self.inside.chains.nexts.items) c.args.order
    c.args.slab c.index-old.result.now c.unlink.new.self.firsts.items
    c.unlink.new.self.nexts.items c.unlink.new.self.previous.items c.link.new.self.firsts.items
    c.link.new.self.nexts.items c.link.new.self.previous.items
    (slice_set c.self.inside.slabs.items c.args.order c.args.slab) c.self.invariant order slab left
    c.unlink.ensures.firsts c.unlink.ensures.nexts c.unlink.ensures.previous
    c.link.ensures.firsts c.link.ensures.nexts c.link.ensures.previous refl in
    subst (λ lists. IsLinked c.link.new.self.firsts.items c.link.new.self.nexts.items
    c.link.new.self.previous.items
    (slice_set c.self.inside.slabs.items c.args.order c.args.slab) lists)
    (sym (lists-are c.link.new.self.firsts.items c.link.new.self.nexts.items
    c.link.new.self.previous.items
    (slice_set c.self.inside.slabs.items c.args.order c.args.slab) _ linked)) linked

pub returns-clause-lists : goal.returns-clause-lists
returns-clause-lists c =
    let count : length c.args.self.now ≡ length c.self.inside.chains.nexts.items =
    sym (ap length c.self.view_is) ∙ c.self.invariant.lists_count in
    let order : c.args.order < length c.self.inside.chains.nexts.items =
    omega (arith, c.requires.order, count) in
    let slab : c.args.slab < length c.self.inside.chains.nexts.items =
    omega (arith, c.requires.slab, count) in
    let left : c.index-old.result.now ≡ get_or c.self.inside.slabs.items c.args.order 0 =
    c.index-old.ensures
    ∙ get_or_default c.self.inside.slabs.items c.args.order c.index-old.result.now 0
    (omega (arith, order, c.self.invariant.slabs_count)) in
    let linked = relinked c.self.inside.chains.firsts.items c.self.inside.chains.nexts.items
    c.self.inside.chains.previous.items c.self.inside.slabs.items
    (lists_of c.self.inside.chains.firsts.items c.self.inside.chains.nexts.items) c.args.order
    c.args.slab c.index-old.result.now c.unlink.new.self.firsts.items
    c.unlink.new.self.nexts.items c.unlink.new.self.previous.items c.link.new.self.firsts.items
    c.link.new.self.nexts.items c.link.new.self.previous.items
    (slice_set c.self.inside.slabs.items c.args.order c.args.slab) c.self.invariant order slab left
    c.unlink.ensures.firsts c.unlink.ensures.nexts c.unlink.ensures.previous
    c.link.ensures.firsts c.link.ensures.nexts c.link.ensures.previous refl in
    lists-are c.link.new.self.firsts.items c.link.new.self.nexts.items
    c.link.new.self.previous.items
    (slice_set c.self.inside.slabs.items c.args.order c.args.slab) _ linked
    ∙ ap (moved c.args.order c.args.slab) c.self.view_is

pub returns-clause-plan : goal.returns-clause-plan
returns-clause-plan c =
    let count : length c.args.self.now ≡ length c.self.inside.chains.nexts.items =
    sym (ap length c.self.view_is) ∙ c.self.invariant.lists_count in
    let order : c.args.order < length c.self.inside.chains.nexts.items =
    omega (arith, c.requires.order, count) in
    let slab : c.args.slab < length c.self.inside.chains.nexts.items =
    omega (arith, c.requires.slab, count) in
    let left : c.index-old.result.now ≡ get_or c.self.inside.slabs.items c.args.order 0 =
    c.index-old.ensures
    ∙ get_or_default c.self.inside.slabs.items c.args.order c.index-old.result.now 0
    (omega (arith, order, c.self.invariant.slabs_count)) in
    let linked = relinked c.self.inside.chains.firsts.items c.self.inside.chains.nexts.items
    c.self.inside.chains.previous.items c.self.inside.slabs.items
    (lists_of c.self.inside.chains.firsts.items c.self.inside.chains.nexts.items) c.args.order
    c.args.slab c.index-old.result.now c.unlink.new.self.firsts.items
    c.unlink.new.self.nexts.items c.unlink.new.self.previous.items c.link.new.self.firsts.items
    c.link.new.self.nexts.items c.link.new.self.previous.items
    (slice_set c.self.inside.slabs.items c.args.order c.args.slab) c.self.invariant order slab left
    c.unlink.ensures.firsts c.unlink.ensures.nexts c.unlink.ensures.previous
    c.link.ensures.firsts c.link.ensures.nexts c.link.ensures.previous refl in
    ap plan_of (lists-are c.link.new.self.firsts.items c.link.new.self.nexts.items
    c.link.new.self.previous.items
    (slice_set c.self.inside.slabs.items c.args.order c.args.slab) _ linked)
    ∙ plan-is c.link.new.self.firsts.items c.link.new.self.nexts.items
    c.link.new.self.previous.items
    (slice_set c.self.inside.slabs.items c.args.order c.args.slab) _ linked
    ∙ ap (λ plan. slice_set plan c.args.order c.args.slab)
    (sym (plan-is c.self.inside.chains.firsts.items c.self.inside.chains.nexts.items
    c.self.inside.chains.previous.items c.self.inside.slabs.items _ c.self.invariant)
    ∙ ap plan_of c.self.view_is)

pub returns-clause-kept : goal.returns-clause-kept
returns-clause-kept c =
    let count : length c.args.self.now ≡ length c.self.inside.chains.nexts.items =
    sym (ap length c.self.view_is) ∙ c.self.invariant.lists_count in
    let order : c.args.order < length c.self.inside.chains.nexts.items =
    omega (arith, c.requires.order, count) in
    let slab : c.args.slab < length c.self.inside.chains.nexts.items =
    omega (arith, c.requires.slab, count) in
    let left : c.index-old.result.now ≡ get_or c.self.inside.slabs.items c.args.order 0 =
    c.index-old.ensures
    ∙ get_or_default c.self.inside.slabs.items c.args.order c.index-old.result.now 0
    (omega (arith, order, c.self.invariant.slabs_count)) in
    let linked = relinked c.self.inside.chains.firsts.items c.self.inside.chains.nexts.items
    c.self.inside.chains.previous.items c.self.inside.slabs.items
    (lists_of c.self.inside.chains.firsts.items c.self.inside.chains.nexts.items) c.args.order
    c.args.slab c.index-old.result.now c.unlink.new.self.firsts.items
    c.unlink.new.self.nexts.items c.unlink.new.self.previous.items c.link.new.self.firsts.items
    c.link.new.self.nexts.items c.link.new.self.previous.items
    (slice_set c.self.inside.slabs.items c.args.order c.args.slab) c.self.invariant order slab left
    c.unlink.ensures.firsts c.unlink.ensures.nexts c.unlink.ensures.previous
    c.link.ensures.firsts c.link.ensures.nexts c.link.ensures.previous refl in
    subst (λ lists. AreSlabLists lists)
    (sym (lists-are c.link.new.self.firsts.items c.link.new.self.nexts.items
    c.link.new.self.previous.items
    (slice_set c.self.inside.slabs.items c.args.order c.args.slab) _ linked))
    (are-lists c.link.new.self.firsts.items c.link.new.self.nexts.items
    c.link.new.self.previous.items
    (slice_set c.self.inside.slabs.items c.args.order c.args.slab) _ linked)
