use Rattle.std.proofs.Common.{List, ℕ, ◌≡◌, ◌<◌, ◌∙◌, length, get_or, sym, subst, ap, arith}
use Rattle.std.proofs.lemmas.List.{get_or_default}
use Rattle.index_links.specs.Lists.{AreSlabLists, slab_in}
use Rattle.index_links.proofs.Views.{are-lists, slab-is}
use Rattle.index_links.proofs.slab_links.SlabLinks.slab_of.Goals as goal

pub returns-clause-is : goal.returns-clause-is
returns-clause-is c =
    let count : length c.args.self.now ≡ length c.self.inside.chains.nexts.items =
    sym (ap length c.self.view_is) ∙ c.self.invariant.lists_count in
    let low : c.args.order < length c.self.inside.chains.nexts.items =
    omega (arith, c.requires, count) in
    let at : c.index.result.now ≡ get_or c.self.inside.slabs.items c.args.order 0 =
    c.index.ensures
    ∙ get_or_default c.self.inside.slabs.items c.args.order c.index.result.now 0
    (omega (arith, low, c.self.invariant.slabs_count)) in
    subst (λ (lists : List (List ℕ)). c.index.result.now ≡ slab_in lists c.args.order)
    c.self.view_is
    (at ∙ sym (slab-is c.self.inside.chains.firsts.items c.self.inside.chains.nexts.items
    c.self.inside.chains.previous.items c.self.inside.slabs.items
    _ c.self.invariant c.args.order low))

pub returns-clause-kept : goal.returns-clause-kept
returns-clause-kept c =
    subst (λ (lists : List (List ℕ)). AreSlabLists lists) c.self.view_is
    (are-lists c.self.inside.chains.firsts.items c.self.inside.chains.nexts.items
    c.self.inside.chains.previous.items c.self.inside.slabs.items _ c.self.invariant)
