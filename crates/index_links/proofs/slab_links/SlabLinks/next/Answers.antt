use Rattle.std.proofs.Common.{List, ℕ, None, ◌≡◌, ◌<◌, ◌∙◌, length, sym, subst, ap, arith}
use Rattle.std.proofs.lemmas.List.{get_or_default}
use Rattle.index_links.specs.Lists.{AreSlabLists, after, list_at, slab_in}
use Rattle.index_links.proofs.Moved.{if-some}
use Rattle.index_links.proofs.Views.{are-lists, next-in-range, next-is}
use Rattle.index_links.proofs.slab_links.SlabLinks.next.Goals as goal

pub returns-clause-is : goal.returns-clause-is
returns-clause-is c =
    let count : length c.args.self.now ≡ length c.self.inside.chains.nexts.items =
    sym (ap length c.self.view_is) ∙ c.self.invariant.lists_count in
    let low : c.args.order < length c.self.inside.chains.nexts.items =
    omega (arith, c.requires, count) in
    let at = c.index.ensures
    ∙ get_or_default c.self.inside.chains.nexts.items c.args.order c.index.result.now None low in
    subst (λ (lists : List (List ℕ)). c.index.result.now
    ≡ after c.args.order (list_at lists (slab_in lists c.args.order)))
    c.self.view_is (at ∙ next-is c.self.inside.chains.firsts.items c.self.inside.chains.nexts.items
    c.self.inside.chains.previous.items c.self.inside.slabs.items
    _ c.self.invariant c.args.order low)

pub returns-clause-kept : goal.returns-clause-kept
returns-clause-kept c =
    subst (λ (lists : List (List ℕ)). AreSlabLists lists) c.self.view_is
    (are-lists c.self.inside.chains.firsts.items c.self.inside.chains.nexts.items
    c.self.inside.chains.previous.items c.self.inside.slabs.items _ c.self.invariant)

pub returns-clause-low : goal.returns-clause-low
returns-clause-low c =
    let count : length c.args.self.now ≡ length c.self.inside.chains.nexts.items =
    sym (ap length c.self.view_is) ∙ c.self.invariant.lists_count in
    let low : c.args.order < length c.self.inside.chains.nexts.items =
    omega (arith, c.requires, count) in
    let at = c.index.ensures
    ∙ get_or_default c.self.inside.chains.nexts.items c.args.order c.index.result.now None
    (omega (arith, low, c.self.invariant.firsts_count)) in
    if-some c.index.result.now (λ order. order < length c.args.self.now)
    (λ z e.
    let within = next-in-range c.self.inside.chains.firsts.items c.self.inside.chains.nexts.items
    c.self.inside.chains.previous.items c.self.inside.slabs.items
    _ c.self.invariant c.args.order z low (sym at ∙ e) in omega (arith, within, count))
