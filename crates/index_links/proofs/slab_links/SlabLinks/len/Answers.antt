use Rattle.std.proofs.Common.{List, ℕ, subst}
use Rattle.index_links.specs.Lists.{AreSlabLists}
use Rattle.index_links.proofs.Views.{are-lists}
use Rattle.index_links.proofs.slab_links.SlabLinks.len.Goals as goal

pub returns-clause-kept : goal.returns-clause-kept
returns-clause-kept c =
    subst (λ (lists : List (List ℕ)). AreSlabLists lists) c.self.view_is
    (are-lists c.self.inside.chains.firsts.items c.self.inside.chains.nexts.items
    c.self.inside.chains.previous.items c.self.inside.slabs.items _ c.self.invariant)
