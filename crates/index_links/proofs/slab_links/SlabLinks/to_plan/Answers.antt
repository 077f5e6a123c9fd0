use Rattle.std.proofs.Common.{◌≡◌, ◌∙◌, sym, ap}
use Rattle.std.proofs.Common.{rules}
use Rattle.index_links.specs.Lists.{plan_of}
use Rattle.index_links.proofs.Views.{plan-is}
use Rattle.index_links.proofs.slab_links.SlabLinks.to_plan.Goals as goal

pub returns : goal.returns
returns c =
    let same : c.in_ok-to_vec.field-0.items ≡ c.self.inside.slabs.items = search rules in
    c.from_list.ensures ∙ same
    ∙ sym (plan-is c.self.inside.chains.firsts.items c.self.inside.chains.nexts.items
    c.self.inside.chains.previous.items c.self.inside.slabs.items _ c.self.invariant)
    ∙ ap plan_of c.self.view_is
