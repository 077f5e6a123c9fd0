use Rattle.std.proofs.Common.{◌∙◌, length, ap, sym}
use Rattle.index_links.proofs.Members.{plan-count}
use Rattle.large_moves.specs.Laid.{Laid}
use Rattle.large_moves.proofs.Betters.{linked-length}
use Rattle.large_moves.proofs.mover.Mover.len.Goals as goal

pub returns-clause-orders : goal.returns-clause-orders
returns-clause-orders c =
    c.len.ensures.is
    ∙ linked-length c.self.inside.splitter c.self.inside.orders.items c.self.inside.links
    c.self.invariant.is_laid.is_legal
    ∙ ap (λ (laid : Laid). length laid.orders) c.self.view_is

pub returns-clause-plan : goal.returns-clause-plan
returns-clause-plan c =
    c.len.ensures.is ∙ sym (plan-count c.self.inside.links)
    ∙ ap (λ (laid : Laid). length laid.plan) c.self.view_is
