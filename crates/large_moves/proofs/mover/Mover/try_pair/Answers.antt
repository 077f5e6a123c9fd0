use Rattle.std.proofs.Common.{◌≡◌, ◌<◌, ◌∙◌, length, ap, rules, subst}
use Rattle.std.proofs.lemmas.List.{with_items_is}
use Rattle.std.proofs.lemmas.Option.{IfSome_then}
use Rattle.mill_model.specs.Charges.{charge_of}
use Rattle.mill_model.specs.Plan.{loss, IsLegalPlan}
use Rattle.index_links.specs.Lists.{plan_of}
use Rattle.large_moves.specs.Laid.{Laid, AreLoads, laid_loss}
use Rattle.large_moves.proofs.Held.{mover-of, moved-held, less-by}
use Rattle.large_moves.proofs.mover.Mover.try_pair.Goals as goal

pub invariant_of-self : goal.invariant_of-self
invariant_of-self c =
    let loads_long : length c.try_split.new.loads ≡ c.self.inside.loads.len = search rules in
    let marks_long : length c.try_split.new.marks ≡ c.self.inside.marks.len = search rules in
    mover-of _ c.try_split.new.links _ c.try_split.new.loads c.try_split.new.room _
    c.try_split.new.marks
    (with_items_is c.self.inside.loads c.try_split.new.loads loads_long)
    (with_items_is c.self.inside.marks c.try_split.new.marks marks_long)
    (moved-held c.self.inside.splitter c.try_split.new.splitter c.self.inside.orders.items
    c.self.inside.links c.try_split.new.links c.self.inside.loads.items c.try_split.new.loads
    c.self.inside.room c.try_split.new.room c.self.inside.marks.items c.try_split.new.marks
    c.self.invariant c.try_split.ensures.mill
    (subst (λ orders. IsLegalPlan c.self.inside.splitter orders (plan_of c.try_split.new.links))
    c.deref.ensures.value c.try_split.ensures.legal)
    c.try_split.ensures.lists
    (subst (λ orders. AreLoads orders (plan_of c.try_split.new.links) c.try_split.new.loads)
    c.deref.ensures.value c.try_split.ensures.loads)
    c.try_split.ensures.places c.try_split.ensures.items
    (c.try_split.auto.marks ∙ ap length c.deref_mut.ensures.value))

pub returns-clause-less : goal.returns-clause-less
returns-clause-less c =
    IfSome_then c.try_split.result c.try_split.ensures.less (λ second less.
    subst (λ (laid : Laid). loss (charge_of c.args.charges.now) (plan_of c.try_split.new.links)
    c.self.inside.orders.items < laid_loss (charge_of c.args.charges.now) laid) c.self.view_is
    (less-by (charge_of c.args.charges.now) c.self.inside.orders.items c.deref.result.now
    (plan_of c.self.inside.links) (plan_of c.try_split.new.links) c.deref.ensures.value less))
