-- The orders are linked from the last to the first, each in front of its slab's chain, so that
-- the chains rise. The tables are at each step those of the orders behind (AreMade); at the first
-- order they are those of the whole plan, of which all clauses then speak.
use Rattle.std.proofs.Common.{List, ℕ, suc, Some, None, ◌≡◌, ◌<◌, ◌≤◌, ◌-◌, ◌∙◌, length, get_or}
use Rattle.std.proofs.Common.{set, sym, subst, ap, arith, rules}
use Rattle.std.specs.List.{All}
use Rattle.std.proofs.lemmas.List.{get_or_default}
use Rattle.mill_model.specs.declared.order.TheConstants.{MAX_ORDERS}
use Rattle.index_links.specs.Links.{IsLinked, look, set_at}
use Rattle.index_links.specs.Lists.{AreSlabLists, lists_of_plan, plan_of}
use Rattle.index_links.proofs.Made.{AreMade, first-made, made-linked, made-more}
use Rattle.index_links.proofs.Moved.{if-some}
use Rattle.index_links.proofs.Views.{are-lists, lists-are, plan-is}
use Rattle.index_links.proofs.slab_links.SlabLinks.new.Goals as goal

pub link-requires-clause-first : goal.link-requires-clause-first
link-requires-clause-first c =
    let same : c.args.plan.now ≡ c.in_ok-slabs.slabs.items = search rules in
    let low : All (λ s. s < length c.in_ok-slabs.slabs.items) c.in_ok-slabs.slabs.items =
    subst (λ (plan : List ℕ). All (λ s. s < length plan) plan) same c.requires.below in
    let few : c.len-order.result ≡ length c.in_ok-slabs.slabs.items = search rules in
    let here : c.loop-order.order - 1 < length c.in_ok-slabs.slabs.items = omega arith in
    let next : c.loop-order.order ≡ suc (c.loop-order.order - 1) = omega arith in
    let made = subst (λ (k : ℕ). AreMade c.in_ok-slabs.slabs.items k
    c.loop-order.chains.firsts.items c.loop-order.chains.nexts.items
    c.loop-order.chains.previous.items) next c.loop-order.invariant in
    let at : c.index.result.now ≡ get_or c.in_ok-slabs.slabs.items (c.loop-order.order - 1) 0 =
    c.index.ensures
    ∙ get_or_default c.in_ok-slabs.slabs.items (c.loop-order.order - 1)
    c.index.result.now 0 here in
    if-some _ (λ other. other < length c.loop-order.chains.nexts.items)
    (λ z e. let within = first-made c.in_ok-slabs.slabs.items (c.loop-order.order - 1)
    c.loop-order.chains.firsts.items c.loop-order.chains.nexts.items
    c.loop-order.chains.previous.items here low made z
    (subst (λ (s : ℕ). look c.loop-order.chains.firsts.items s ≡ Some z) at e) in
    omega (arith, within, c.loop-order.invariant.nexts_count))

pub loop-order-preserved : goal.loop-order-preserved
loop-order-preserved c =
    let same : c.args.plan.now ≡ c.in_ok-slabs.slabs.items = search rules in
    let low : All (λ s. s < length c.in_ok-slabs.slabs.items) c.in_ok-slabs.slabs.items =
    subst (λ (plan : List ℕ). All (λ s. s < length plan) plan) same c.requires.below in
    let few : c.len-order.result ≡ length c.in_ok-slabs.slabs.items = search rules in
    let here : c.loop-order.order - 1 < length c.in_ok-slabs.slabs.items = omega arith in
    let next : c.loop-order.order ≡ suc (c.loop-order.order - 1) = omega arith in
    let made = subst (λ (k : ℕ). AreMade c.in_ok-slabs.slabs.items k
    c.loop-order.chains.firsts.items c.loop-order.chains.nexts.items
    c.loop-order.chains.previous.items) next c.loop-order.invariant in
    let at : c.index.result.now ≡ get_or c.in_ok-slabs.slabs.items (c.loop-order.order - 1) 0 =
    c.index.ensures
    ∙ get_or_default c.in_ok-slabs.slabs.items (c.loop-order.order - 1)
    c.index.result.now 0 here in
    made-more c.in_ok-slabs.slabs.items (c.loop-order.order - 1)
    c.loop-order.chains.firsts.items c.loop-order.chains.nexts.items
    c.loop-order.chains.previous.items here low made
    c.link.new.self.firsts.items c.link.new.self.nexts.items c.link.new.self.previous.items
    (c.link.ensures.firsts ∙ ap (λ (s : ℕ). set c.loop-order.chains.firsts.items s
    (Some (c.loop-order.order - 1))) at)
    (c.link.ensures.nexts ∙ ap (λ (s : ℕ). set c.loop-order.chains.nexts.items
    (c.loop-order.order - 1) (look c.loop-order.chains.firsts.items s)) at)
    (c.link.ensures.previous ∙ ap (λ (s : ℕ). set
    (set_at (look c.loop-order.chains.firsts.items s) (Some (c.loop-order.order - 1))
    c.loop-order.chains.previous.items) (c.loop-order.order - 1) None) at)

pub invariant_of-result : goal.invariant_of-result
invariant_of-result c =
    let same : c.args.plan.now ≡ c.in_ok-slabs.slabs.items = search rules in
    let low : All (λ s. s < length c.in_ok-slabs.slabs.items) c.in_ok-slabs.slabs.items =
    subst (λ (plan : List ℕ). All (λ s. s < length plan) plan) same c.requires.below in
    let first : c.loop-order.order ≡ 0 = omega arith in
    let few : length c.in_ok-slabs.slabs.items ≤ MAX_ORDERS =
    subst (λ (plan : List ℕ). length plan ≤ MAX_ORDERS) same c.requires.few in
    let made = subst (λ (k : ℕ). AreMade c.in_ok-slabs.slabs.items k
    c.loop-order.chains.firsts.items c.loop-order.chains.nexts.items
    c.loop-order.chains.previous.items) first c.loop-order.invariant in
    let linked = made-linked c.in_ok-slabs.slabs.items
    c.loop-order.chains.firsts.items c.loop-order.chains.nexts.items
    c.loop-order.chains.previous.items few low made in
    subst (λ (lists : List (List ℕ)).
    IsLinked c.loop-order.chains.firsts.items c.loop-order.chains.nexts.items
    c.loop-order.chains.previous.items c.in_ok-slabs.slabs.items lists)
    (sym (lists-are c.loop-order.chains.firsts.items c.loop-order.chains.nexts.items
    c.loop-order.chains.previous.items c.in_ok-slabs.slabs.items _ linked)) linked

pub returns-clause-lists : goal.returns-clause-lists
returns-clause-lists c =
    let same : c.args.plan.now ≡ c.in_ok-slabs.slabs.items = search rules in
    let low : All (λ s. s < length c.in_ok-slabs.slabs.items) c.in_ok-slabs.slabs.items =
    subst (λ (plan : List ℕ). All (λ s. s < length plan) plan) same c.requires.below in
    let first : c.loop-order.order ≡ 0 = omega arith in
    let few : length c.in_ok-slabs.slabs.items ≤ MAX_ORDERS =
    subst (λ (plan : List ℕ). length plan ≤ MAX_ORDERS) same c.requires.few in
    let made = subst (λ (k : ℕ). AreMade c.in_ok-slabs.slabs.items k
    c.loop-order.chains.firsts.items c.loop-order.chains.nexts.items
    c.loop-order.chains.previous.items) first c.loop-order.invariant in
    let linked = made-linked c.in_ok-slabs.slabs.items
    c.loop-order.chains.firsts.items c.loop-order.chains.nexts.items
    c.loop-order.chains.previous.items few low made in
    lists-are c.loop-order.chains.firsts.items c.loop-order.chains.nexts.items
    c.loop-order.chains.previous.items c.in_ok-slabs.slabs.items _ linked
    ∙ ap lists_of_plan (sym same)

pub returns-clause-plan : goal.returns-clause-plan
returns-clause-plan c =
    let same : c.args.plan.now ≡ c.in_ok-slabs.slabs.items = search rules in
    let low : All (λ s. s < length c.in_ok-slabs.slabs.items) c.in_ok-slabs.slabs.items =
    subst (λ (plan : List ℕ). All (λ s. s < length plan) plan) same c.requires.below in
    let first : c.loop-order.order ≡ 0 = omega arith in
    let few : length c.in_ok-slabs.slabs.items ≤ MAX_ORDERS =
    subst (λ (plan : List ℕ). length plan ≤ MAX_ORDERS) same c.requires.few in
    let made = subst (λ (k : ℕ). AreMade c.in_ok-slabs.slabs.items k
    c.loop-order.chains.firsts.items c.loop-order.chains.nexts.items
    c.loop-order.chains.previous.items) first c.loop-order.invariant in
    let linked = made-linked c.in_ok-slabs.slabs.items
    c.loop-order.chains.firsts.items c.loop-order.chains.nexts.items
    c.loop-order.chains.previous.items few low made in
    ap plan_of (lists-are c.loop-order.chains.firsts.items c.loop-order.chains.nexts.items
    c.loop-order.chains.previous.items c.in_ok-slabs.slabs.items _ linked)
    ∙ plan-is c.loop-order.chains.firsts.items c.loop-order.chains.nexts.items
    c.loop-order.chains.previous.items c.in_ok-slabs.slabs.items _ linked ∙ sym same

pub returns-clause-kept : goal.returns-clause-kept
returns-clause-kept c =
    let same : c.args.plan.now ≡ c.in_ok-slabs.slabs.items = search rules in
    let low : All (λ s. s < length c.in_ok-slabs.slabs.items) c.in_ok-slabs.slabs.items =
    subst (λ (plan : List ℕ). All (λ s. s < length plan) plan) same c.requires.below in
    let first : c.loop-order.order ≡ 0 = omega arith in
    let few : length c.in_ok-slabs.slabs.items ≤ MAX_ORDERS =
    subst (λ (plan : List ℕ). length plan ≤ MAX_ORDERS) same c.requires.few in
    let made = subst (λ (k : ℕ). AreMade c.in_ok-slabs.slabs.items k
    c.loop-order.chains.firsts.items c.loop-order.chains.nexts.items
    c.loop-order.chains.previous.items) first c.loop-order.invariant in
    let linked = made-linked c.in_ok-slabs.slabs.items
    c.loop-order.chains.firsts.items c.loop-order.chains.nexts.items
    c.loop-order.chains.previous.items few low made in
    subst (λ (lists : List (List ℕ)). AreSlabLists lists)
    (sym (lists-are c.loop-order.chains.firsts.items c.loop-order.chains.nexts.items
    c.loop-order.chains.previous.items c.in_ok-slabs.slabs.items _ linked))
    (are-lists c.loop-order.chains.firsts.items c.loop-order.chains.nexts.items
    c.loop-order.chains.previous.items c.in_ok-slabs.slabs.items _ linked)
