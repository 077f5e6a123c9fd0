-- Slabs are judged by rising number, and all below this one are legal. So the first that isn't
-- legal is the lowest, and what is wrong with it decides all three clauses at once; where none is
-- met, the plan is legal, and the charges so far are its loss.
use Rattle.std.proofs.Common.{◌≡◌, ◌<◌, ◌≤◌, ◌∙◌, length, get_or, slice_index, rules}
use Rattle.std.proofs.lemmas.List.{get_or_default}
use Rattle.mill_model.specs.Charges.{charge_of}
use Rattle.mill_model.specs.Instance.{largest, mill_of}
use Rattle.mill_model.specs.Slab.{load, colours}
use Rattle.mill_model.specs.Plan.{slab}
use Rattle.mill_model.specs.Plan.{IsPlanWithLoss}
use Rattle.plan_check.specs.Verdicts.{IsHeavy, IsColourful}
use Rattle.plan_check.proofs.Judged.{legal-found, heavy-found, colourful-found}
use Rattle.plan_check.proofs.Judged.{legal-judged, heavy-judged, colourful-judged}
use Rattle.plan_check.proofs.judging.judge.Goals as goal

-- the slab is heavy, and the lowest that isn't legal
heavy : (c : goal.After-drop-loads-then-load-from) → IsHeavy (mill_of c.args.instance.now)
    c.args.instance.now.orders c.args.plan.now c.loop-number.number
    (get_or c.deref-load-items.result.now c.loop-number.number 0)
heavy c =
    let number = c.loop-number.number in
    let orders = c.args.instance.now.orders in
    let within : number < length orders = search rules in
    let weighs : get_or c.deref-load-items.result.now number 0
    ≡ load (slab number c.args.plan.now orders) = search rules in
    heavy-found (mill_of c.args.instance.now) _ orders c.args.plan.now number _ _
    c.loop-number.invariant within weighs (search rules)

pub returns-then-load-from-clause-legal : goal.returns-then-load-from-clause-legal
returns-then-load-from-clause-legal c = (heavy-judged _ _ _ _ _ _ (heavy c)).is_legal

pub returns-then-load-from-clause-heavy : goal.returns-then-load-from-clause-heavy
returns-then-load-from-clause-heavy c =
    (heavy-judged _ (charge_of c.args.charges.now) _ _ _ _ (heavy c)).is_heavy

pub returns-then-load-from-clause-colourful : goal.returns-then-load-from-clause-colourful
returns-then-load-from-clause-colourful c =
    (heavy-judged _ (charge_of c.args.charges.now) _ _ _ _ (heavy c)).is_colourful

-- the slab is no heavier than the largest size, too colourful, and the lowest that isn't legal
colourful : (c : goal.After-drop-loads-then-colours-from) →
    IsColourful (mill_of c.args.instance.now)
    c.args.instance.now.orders c.args.plan.now c.loop-number.number c.index-colours.result.now
colourful c =
    let number = c.loop-number.number in
    let orders = c.args.instance.now.orders in
    let within : number < length orders = search rules in
    let light : load (slab number c.args.plan.now orders)
    ≤ largest c.args.instance.now.sizes = search rules in
    let listed : number < length c.in_ok-counts.counts.items = search rules in
    let there : get_or c.in_ok-counts.counts.items number 0
    ≡ colours (slab number c.args.plan.now orders) = search rules in
    let counts : c.index-colours.result.now ≡ colours (slab number c.args.plan.now orders) =
    c.index-colours.ensures ∙ get_or_default _ number _ 0 listed ∙ there in
    colourful-found (mill_of c.args.instance.now) (charge_of c.args.charges.now) orders
    c.args.plan.now number _ _ c.loop-number.invariant within light counts (search rules)

pub returns-then-colours-from-clause-legal : goal.returns-then-colours-from-clause-legal
returns-then-colours-from-clause-legal c = (colourful-judged _ _ _ _ _ _ (colourful c)).is_legal

pub returns-then-colours-from-clause-heavy : goal.returns-then-colours-from-clause-heavy
returns-then-colours-from-clause-heavy c =
    (colourful-judged _ (charge_of c.args.charges.now) _ _ _ _ (colourful c)).is_heavy

pub returns-then-colours-from-clause-colourful : goal.returns-then-colours-from-clause-colourful
returns-then-colours-from-clause-colourful c =
    (colourful-judged _ (charge_of c.args.charges.now) _ _ _ _ (colourful c)).is_colourful

-- all slabs are legal
all-legal : (c : goal.After-drop-loads-2) → IsPlanWithLoss (mill_of c.args.instance.now)
    (charge_of c.args.charges.now) c.args.instance.now.orders c.args.plan.now
    c.loop-number.loss
all-legal c =
    let end : c.loop-number.number ≡ length c.args.instance.now.orders = search rules in
    legal-found (mill_of c.args.instance.now) (charge_of c.args.charges.now)
    c.args.instance.now.orders c.args.plan.now c.loop-number.loss c.requires.each
    (rw end at c.loop-number.invariant)

pub returns-clause-legal : goal.returns-clause-legal
returns-clause-legal c = (legal-judged _ _ _ _ _ (all-legal c)).is_legal

pub returns-clause-heavy : goal.returns-clause-heavy
returns-clause-heavy c = (legal-judged _ _ _ _ _ (all-legal c)).is_heavy

pub returns-clause-colourful : goal.returns-clause-colourful
returns-clause-colourful c = (legal-judged _ _ _ _ _ (all-legal c)).is_colourful
