-- What is copied has what the whole lets in.
use Rattle.std.proofs.Common.{◌≡◌, ℕ, suc, [], ◌+◌, ◌*◌, ◌<◌, ◌≤◌, length, sym, subst, arith, ap}
use Rattle.std.proofs.Common.{mul-le-mul_right, refl, cond, map, List, get_or, false}
use Rattle.mill_model.specs.declared.order.Order.{Order}
use Rattle.set_minima.specs.Packs.{IsBest}
use Rattle.set_minima.specs.Cells.{cell, found}
use Rattle.least_slacks.specs.Later.{others_of, AreReachesOf}
use Rattle.set_minima.specs.Reaches.{IsReach}
use Rattle.least_slacks.specs.declared.later_orders.LaterOrders.{LaterOrders}
use Rattle.least_slacks.specs.declared.parts.Part.{Part}
use Rattle.least_slacks.specs.Parts.{letting_of, out_of}
use Rattle.least_slacks.proofs.halving.refill_layers.Goals as goal

-- a load of a layer stands before the end of all layers
inside : (t layers most width wide l whole : ℕ) → t < layers → layers ≤ most → l < width →
    width ≤ wide → most * wide ≡ whole → t * wide + l < whole
inside t layers most width wide l whole a b c d e =
    let m : suc t * wide ≤ most * wide = mul-le-mul_right wide (omega arith) in omega arith

pub add_colours-requires-clause-near : goal.add_colours-requires-clause-near
add_colours-requires-clause-near c =
    c.copy_layers.ensures.near 100000000000000000 (λ t a l b.
    c.requires.near (t * c.args.from.now.shape.width + l)
    (inside t c.args.layers c.args.from.now.shape.layers (length c.args.table.now)
    c.args.from.now.shape.width l
    (c.args.from.now.shape.layers * c.args.from.now.shape.width) a c.requires.deep b
    c.requires.wide refl))

-- sets that are lighter than the narrower tables reach no further
narrower : (later : LaterOrders) (part : Part) (layers width most wide : ℕ) (reach : List ℕ) →
    part.first ≡ false → layers ≤ most → width ≤ wide →
    AreReachesOf later (others_of later (out_of part.most part.whole.now)) most wide reach →
    AreReachesOf later (others_of later (letting_of later.rest.now part).before) layers width reach
narrower later part layers width most wide reach not_first deep narrow p t a =
    let whole = out_of part.most part.whole.now in
    let before : whole ≡ (letting_of later.rest.now part).before =
    sym (ap (λ b. cond b (map (λ (order : Order). order.colour) later.rest.now) whole) not_first)
    in
    subst (λ (out : List ℕ). IsReach (others_of later out) [] t later.rest.now width
    (get_or reach t 0)) before (λ l marks q b. p t (omega arith) l marks q (omega arith))

pub returns-clause-reach : goal.returns-clause-reach
returns-clause-reach c p =
    c.add_colours.ensures.reach (narrower c.args.later.now c.args.part.now c.args.layers
    (length c.args.table.now) c.args.from.now.shape.layers c.args.from.now.shape.width
    c.args.from.now.reach c.requires.part c.requires.deep c.requires.wide p)

pub returns-clause-best : goal.returns-clause-best
returns-clause-best c reached p =
    let rest = c.args.later.now.rest.now in
    let prices = c.args.later.now.prices.now in
    let part = c.args.part.now in
    let wide = c.args.from.now.shape.width in
    let whole = out_of part.most part.whole.now in
    c.add_colours.ensures.best (narrower c.args.later.now part c.args.layers
    (length c.args.table.now) c.args.from.now.shape.layers wide c.args.from.now.reach
    c.requires.part c.requires.deep c.requires.wide reached) (λ t a l b.
    subst (λ (out : List ℕ). IsBest (others_of c.args.later.now out) [] t rest prices l
    (cell c.copy_layers.new.tables (t * length c.args.table.now + l)))
    (sym (ap (λ b. cond b (map (λ (order : Order). order.colour) rest) whole) c.requires.part))
    (subst (λ x. IsBest (others_of c.args.later.now whole) [] t rest prices l (found x))
    (sym (c.copy_layers.ensures.is t a l b))
    (p t (omega (arith, a, c.requires.deep)) l (omega (arith, b, c.requires.wide)))))

pub returns-clause-near : goal.returns-clause-near
returns-clause-near c n near =
    c.add_colours.ensures.near n (c.copy_layers.ensures.near n (λ t a l b.
    near (t * c.args.from.now.shape.width + l)
    (inside t c.args.layers c.args.from.now.shape.layers (length c.args.table.now)
    c.args.from.now.shape.width l
    (c.args.from.now.shape.layers * c.args.from.now.shape.width) a c.requires.deep b
    c.requires.wide refl)))
