-- At first the empty set alone stands in each layer: no order was let in.
use Rattle.std.proofs.Common.{◌≡◌, ℕ, zero, suc, [], ◌+◌, ◌*◌, ◌<◌, ◌∙◌, length, sym, subst, refl}
use Rattle.std.proofs.Common.{ap, arith}
use Rattle.std.proofs.Common.{true, false, cond, map, get_or, pos, zero-add, replicate}
use Rattle.list_laws.specs.Sets.{holds}
use Rattle.mill_model.specs.Limits.{all_prices}
use Rattle.mill_model.specs.declared.order.Order.{Order}
use Rattle.set_minima.specs.Packs.{IsBest, nobody, colour_at}
use Rattle.set_minima.proofs.OneColour.{layer-spread, table-none, table-empty}
use Rattle.set_minima.proofs.OneOrder.{best-allowed}
use Rattle.set_minima.specs.Cells.{cell, found}
use Rattle.least_slacks.specs.Items.{no_place, others}
use Rattle.least_slacks.specs.Later.{others_of, AreReachesOf}
use Rattle.least_slacks.specs.Parts.{letting_of, out_of}
use Rattle.least_slacks.proofs.ColoursCounted.{value-held}
use Rattle.least_slacks.specs.declared.later_orders.LaterOrders.{LaterOrders}
use Rattle.least_slacks.specs.declared.parts.Part.{Part}
use Rattle.set_minima.proofs.ReachMore.{reach-allowed, reach-none}
use Rattle.set_minima.proofs.CellNumbers.{near-wider}
use Rattle.least_slacks.proofs.halving.fill_layers.Goals as goal

-- the first tables leave out all colours before any is let in
none-at-first : (later : LaterOrders) (part : Part) → part.first ≡ true → (i : ℕ) →
    i < length later.rest.now →
    false ≡ others_of later (letting_of later.rest.now part).before i
none-at-first later part first i h =
    let rest = later.rest.now in
    let all : holds (colour_at rest i) (map (λ (order : Order). order.colour) rest) ≡ true =
    value-held (λ (order : Order). order.colour) rest i nobody h in
    sym (ap (λ b. others rest (cond b (map (λ (order : Order). order.colour) rest)
    (out_of part.most part.whole.now)) i) first ∙ rw all refl)

first-reach : (later : LaterOrders) (part : Part) → part.first ≡ true → (layers width : ℕ) →
    AreReachesOf later (others_of later (letting_of later.rest.now part).before) layers width
    (replicate 9 0)
first-reach later part first layers width t a =
    let rest = later.rest.now in
    reach-allowed rest no_place (others_of later (letting_of rest part).before) [] t width
    (get_or (replicate 9 0) t 0) (λ i h o. none-at-first later part first i h ∙ o)
    (reach-none rest no_place (λ i. refl) [] t width (get_or (replicate 9 0) t 0))

pub returns-clause-reach : goal.returns-clause-reach
returns-clause-reach c =
    let v : length c.clear.new.table ≡ length c.args.table.now = c.clear.auto.table in
    let reach = rw v at c.add_colours.ensures.reach in
    reach (first-reach c.args.later.now c.args.part.now c.requires.first c.args.layers
    (length c.args.table.now))

pub returns-clause-best : goal.returns-clause-best
returns-clause-best c =
    let rest = c.args.later.now.rest.now in
    let prices = c.args.later.now.prices.now in
    let later = c.args.later.now in
    let part = c.args.part.now in
    let letting = letting_of rest part in
    let v : length c.clear.new.table ≡ length c.args.table.now = c.clear.auto.table in
    let copied = rw v at c.copy_layers.ensures.is in
    let all = rw v at c.add_colours.ensures.best in
    all (first-reach later part c.requires.first c.args.layers (length c.args.table.now))
    (λ t a l b. best-allowed rest prices no_place (others_of c.args.later.now letting.before) []
    t l (cell c.copy_layers.new.tables (t * length c.args.table.now + l))
    (none-at-first later part c.requires.first)
    (subst (λ x. IsBest no_place [] t rest prices l (found x))
    (sym (copied t a l b ∙ ap (λ k. get_or c.clear.new.table k (pos 0)) (here t l)))
    (subst (λ z. IsBest no_place [] z rest prices l (cell c.clear.new.table l)) (zero-add t)
    (layer-spread rest no_place [] prices 0 t l (cell c.clear.new.table l) refl
    (λ i h. absurd (never h)) (first l (subst (λ z. l < z) (sym v) b))))))
  where
    here : (t l : ℕ) → t * 0 + l ≡ l
    here t l = omega arith

    never : false ≡ true → ⊥
    never h = cc

    first : (l : ℕ) → l < length c.clear.new.table →
        IsBest no_place [] 0 c.args.later.now.rest.now
        c.args.later.now.prices.now l (cell c.clear.new.table l)
    first zero b =
        rw c.clear.ensures.first (table-empty c.args.later.now.rest.now no_place []
        c.args.later.now.prices.now (λ i. refl) 0 refl)
    first (suc l) b =
        rw (c.clear.ensures.others l b) (table-none c.args.later.now.rest.now no_place []
        c.args.later.now.prices.now (λ i. refl) 0 l)

pub returns-clause-near : goal.returns-clause-near
returns-clause-near c l =
    near-wider (0 + 9 * all_prices) (9 * all_prices) (get_or c.add_colours.new.tables l (pos 0))
    (omega arith)
    (c.add_colours.ensures.near 0 (c.copy_layers.ensures.near 0
    (λ t a k b. c.clear.ensures.near (t * 0 + k))) l)
