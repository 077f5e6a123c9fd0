-- Run by run: the layers have the orders that are let in with the runs before `at`.
use Rattle.std.proofs.Common.{◌≡◌, [], ℕ, ◌+◌, ◌-◌, ◌*◌, length, get_or, pos, arith, ◌<◌, ◌≤◌, ◌∙◌}
use Rattle.std.proofs.Common.{Bool, true, false, not, cond, refl, map, List}
use Rattle.list_laws.specs.Sets.{holds}
use Rattle.mill_model.specs.Limits.{all_prices}
use Rattle.mill_model.specs.declared.order.Order.{Order}
use Rattle.mill_model.specs.declared.prices.TheConstants.{MAX_PRICE}
use Rattle.set_minima.specs.Packs.{nobody, colour_at}
use Rattle.set_minima.specs.Cells.{cell}
use Rattle.least_slacks.specs.Items.{AreItems, IsStretch}
use Rattle.least_slacks.specs.Later.{let_to, others_of}
use Rattle.least_slacks.specs.Parts.{IsWithin, letting_of, out_of}
use Rattle.least_slacks.specs.declared.later_orders.LaterOrders.{LaterOrders}
use Rattle.least_slacks.specs.declared.parts.Part.{Part}
use Rattle.set_minima.proofs.ReachMore.{reach-allowed}
use Rattle.set_minima.proofs.CellNumbers.{near-wider}
use Rattle.least_slacks.proofs.ColoursCounted.{value-held}
use Rattle.least_slacks.proofs.ItemsLetIn.{stretch-from, before-end, none-let_in, all-let_in}
use Rattle.set_minima.proofs.WholeTables.{table-allowed}
use Rattle.least_slacks.proofs.colour_layers.add_colours.Goals as goal

pub add_next-next-requires-clause-stretch : goal.add_next-next-requires-clause-stretch
add_next-next-requires-clause-stretch c =
    stretch-from c.args.later.now.rest.now c.args.later.now.items.now c.requires.later.sorted
    c.loop-at.at
    c.run_end-end.result c.run_end-end.ensures.some c.run_end-end.ensures.ends
    (c.loop-at.invariant.border c.loop-at-test.true) c.run_end-end.ensures.alike
    c.run_end-end.ensures.other

pub loop-at-init : goal.loop-at-init
loop-at-init c =
    let rest = c.args.later.now.rest.now in
    let letting = letting_of rest c.args.part.now in
    record {
      inside = omega arith;
      border = λ h s b. absurd (omega arith);
      reached = λ p t b.
          reach-allowed rest (others_of c.args.later.now letting.before)
          (let_to c.args.later.now letting 0) [] t (length c.args.table.now)
          (get_or c.args.reach t 0)
          (λ i h a. none-let_in rest c.args.later.now.items.now letting i ∙ a) (p t b);
      best = λ reached p t b.
          table-allowed rest c.args.later.now.prices.now
          (others_of c.args.later.now letting.before) (let_to c.args.later.now letting 0) [] t
          (length c.args.table.now)
          (λ l. cell c.args.tables.now (t * length c.args.table.now + l))
          (λ i h. none-let_in rest c.args.later.now.items.now letting i)
          (p t b);
      near = λ n h l.
          near-wider n (n + 0 * (9 * MAX_PRICE))
          (get_or c.args.tables.now l (pos 0)) (omega arith) (h l);
    }

pub add_next-next-requires-clause-near : goal.add_next-next-requires-clause-near
add_next-next-requires-clause-near c l =
    near-wider (100000000000000000 + c.loop-at.at * (9 * MAX_PRICE)) 200000000000000000
    (get_or c.loop-at.tables l (pos 0))
    (omega (arith, c.requires.later.few, c.requires.later.sorted.count, c.loop-at-test.true))
    (c.loop-at.invariant.near 100000000000000000 c.requires.near l)

pub loop-at-preserved : goal.loop-at-preserved
loop-at-preserved c =
    let run : IsStretch c.args.later.now.items.now c.loop-at.at c.run_end-end.result =
    stretch-from c.args.later.now.rest.now c.args.later.now.items.now c.requires.later.sorted
    c.loop-at.at
    c.run_end-end.result c.run_end-end.ensures.some c.run_end-end.ensures.ends
    (c.loop-at.invariant.border c.loop-at-test.true) c.run_end-end.ensures.alike
    c.run_end-end.ensures.other in
    let w : length c.loop-at.table ≡ length c.args.table.now = c.loop-at.auto.table in
    let best = rw w at c.add_next-next.ensures.best in
    let reach = rw w at c.add_next-next.ensures.reach in
    record {
      inside = c.run_end-end.ensures.ends;
      border = before-end c.args.later.now.items.now c.loop-at.at c.run_end-end.result run;
      reached = λ p. reach (c.loop-at.invariant.reached p);
      best = λ reached p.
          best (c.loop-at.invariant.reached reached) (c.loop-at.invariant.best reached p);
      near = λ n h l.
          near-wider (n + c.loop-at.at * (9 * MAX_PRICE)
          + (c.run_end-end.result - c.loop-at.at) * (9 * MAX_PRICE))
          (n + c.run_end-end.result * (9 * MAX_PRICE))
          (get_or c.add_next-next.new.tables l (pos 0)) (omega (arith, c.run_end-end.ensures.some))
          (c.add_next-next.ensures.near (n + c.loop-at.at * (9 * MAX_PRICE))
          (c.loop-at.invariant.near n h) l);
    }

-- in the end all colours are let in that the part asks for
all-let : (later : LaterOrders) (part : Part) (at : ℕ) → AreItems later.rest.now later.items.now →
    IsWithin part → length later.items.now ≤ at → (i : ℕ) → i < length later.rest.now →
    let_to later (letting_of later.rest.now part) at i
    ≡ others_of later (letting_of later.rest.now part).after i
all-let later part at sorted within ends i h =
    let rest = later.rest.now in
    all-let_in rest later.items.now sorted (letting_of rest part) at i ends h
    (kept part.first (colour_at rest i) (map (λ (order : Order). order.colour) rest)
    (out_of part.most part.whole.now) (out_of part.most part.keys.now)
    (value-held (λ (order : Order). order.colour) rest i nobody h) (within (colour_at rest i)))
  where
    -- what is not left out for the whole is not left out for the part
    kept : (first : Bool) (x : ℕ) (all whole part : List ℕ) → holds x all ≡ true →
        (holds x part ≡ true → holds x whole ≡ true) →
        not (holds x (cond first all whole)) ≡ true → not (holds x part) ≡ true
    kept true x all whole part a within h = absurd (go (holds x all) a h)
      where
        go : (b : Bool) → b ≡ true → not b ≡ true → ⊥
        go true e h = cc
        go false e h = cc
    kept false x all whole part a within h = go (holds x part) (holds x whole) within h
      where
        go : (b d : Bool) → (b ≡ true → d ≡ true) → not d ≡ true → not b ≡ true
        go true true f h = h
        go true false f h = f refl
        go false d f h = refl

pub returns-clause-best : goal.returns-clause-best
returns-clause-best c reached p t b =
    let later = c.args.later.now in
    let letting = letting_of later.rest.now c.args.part.now in
    table-allowed later.rest.now later.prices.now (let_to later letting c.loop-at.at)
    (others_of later letting.after) [] t (length c.args.table.now)
    (λ l. cell c.loop-at.tables (t * length c.args.table.now + l))
    (all-let later c.args.part.now c.loop-at.at c.requires.later.sorted c.requires.within
    (omega (arith, c.loop-at-test.false))) (c.loop-at.invariant.best reached p t b)

pub returns-clause-reach : goal.returns-clause-reach
returns-clause-reach c p t b =
    let later = c.args.later.now in
    let letting = letting_of later.rest.now c.args.part.now in
    let all = all-let later c.args.part.now c.loop-at.at c.requires.later.sorted
    c.requires.within (omega (arith, c.loop-at-test.false)) in
    reach-allowed later.rest.now (let_to later letting c.loop-at.at)
    (others_of later letting.after) [] t (length c.args.table.now) (get_or c.loop-at.reach t 0)
    (λ i h a. all i h ∙ a) (c.loop-at.invariant.reached p t b)

pub returns-clause-near : goal.returns-clause-near
returns-clause-near c n h l =
    near-wider (n + c.loop-at.at * (9 * MAX_PRICE)) (n + 9 * all_prices)
    (get_or c.loop-at.tables l (pos 0))
    (omega (arith, c.requires.later.few, c.requires.later.sorted.count, c.loop-at.invariant.inside))
    (c.loop-at.invariant.near n h l)
