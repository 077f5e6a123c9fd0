-- A colour that the part asks for is let in now; with another the orders let in stay the same.
use Rattle.std.proofs.Common.{◌≡◌, [], Bool, true, false, ◌&&◌, ◌||◌, not, cond, length, sym, ◌+◌}
use Rattle.std.proofs.Common.{◌*◌}
use Rattle.std.proofs.Common.{refl, inl, inr, arith, ◌∙◌, ℕ, List, map, ◌⊎◌, ◌<◌, ◌-◌, get_or, pos}
use Rattle.list_laws.specs.Sets.{holds}
use Rattle.mill_model.specs.declared.prices.TheConstants.{MAX_PRICE}
use Rattle.list_laws.proofs.Tests.{and-left, and-right}
use Rattle.mill_model.specs.declared.order.Order.{Order}
use Rattle.set_minima.specs.Packs.{nobody}
use Rattle.set_minima.specs.Cells.{cell}
use Rattle.least_slacks.specs.Items.{item_at, AreItems, IsStretch}
use Rattle.least_slacks.specs.Later.{let_to, IsRunOf}
use Rattle.least_slacks.specs.Parts.{letting_of, out_of}
use Rattle.least_slacks.specs.declared.later_orders.LaterOrders.{LaterOrders}
use Rattle.least_slacks.specs.declared.parts.Part.{Part}
use Rattle.set_minima.proofs.ReachMore.{reach-allowed}
use Rattle.set_minima.proofs.CellNumbers.{near-wider}
use Rattle.least_slacks.proofs.ColoursCounted.{value-held}
use Rattle.set_minima.proofs.WholeTables.{table-allowed}
use Rattle.least_slacks.proofs.ItemsLetIn.{run-out, run-in, run-new}
use Rattle.least_slacks.proofs.colour_layers.add_next.Goals as goal

-- a colour is let in where it was left out and no longer is
was-out : (first whole all : Bool) → all ≡ true → (first || whole) ≡ true →
    cond first all whole ≡ true
was-out true whole all a h = a
was-out false whole all a h = h

not-true : (b : Bool) → not b ≡ true → b ≡ false
not-true true h = sym h
not-true false h = refl

neither : (first whole all part : Bool) → (first || whole) && not part ≡ false →
    (part ≡ true) ⊎ (cond first all whole ≡ false)
neither first whole all true h = inl refl
neither false false all false h = inr refl
neither false true all false h = inr h
neither true whole all false h = inl (sym h)

-- the test of a list that goes by cases
held-by-cases : (first : Bool) (c : ℕ) (all whole : List ℕ) →
    holds c (cond first all whole) ≡ cond first (holds c all) (holds c whole)
held-by-cases true c all whole = refl
held-by-cases false c all whole = refl

-- the run of a colour that is let in
new-run : (later : LaterOrders) (part : Part) (at end : ℕ) → AreItems later.rest.now
    later.items.now → IsStretch later.items.now at end →
    ((part.first || holds (item_at later.items.now at).colour (out_of part.most part.whole.now))
    && not (holds (item_at later.items.now at).colour (out_of part.most part.keys.now)))
    ≡ true →
    IsRunOf later (letting_of later.rest.now part) at end (item_at later.items.now at).colour
new-run later part at end sorted stretch lets =
    let rest = later.rest.now in
    let items = later.items.now in
    let its = (item_at items at).colour in
    let place = (item_at items at).place in
    let here : at < length items = omega (arith, stretch.some, stretch.ends) in
    let coloured = sorted.coloured at here in
    let all : holds its (map (λ (order : Order). order.colour) rest) ≡ true =
    rw coloured (value-held (λ (order : Order). order.colour) rest place nobody
    (sorted.inside at here)) in
    let was : holds its (letting_of rest part).before ≡ true =
    held-by-cases part.first its (map (λ (order : Order). order.colour) rest)
    (out_of part.most part.whole.now)
    ∙ was-out part.first (holds its (out_of part.most part.whole.now))
    (holds its (map (λ (order : Order). order.colour) rest)) all (and-left _ _ lets) in
    let still : holds its (letting_of rest part).after ≡ false =
    not-true (holds its (out_of part.most part.keys.now)) (and-right _ _ lets) in
    run-new rest items sorted (letting_of rest part) at end stretch was still

-- with a run of a colour that isn't, the same orders are let in
same-let : (later : LaterOrders) (part : Part) (at end : ℕ) → AreItems later.rest.now
    later.items.now → IsStretch later.items.now at end →
    ((part.first || holds (item_at later.items.now at).colour (out_of part.most part.whole.now))
    && not (holds (item_at later.items.now at).colour (out_of part.most part.keys.now)))
    ≡ false → (i : ℕ) → i < length later.rest.now →
    let_to later (letting_of later.rest.now part) at i
    ≡ let_to later (letting_of later.rest.now part) end i
same-let later part at end sorted stretch lets =
    let rest = later.rest.now in
    let items = later.items.now in
    let its = (item_at items at).colour in
    elim (neither part.first (holds its (out_of part.most part.whole.now))
    (holds its (map (λ (order : Order). order.colour) rest))
    (holds its (out_of part.most part.keys.now)) lets) [
      | inl o ↦ run-out rest items sorted (letting_of rest part) at end stretch o
      | inr o ↦ run-in rest items sorted (letting_of rest part) at end stretch
          (held-by-cases part.first its (map (λ (order : Order). order.colour) rest)
          (out_of part.most part.whole.now) ∙ o)
    ]

pub returns-then-lets_in-clause-best : goal.returns-then-lets_in-clause-best
returns-then-lets_in-clause-best c =
    c.add_colour.ensures.best (letting_of c.args.later.now.rest.now c.args.part.now)
    (item_at c.args.later.now.items.now c.args.run.0).colour
    (new-run c.args.later.now c.args.part.now c.args.run.0 c.args.run.1 c.requires.later.sorted
    c.requires.stretch (sym c.lets_in.ensures ∙ c.if-lets_in.true))

pub returns-then-lets_in-clause-reach : goal.returns-then-lets_in-clause-reach
returns-then-lets_in-clause-reach c =
    c.add_colour.ensures.reach (letting_of c.args.later.now.rest.now c.args.part.now)
    (item_at c.args.later.now.items.now c.args.run.0).colour
    (new-run c.args.later.now c.args.part.now c.args.run.0 c.args.run.1 c.requires.later.sorted
    c.requires.stretch (sym c.lets_in.ensures ∙ c.if-lets_in.true))

pub returns-clause-best : goal.returns-clause-best
returns-clause-best c reached p t b =
    let later = c.args.later.now in
    let part = c.args.part.now in
    table-allowed later.rest.now later.prices.now
    (let_to later (letting_of later.rest.now part) c.args.run.0)
    (let_to later (letting_of later.rest.now part) c.args.run.1) [] t
    (length c.args.table.now) (λ l. cell c.args.tables.now (t * length c.args.table.now + l))
    (same-let later part c.args.run.0 c.args.run.1 c.requires.later.sorted c.requires.stretch
    (sym c.lets_in.ensures ∙ c.if-lets_in.false)) (p t b)

pub returns-clause-reach : goal.returns-clause-reach
returns-clause-reach c reached t b =
    let later = c.args.later.now in
    let part = c.args.part.now in
    let same = same-let later part c.args.run.0 c.args.run.1 c.requires.later.sorted
    c.requires.stretch (sym c.lets_in.ensures ∙ c.if-lets_in.false) in
    reach-allowed later.rest.now (let_to later (letting_of later.rest.now part) c.args.run.0)
    (let_to later (letting_of later.rest.now part) c.args.run.1) [] t (length c.args.table.now)
    (get_or c.args.reach t 0) (λ i h a. same i h ∙ a) (reached t b)

pub returns-clause-near : goal.returns-clause-near
returns-clause-near c n h l =
    near-wider n (n + (c.args.run.1 - c.args.run.0) * (9 * MAX_PRICE))
    (get_or c.args.tables.now l (pos 0)) (omega arith) (h l)
