-- How many colours items have. An item that has the colour of the one before it adds none, so there
-- are no more colours than runs; and the orders have no colour that their items lack.
use Rattle.std.proofs.Common.{ℕ, zero, suc, ◌+◌, ◌-◌, ◌<◌, ◌≤◌, ◌≡◌, true, List, [], ◌∷◌}
use Rattle.std.proofs.Common.{◌++◌, map, take, length, get_or, eqb, eqb-true, eq-eqb, refl, sym, ap}
use Rattle.std.proofs.Common.{◌∙◌, subst, arith, inl, inr}
use Rattle.std.proofs.lemmas.List.{take_more, map-append, get_or-take, length-take}
use Rattle.list_laws.specs.Sets.{holds, different}
use Rattle.list_laws.proofs.Tests.{either, or-cases, or-left, or-right}
use Rattle.list_laws.proofs.Different.{different-mono, different-push}
use Rattle.mill_model.specs.declared.order.Order.{Order}
use Rattle.set_minima.specs.Packs.{nobody, colour_at}
use Rattle.least_slacks.specs.Items.{no_item, item_at, AreItems}
use Rattle.least_slacks.specs.declared.later_orders.Item.{Item}

-- a value that some things have stands at one of them
value-at : {X : Type 0} (f : X → ℕ) (x : ℕ) (xs : List X) (d : X) → holds x (map f xs) ≡ true →
    (t : ℕ) × (t < length xs) × (x ≡ f (get_or xs t d))
value-at f x [] d h = absurd (grind arith)
value-at f x (y ∷ ys) d h = elim (or-cases (eqb x (f y)) (holds x (map f ys)) h) [
  | inl e ↦ (0, omega arith, eqb-true x (f y) e)
  | inr e ↦ (let r = value-at f x ys d e in (suc r.0, omega (arith, r.1), r.2))
]

-- and what stands at one of them is a value that they have
pub value-held : {X : Type 0} (f : X → ℕ) (xs : List X) (t : ℕ) (d : X) → t < length xs →
    holds (f (get_or xs t d)) (map f xs) ≡ true
value-held f [] t d h = absurd (omega arith)
value-held f (x ∷ xs) zero d h = or-left (eqb (f x) (f x)) _ (eq-eqb (f x) (f x) refl)
value-held f (x ∷ xs) (suc t) d h =
    or-right (eqb (f (get_or xs t d)) (f x)) _ (value-held f xs t d (omega arith))

-- the colours of the first t items
abbrev pub colours_to : List Item → ℕ → List ℕ
colours_to items t = map (λ item. item.colour) (take t items)

colours-on : (items : List Item) (t : ℕ) → t < length items →
    colours_to items (t + 1) ≡ colours_to items t ++ (item_at items t).colour ∷ []
colours-on items t h =
    ap (map (λ (item : Item). item.colour)) (take_more items t no_item h)
    ∙ map-append (λ (item : Item). item.colour) (take t items) (item_at items t ∷ [])

-- one item more adds at most one colour
pub colours-more : (items : List Item) (t : ℕ) → t < length items →
    different (colours_to items (t + 1)) ≤ suc (different (colours_to items t))
colours-more items t h =
    let c = (item_at items t).colour in
    let colours = colours_to items t in
    rw (colours-on items t h, different-push c colours)
    (elim (either (holds c colours)) [ inl k ↦ rw k (omega arith) | inr k ↦ rw k (omega arith) ])

-- and none where it has the colour of the item before
pub colours-same : (items : List Item) (t : ℕ) → t < length items → 0 < t →
    (item_at items t).colour ≡ (item_at items (t - 1)).colour →
    different (colours_to items (t + 1)) ≡ different (colours_to items t)
colours-same items t h p same =
    let c = (item_at items t).colour in
    let colours = colours_to items t in
    let long = length-take t items in
    let before = value-held (λ (item : Item). item.colour) (take t items) (t - 1) no_item
    (omega (arith, long)) in
    let here : holds c colours ≡ true =
    rw (get_or-take t items (t - 1) no_item (omega arith), ← same) at before in
    rw (colours-on items t h, different-push c colours, here) refl

-- the orders have no colour that their items lack
pub colours-of-orders : (rest : List Order) (items : List Item) → AreItems rest items →
    different (map (λ order. order.colour) rest) ≤ different (map (λ item. item.colour) items)
colours-of-orders rest items it =
    different-mono (map (λ (order : Order). order.colour) rest)
    (map (λ (item : Item). item.colour) items) (λ x h.
    let at = value-at (λ (order : Order). order.colour) x rest nobody h in
    let its = it.all at.0 at.1 in
    let same : (item_at items its.0).colour ≡ x =
    it.coloured its.0 its.1 ∙ ap (colour_at rest) its.2 ∙ sym at.2 in
    subst (λ y. holds y (map (λ (item : Item). item.colour) items) ≡ true) same
    (value-held (λ (item : Item). item.colour) items its.0 no_item its.1))
