-- A slab with one more order.
use Rattle.std.proofs.Common.{ℕ, ◌+◌, ◌≤◌, ◌≡◌, IsTrue, ◌↔◌, ◌==◌, Bool, true, false, ◌||◌, List}
use Rattle.std.proofs.Common.{[], ◌∷◌, ◌++◌, map, length, eqb, leb, refl, sym, ap, ap₂, ◌∙◌, arith}
use Rattle.std.proofs.Common.{inl, inr, eq-eqb, eqb-true, ne_eqb, false-eqb, le-leb, leb-true}
use Rattle.std.specs.List.{list_any}
use Rattle.std.proofs.lemmas.List.{map-append, length-append}
use Rattle.list_laws.specs.Sets.{holds}
use Rattle.mill_model.specs.Slab.{load, colours, legal}
use Rattle.mill_model.specs.declared.order.Order.{Order}
use Rattle.list_laws.proofs.Tests.{either, and-left, and-right}
use Rattle.list_laws.proofs.Different.{holds-append, different-push, different-same}
use Rattle.mill_model.proofs.Slabs.{load-append}
use Rattle.slab_rules.specs.OpenSlab.{OpenSlab, with_colour, joined, IsWithinBounds, HasNoRepeats}
use Rattle.slab_rules.specs.OpenSlab.{IsOpenSlab, Carries}

-- a test of sameness either way round
same-turned : (a b : ℕ) → eqb a b ≡ eqb b a
same-turned a b = elim (either (eqb b a)) [
  | inl e ↦ eq-eqb a b (sym (eqb-true b a e)) ∙ sym e
  | inr e ↦ ne_eqb a b (λ q. false-eqb b a (sym e) (sym q)) ∙ sym e
]

-- what std's search of a slice answers
pub any-holds : (c : ℕ) (xs : List ℕ) → list_any (λ x. x == c) xs ≡ holds c xs
any-holds c [] = refl
any-holds c (x ∷ xs) = ap₂ (λ a b. a || b) (same-turned x c) (any-holds c xs)

-- what colours with one more hold
holds-with_colour : (x : ℕ) (cs : List ℕ) (c : ℕ) →
    holds x (with_colour cs c) ≡ holds x (cs ++ c ∷ [])
holds-with_colour x cs c = elim (either (holds c cs)) [
  | inl old ↦ rw (old, holds-append) (there x old)
  | inr new ↦ rw new
]
  where
    or-false : (b : Bool) → b ≡ (b || false)
    or-false true = refl
    or-false false = refl

    there : (x : ℕ) → holds c cs ≡ true → holds x cs ≡ (holds x cs || (eqb x c || false))
    there x old = elim (either (eqb x c)) [
      | inl e ↦ rw (e, eqb-true x c e, old)
      | inr e ↦ rw e (or-false (holds x cs))
    ]

-- they stand once if they did
pub once-with_colour : (cs : List ℕ) (c : ℕ) → HasNoRepeats cs → HasNoRepeats (with_colour cs c)
once-with_colour cs c once = elim (either (holds c cs)) [
  | inl old ↦ rw old once
  | inr new ↦ rw (new, different-push, length-append, new) (omega (arith, once))
]

-- a slab that an order joins carries one order more
pub Carries-joined : (slab : OpenSlab) (orders : List Order) (order : Order) → Carries slab orders →
    Carries (joined slab order) (orders ++ order ∷ [])
Carries-joined slab orders order carries = record {
  weight = (let more : load (orders ++ order ∷ []) ≡ load orders + (order.weight + 0) =
      load-append orders (order ∷ []) in
      omega (arith, more, carries.weight));
  each = λ c. holds-with_colour c slab.colours order.colour
      ∙ holds-append c slab.colours (order.colour ∷ [])
      ∙ ap (λ b. b || holds c (order.colour ∷ [])) (carries.each c)
      ∙ sym (holds-append c (map (λ o. o.colour) orders) (order.colour ∷ []))
      ∙ ap (holds c) (sym (map-append (λ o. o.colour) orders (order ∷ [])));
}

-- a slab keeps what it keeps where it stays within its bounds
pub IsOpenSlab-joined : (slab : OpenSlab) (order : Order) → IsOpenSlab slab →
    IsWithinBounds (joined slab order) → IsOpenSlab (joined slab order)
IsOpenSlab-joined slab order before bounds = record {
  bounds = bounds;
  once = once-with_colour slab.colours order.colour before.once;
  size_limit = before.size_limit;
  some_colour = before.some_colour;
  colour_limit = before.colour_limit;
}

-- a slab has as many colours as its orders
pub count-of : (slab : OpenSlab) (orders : List Order) → HasNoRepeats slab.colours →
    Carries slab orders → length slab.colours ≡ colours orders
count-of slab orders once carries =
    sym once ∙ different-same slab.colours (map (λ o. o.colour) orders) carries.each

-- its bounds are those of its orders
pub bounds-legal : (slab : OpenSlab) (orders : List Order) → HasNoRepeats slab.colours →
    Carries slab orders → IsWithinBounds slab ↔ (legal slab.mill orders ≡ true)
bounds-legal slab orders once carries =
    let count = count-of slab orders once carries in (
      λ bounds.
          let light : leb (load orders) slab.mill.largest ≡ true =
          le-leb _ _ (omega (arith, carries.weight, bounds.light)) in
          let few : leb (colours orders) slab.mill.most_colours ≡ true =
          le-leb _ _ (omega (arith, count, bounds.few)) in
          rw (light, few),
      λ yes.
          let light : load orders ≤ slab.mill.largest =
          leb-true _ _ (and-left (leb (load orders) slab.mill.largest) _ yes) in
          let few : colours orders ≤ slab.mill.most_colours =
          leb-true _ _ (and-right (leb (load orders) slab.mill.largest) _ yes) in
          record {
            light = omega (arith, carries.weight, light);
            few = omega (arith, count, few);
          },
    )

-- what a test of the bounds says of the orders
pub fits-legal : (answer : Bool) (slab : OpenSlab) (order : Order) → IsOpenSlab slab →
    IsTrue answer ↔ IsWithinBounds (joined slab order) → (orders : List Order) →
    Carries slab orders → IsTrue answer ↔ (legal slab.mill (orders ++ order ∷ []) ≡ true)
fits-legal answer slab order before test orders carries =
    let law = bounds-legal (joined slab order) (orders ++ order ∷ [])
    (once-with_colour slab.colours order.colour before.once)
    (Carries-joined slab orders order carries) in
    (λ fits. law.0 (test.0 fits), λ legal. test.1 (law.1 legal))
