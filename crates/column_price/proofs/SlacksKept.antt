-- The groups' least slacks are kept through a sweep. The price of order i is set anew. Where no set
-- with order i had a slack as low as the group's least one, that is the least over the sets without
-- order i. Under the new price, the least slack of each group is that over the sets without it.
use Rattle.std.proofs.Common.{ℕ, ◌<◌, ◌≡◌, true, false, Bool, List, [], ◌∷◌, length, set, ℤ, pos}
use Rattle.std.proofs.Common.{◌+ℤ◌, ◌-ℤ◌, ◌≤ℤ◌, ◌<ℤ◌, int_le, Option, Some, refl, arith, inl, inr}
use Rattle.std.proofs.lemmas.Int.{ints}
use Rattle.list_laws.proofs.Among.{Among}
use Rattle.list_laws.proofs.Tests.{either}
use Rattle.mill_model.specs.Slab.{Mill, legal}
use Rattle.mill_model.specs.Plan.{slab}
use Rattle.mill_model.specs.Prices.{slack, legal_sets, least_slack}
use Rattle.mill_model.specs.Tree.{later_orders, next_new}
use Rattle.mill_model.specs.Bounds.{in_set, slacks, least_of, least_on_with, least_on_without}
use Rattle.mill_model.specs.Bounds.{or_zero, swept_price}
use Rattle.mill_model.specs.declared.order.Order.{Order}
use Rattle.mill_laws.proofs.Slacks.{among-slacks}
use Rattle.mill_laws.proofs.Sweep.{new-second, z-least, z-without}

pub some-least : (x : ℤ) (xs : List ℤ) → Among x xs → least_of xs ≡ Some (or_zero (least_of xs))
some-least x [] a = absurd a
some-least x (y ∷ xs) a = refl

pub same : (x y : ℤ) → x ≤ℤ y → y ≤ℤ x → x ≡ y
same x y h k = omega (arith, ints)

module _ (mill : Mill) (charge : ℕ → ℕ) (ranked : List Order) (path : List ℕ)
    (fits : (s : ℕ) → legal mill (slab s path ranked) ≡ true) (i : ℕ) (ys : List ℤ)
    (long : i < length ys) where
  abbrev base : List ℤ
  base = set ys i (pos 0)

  abbrev group : ℕ → List Order
  group g = slab g path ranked

  -- the least slack of a group at a price u of order i, and over the sets without order i
  abbrev z : ℕ → ℤ → ℤ
  z g u = least_slack mill charge (group g) (later_orders ranked path) (set ys i u)

  abbrev without : ℕ → ℤ
  without g = or_zero (least_on_without mill charge (group g) (later_orders ranked path) base i)

  abbrev held : ℕ → Option ℤ
  held g = least_on_with mill charge (group g) (later_orders ranked path) base i

  held-some : (g : ℕ) (marks : List Bool) →
      Among marks (legal_sets mill (group g) (later_orders ranked path)) →
      in_set i marks ≡ true → held g ≡ Some (or_zero (held g))
  held-some g marks l t =
      some-least (slack charge (group g) (later_orders ranked path) base marks)
      (slacks mill charge (group g) (later_orders ranked path) base (in_set i))
      (among-slacks mill charge (group g) (later_orders ranked path) base (in_set i) marks l t)

  pub stays-without : (g : ℕ) (u low : ℤ) → low ≡ z g u →
      ((x : ℤ) → held g ≡ Some x → low <ℤ (x -ℤ u)) → low ≡ without g
  stays-without g u low e above =
      same low (without g)
      (omega (arith, ints, z-without mill charge ranked path fits i ys long g u))
      (elim (either (int_le (without g) low)) [
        | inl t ↦ from-test (without g) low t
        | inr f ↦ (let higher : low <ℤ without g = not-test (without g) low f in
            let more = z-least mill charge ranked path fits i ys long g u (low +ℤ pos 1)
            (omega (arith, ints)) (λ marks l t. omega (
              arith,
              ints,
              above (or_zero (held g)) (held-some g marks l t),
            )) in
            absurd (omega (arith, ints, more)))
      ])
    where
      from-test : (x y : ℤ) → int_le x y ≡ true → x ≤ℤ y
      from-test x y h = grind (arith, ints)

      not-test : (x y : ℤ) → int_le x y ≡ false → y <ℤ x
      not-test x y h = grind (arith, ints)

  -- the new price is at most each joining cost
  pub becomes-without : (g : ℕ) → g < next_new path →
      z g (swept_price mill charge ranked path base i) ≡ without g
  becomes-without g b =
      let new = swept_price mill charge ranked path base i in
      same (z g new) (without g) (z-without mill charge ranked path fits i ys long g new)
      (z-least mill charge ranked path fits i ys long g new (without g) (omega (arith, ints))
      (λ marks l t. omega (
        arith,
        ints,
        new-second mill charge ranked path fits i ys long g marks b l t,
      )))
