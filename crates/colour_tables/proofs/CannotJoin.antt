-- Where the order in its turn may not join a slab, no set of the slab holds it.
use Rattle.std.proofs.Common.{ℕ, ◌+◌, ◌<◌, ◌≤◌, ◌≡◌, Bool, true, false, List, map}
use Rattle.std.proofs.Common.{length}
use Rattle.std.proofs.Common.{get_or, set, eqb, eqb-true, eq-eqb, ne_eqb, leb, ltb, leb-true, ℤ}
use Rattle.std.proofs.Common.{None, []}
use Rattle.std.proofs.Common.{length-set, refl, sym, ◌∙◌, subst, arith, inl, inr}
use Rattle.list_laws.specs.Sets.{holds, different}
use Rattle.mill_model.specs.Bounds.{least_new_with, least_on_with}
use Rattle.mill_model.specs.declared.order.Order.{Order}
use Rattle.list_laws.proofs.Tests.{either, clash}
use Rattle.set_minima.specs.Packs.{colour_at, nobody}
use Rattle.set_minima.specs.Joins.{IsSlab}
use Rattle.set_minima.proofs.Holding.{with-none}
use Rattle.set_minima.proofs.Least.{new-slab}
use Rattle.colour_tables.specs.Leasts.{two_colours}
use Rattle.colour_tables.specs.Threes.{once}
use Rattle.colour_tables.specs.Owned.{IsHeld, IsOwn, MayTake}
use Rattle.colour_tables.specs.declared.slab.Own.{Own}
use Rattle.colour_tables.specs.declared.slab.Own.TheVariants.{Bare, Free, One, Two, Full}
use Rattle.colour_tables.proofs.AllowedByTables.{third-colour}
use Rattle.colour_tables.proofs.ColoursPaid.{but-less, same-name}

module _ (rest : List Order) (name : ℕ → ℕ) (present : List ℕ)
    (names : once (map name present) ≡ true) (c j : ℕ) (here : j < length rest)
    (colour : colour_at rest j ≡ name c) (known : holds c present ≡ true) where
  differs : (d : ℕ) → holds d present ≡ true → (d ≡ c → ⊥) → name c ≡ name d → ⊥
  differs d h refused e = refused (sym (same-name name c d present names known h e))

  -- the slab doesn't have the order's colour, and no room for another
  lacks : (own : List ℕ) (kind : Own) → IsHeld present kind → IsOwn rest name own kind →
      (MayTake c kind → ⊥) → (holds (colour_at rest j) own ≡ false) × (different own ≡ 2)
  lacks own Bare h is refused = absurd (refused tt)
  lacks own (Free d) h is refused = absurd (refused tt)
  lacks own (One d) h is refused = (go (holds (colour_at rest j) own) refl, is.0)
    where
      go : (b : Bool) → holds (colour_at rest j) own ≡ b → holds (colour_at rest j) own ≡ false
      go false e = e
      go true e =
          absurd (differs d h refused
          (sym colour ∙ eqb-true (colour_at rest j) (name d) (is.2 j here e)))
  lacks own (Two d e) h is refused = (go (holds (colour_at rest j) own) refl, is.0)
    where
      go : (b : Bool) → holds (colour_at rest j) own ≡ b → holds (colour_at rest j) own ≡ false
      go false q = q
      go true q =
          let k = but-less d e present h.1 in
          let x : name c ≡ name d → ⊥ = differs d h.0 (λ p. refused (inl p)) in
          let y : name c ≡ name e → ⊥ = differs e k.1 (λ p. refused (inr p)) in
          let z : name d ≡ name e → ⊥ =
          (λ p. clash (eqb e d) (eq-eqb e d (sym (same-name name d e present names h.0 k.1 p))) k.0)
          in
          absurd (third-colour (name c) (name d) (name e) own is.0 (ne_eqb (name c) (name d) x)
          (ne_eqb (name c) (name e) y) z
          (subst (λ v. holds v own ≡ true) colour q) is.1 is.2)
  lacks own Full h is refused = (is.1 j here, is.0)

  pub cannot-join : (charge : ℕ → ℕ) (largest base : ℕ) (prices : List ℤ) (own : List ℕ)
      (kind : Own) (v : ℤ) → length prices ≡ length rest → length own ≡ different own →
      IsHeld present kind → IsOwn rest name own kind →
      (base + (get_or rest j nobody).weight ≤ largest → MayTake c kind → ⊥) →
      (group : List Order) → IsSlab group base own →
      least_on_with (two_colours largest) charge group rest (set prices j v) j ≡ None
  cannot-join charge largest base prices own kind v same apart h is refused group of =
      with-none largest 2 charge rest (set prices j v) group base own of j here
      (length-set prices j v ∙ same) apart
      (elim (either (leb (base + (get_or rest j nobody).weight) largest)) [
        | inr heavy ↦ rw heavy refl
        | inl light ↦ (let l = lacks own kind h is
            (refused (leb-true (base + (get_or rest j nobody).weight) largest light)) in
            rw (light, l.0) (full (length own) (apart ∙ l.1)))
      ])
    where
      full : (n : ℕ) → n ≡ 2 → ltb n 2 ≡ false
      full n e = rw e refl

-- an order that is too heavy is on no new slab
pub cannot-fit : (charge : ℕ → ℕ) (largest : ℕ) (rest : List Order) (prices : List ℤ) (j : ℕ)
    (v : ℤ) → j < length rest → length prices ≡ length rest →
    largest < (get_or rest j nobody).weight →
    least_new_with (two_colours largest) charge rest (set prices j v) j ≡ None
cannot-fit charge largest rest prices j v here same heavy =
    with-none largest 2 charge rest (set prices j v) [] 0 [] (new-slab largest 2 charge rest prices)
    j here (length-set prices j v ∙ same) refl
    (elim (either (leb (0 + (get_or rest j nobody).weight) largest)) [
      | inr refused ↦ rw refused refl
      | inl light ↦ absurd (let l = leb-true (0 + (get_or rest j nobody).weight) largest light in
          omega (arith, l, heavy))
    ])
