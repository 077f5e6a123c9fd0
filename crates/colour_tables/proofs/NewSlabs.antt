-- The sets that may make a new slab: the empty one, and those with some colour.
use Rattle.std.proofs.Common.{ℕ, ◌+◌, ◌<◌, ◌≤◌, ◌≡◌, Bool, true, false, List, [], ◌∷◌, length}
use Rattle.std.proofs.Common.{map, take, get_or, ℤ, pos, neg_ℤ, Some, None, eqb, eqb-true}
use Rattle.std.proofs.Common.{eq-eqb, int_lt}
use Rattle.std.proofs.Common.{refl, sym, ap, ◌∙◌, subst, arith, inl, inr}
use Rattle.std.proofs.lemmas.Int.{ints}
use Rattle.std.specs.Int.{int_min, int_max}
use Rattle.list_laws.specs.Sets.{holds, chosen}
use Rattle.mill_model.specs.Slab.{load}
use Rattle.mill_model.specs.Bounds.{least_new}
use Rattle.mill_model.specs.declared.order.Order.{Order}
use Rattle.list_laws.proofs.Tests.{or-cases, or-left, or-right}
use Rattle.list_laws.proofs.Different.{holds-append}
use Rattle.set_minima.specs.Packs.{IsTop, colours_in, colour_at}
use Rattle.set_minima.specs.Joins.{gain, Joins, all_places, opposite, AreOrders}
use Rattle.list_laws.proofs.Tests.{clash}
use Rattle.set_minima.proofs.Tops.{none-some, top-same, top-union}
use Rattle.set_minima.proofs.OneOrder.{few-less}
use Rattle.set_minima.proofs.Places.{colour-place}
use Rattle.set_minima.proofs.Least.{new-is}
use Rattle.set_minima.specs.Cells.{found}
use Rattle.colour_tables.specs.Leasts.{MakesSome, two_colours}
use Rattle.set_minima.proofs.CellNumbers.{found-max}
use Rattle.colour_tables.proofs.ColoursPaid.{name-held}
use Rattle.colour_tables.proofs.RowsFilled.{more}

turned-least : (a b : ℤ) → neg_ℤ (int_min a b) ≡ int_max (neg_ℤ a) (neg_ℤ b)
turned-least a b = grind (arith, ints)

module _ (rest : List Order) (prices : List ℤ) (name : ℕ → ℕ) (charge : ℕ → ℕ) (largest : ℕ) where
  pub makes-none : IsTop (MakesSome rest name largest []) (gain charge 0 rest prices) None
  makes-none = record {
    none = λ e m p. clash false p.1 refl;
    some = λ v e. none-some v e;
    most = λ v e. none-some v e;
  }

  pub makes-more : (cs : List ℕ) (t : ℕ) → t < length cs → (a b : ℤ) →
      IsTop (MakesSome rest name largest (take t cs)) (gain charge 0 rest prices)
      (found (neg_ℤ a)) →
      IsTop (Joins all_places 1 largest 0 (name (get_or cs t 0) ∷ []) 2 rest)
      (gain charge 0 rest prices) (found (neg_ℤ b)) →
      IsTop (MakesSome rest name largest (take (t + 1) cs)) (gain charge 0 rest prices)
      (found (neg_ℤ (int_min a b)))
  makes-more cs t h a b p q =
      subst (λ z. IsTop (MakesSome rest name largest (take (t + 1) cs))
      (gain charge 0 rest prices) z)
      (sym (ap found (turned-least a b) ∙ found-max (neg_ℤ a) (neg_ℤ b)))
      (top-union (MakesSome rest name largest (take t cs))
      (Joins all_places 1 largest 0 (name (get_or cs t 0) ∷ []) 2 rest)
      (MakesSome rest name largest (take (t + 1) cs)) (gain charge 0 rest prices)
      (found (neg_ℤ a)) (found (neg_ℤ b))
      (λ m e. elim (or-cases (holds e.0 (take t cs)) (holds e.0 (get_or cs t 0 ∷ []))
      (sym (holds-append e.0 (take t cs) (get_or cs t 0 ∷ []))
      ∙ subst (λ z. holds e.0 z ≡ true) (more t cs h) e.1)) [
        | inl k ↦ inl (e.0, k, e.2)
        | inr k ↦ elim (or-cases (eqb e.0 (get_or cs t 0)) false k) [
          | inl s ↦ inr (subst (λ z. Joins all_places 1 largest 0 (name z ∷ []) 2 rest m)
              (eqb-true e.0 (get_or cs t 0) s) e.2)
          | inr s ↦ absurd (clash false s refl)
        ]
      ])
      (λ m e. (
        e.0,
        subst (λ z. holds e.0 z ≡ true) (sym (more t cs h))
            (holds-append e.0 (take t cs) (get_or cs t 0 ∷ []) ∙ or-left (holds e.0 (take t cs)) _
            e.1),
        e.2,
      ))
      (λ m r. (
        get_or cs t 0,
        subst (λ z. holds (get_or cs t 0) z ≡ true) (sym (more t cs h))
            (holds-append (get_or cs t 0) (take t cs) (get_or cs t 0 ∷ [])
            ∙ or-right (holds (get_or cs t 0) (take t cs)) _
            (or-left (eqb (get_or cs t 0) (get_or cs t 0)) _
            (eq-eqb (get_or cs t 0) (get_or cs t 0) refl))),
        r,
      ))
      p q)

  pub makes-all : (cs : List ℕ) (x : ℤ) → AreOrders rest →
      ((i : ℕ) → i < length rest → holds (colour_at rest i) (map name cs) ≡ true) →
      IsTop (MakesSome rest name largest cs) (gain charge 0 rest prices) (found (neg_ℤ x)) →
      least_new (two_colours largest) charge rest prices ≡ opposite (found (neg_ℤ x))
  makes-all cs x w all p =
      new-is largest 2 charge rest prices (found (neg_ℤ x)) w
      (top-same (MakesSome rest name largest cs) (Joins all_places 1 largest 0 [] 2 rest)
      (gain charge 0 rest prices) (found (neg_ℤ x)) (λ m q. to m q) (λ m q. from m q) p)
    where
      to : (m : List Bool) → MakesSome rest name largest cs m →
          Joins all_places 1 largest 0 [] 2 rest m
      to m e = record {
        long = e.2.long;
        fine = e.2.fine;
        above = e.2.above;
        fits = e.2.fits;
        few = few-less rest [] (name e.0 ∷ []) m m 2 (λ y t. or-right (eqb y (name e.0)) _ t)
            e.2.few;
      }

      from : (m : List Bool) → Joins all_places 1 largest 0 [] 2 rest m →
          MakesSome rest name largest cs m
      from m q = go (colours_in m rest) refl
        where
          no-load : (os : List Order) → map (λ (o : Order). o.colour) os ≡ [] → load os ≡ 0
          no-load [] e = refl
          no-load (o ∷ os) e = absurd (cc)

          go : (xs : List ℕ) → colours_in m rest ≡ xs → MakesSome rest name largest cs m
          go [] e =
              let z : load (chosen m rest) ≡ 0 = no-load (chosen m rest) e in
              let a : 1 ≤ load (chosen m rest) = q.above in absurd (omega arith)
          go (y ∷ ys) e =
              let h : holds y (colours_in m rest) ≡ true =
              subst (λ z. holds y z ≡ true) (sym e) (or-left (eqb y y) (holds y ys) (eq-eqb y y
              refl))
              in
              let r = colour-place y m rest h in
              let k = name-held name y cs (subst (λ z. holds z (map name cs) ≡ true) r.3
              (all r.0 r.2)) in (
                k.0,
                k.1,
                record {
                  long = q.long;
                  fine = q.fine;
                  above = q.above;
                  fits = q.fits;
                  few = few-less rest (name k.0 ∷ []) [] m m 2
                      (λ z t. elim (or-cases (eqb z (name k.0)) _ t) [
                        | inl s ↦ subst (λ u. holds u (colours_in m rest) ≡ true)
                            (sym (eqb-true z (name k.0) s ∙ k.2)) h
                        | inr s ↦ s
                      ]) q.few;
                },
              )

-- what the number says
pub least-none : (x : ℤ) → int_lt (pos 2305843009213693952) x ≡ true →
    opposite (found (neg_ℤ x)) ≡ None
least-none x h = rw (low x h) refl
  where
    low : (x : ℤ) → int_lt (pos 2305843009213693952) x ≡ true →
        int_lt (neg_ℤ x) (neg_ℤ (pos 2305843009213693952)) ≡ true
    low x h = grind (arith, ints)

pub least-some : (x : ℤ) → int_lt (pos 2305843009213693952) x ≡ false →
    opposite (found (neg_ℤ x)) ≡ Some x
least-some x h = rw (high x h) (ap Some (twice x))
  where
    high : (x : ℤ) → int_lt (pos 2305843009213693952) x ≡ false →
        int_lt (neg_ℤ x) (neg_ℤ (pos 2305843009213693952)) ≡ false
    high x h = grind (arith, ints)

    twice : (x : ℤ) → neg_ℤ (neg_ℤ x) ≡ x
    twice x = omega (arith, ints)
