-- Which orders the tables allow, once the run of a colour is let in.
use Rattle.std.proofs.Common.{ℕ, ◌<◌, ◌≤◌, ◌≡◌, ◌≢◌, Bool, true, false, not, ◌&&◌, ◌||◌, List, []}
use Rattle.std.proofs.Common.{◌∷◌, map, length, Option, Some}
use Rattle.std.proofs.Common.{None, IfSome, eqb, eqb-true, eq-eqb, ne_eqb}
use Rattle.std.proofs.Common.{refl, sym, ap, ◌∙◌, subst, arith, inl, inr}
use Rattle.list_laws.specs.Sets.{holds, different}
use Rattle.mill_model.specs.declared.order.Order.{Order}
use Rattle.list_laws.proofs.Tests.{equal-tests}
use Rattle.list_laws.proofs.Tests.{either, or-cases, or-left, or-right}
use Rattle.list_laws.proofs.Different.{different-mono}
use Rattle.list_laws.proofs.Tests.{and-left, and-right}
use Rattle.set_minima.specs.Packs.{colour_at}
use Rattle.set_minima.specs.Joins.{all_but}
use Rattle.list_laws.proofs.Tests.{clash}
use Rattle.colour_tables.specs.Threes.{once, but}
use Rattle.colour_tables.specs.Colours.{of_colour, of_colours, but_order, but_for}
use Rattle.colour_tables.specs.Colours.{of_colour_but, IsUnion}
use Rattle.colour_tables.specs.Rowed.{apart_from}
use Rattle.colour_tables.proofs.ColoursPaid.{but-less, but-more, but-other, but-rest, but-once}
use Rattle.colour_tables.proofs.ColoursPaid.{same-name}

not-of : (b : Bool) → b ≡ false → not b ≡ true
not-of true h = absurd (clash true refl h)
not-of false h = refl

-- a list with two different numbers has no third
pub third-colour : (x d c : ℕ) (own : List ℕ) → different own ≡ 2 → eqb x d ≡ false →
    eqb x c ≡ false → d ≢ c → holds x own ≡ true → holds d own ≡ true →
    holds c own ≡ true → ⊥
third-colour x d c own n q r a hx hd hc =
    let m : different (x ∷ d ∷ c ∷ []) ≤ different own =
    different-mono (x ∷ d ∷ c ∷ []) own (λ y g. elim (or-cases (eqb y x) _ g) [
      | inl e ↦ subst (λ z. holds z own ≡ true) (sym (eqb-true y x e)) hx
      | inr g ↦ elim (or-cases (eqb y d) _ g) [
        | inl e ↦ subst (λ z. holds z own ≡ true) (sym (eqb-true y d e)) hd
        | inr g ↦ elim (or-cases (eqb y c) false g) [
          | inl e ↦ subst (λ z. holds z own ≡ true) (sym (eqb-true y c e)) hc
          | inr f ↦ absurd (clash false f refl)
        ]
      ]
    ]) in
    let p : eqb d c ≡ false = ne_eqb d c a in
    let t : different (x ∷ d ∷ c ∷ []) ≡ 3 = rw (q, r, p) refl in
    absurd (omega arith)

and-of : (a b : Bool) → a ≡ true → b ≡ true → (a && b) ≡ true
and-of true b h k = k
and-of false b h k = h

module _ (rest : List Order) (name : ℕ → ℕ) (cs : List ℕ) (o : once (map name cs) ≡ true)
    (all : (i : ℕ) → i < length rest → holds (colour_at rest i) (map name cs) ≡ true)
    (c : ℕ) (held : holds c cs ≡ true) where
  -- an order of another colour is not the one to skip
  other-place : (skip : Option ℕ) → IfSome skip (λ j. colour_at rest j ≡ name c) → (i : ℕ) →
      eqb (colour_at rest i) (name c) ≡ false → but_for skip i ≡ true
  other-place None at i n = refl
  other-place (Some j) at i n =
      not-of (eqb i j) (ne_eqb i j (λ q. clash (eqb (colour_at rest i) (name c))
      (eq-eqb (colour_at rest i) (name c) (ap (colour_at rest) q ∙ at)) n))

  pub not-c : (i : ℕ) → of_colours rest (map name (but c cs)) i ≡ true →
      eqb (colour_at rest i) (name c) ≡ false
  not-c i h = (but-other name (colour_at rest i) c cs o held h).0

  -- the others, and c but for one order
  pub beside-all : (skip : Option ℕ) → IfSome skip (λ j. colour_at rest j ≡ name c) → (i : ℕ) →
      i < length rest →
      (of_colours rest (map name (but c cs)) i || of_colour_but rest (name c) skip i)
      ≡ but_for skip i
  beside-all skip at i b =
      equal-tests (of_colours rest (map name (but c cs)) i || of_colour_but rest (name c) skip i)
      (but_for skip i)
      (λ h. elim (or-cases (of_colours rest (map name (but c cs)) i)
      (of_colour_but rest (name c) skip i) h) [
        | inl a ↦ other-place skip at i (not-c i a)
        | inr a ↦ and-right (eqb (colour_at rest i) (name c)) (but_for skip i) a
      ])
      (λ h. elim (either (eqb (colour_at rest i) (name c))) [
        | inl e ↦ or-right (of_colours rest (map name (but c cs)) i) _ (and-of _ _ e h)
        | inr e ↦ or-left (of_colours rest (map name (but c cs)) i) _
            (but-rest name (colour_at rest i) c cs e (all i b))
      ])

  -- the same as a union
  pub bare-union : (j : ℕ) → colour_at rest j ≡ name c →
      IsUnion rest (of_colours rest (map name (but c cs))) (but_order rest (name c) j)
      (all_but j) (name c)
  bare-union j at = record {
    new = λ i b a. not-c i a;
    one = λ i b a. and-left (eqb (colour_at rest i) (name c)) (not (eqb i j)) a;
    kept = λ i b a. sym (beside-all (Some j) at i b)
        ∙ or-left (of_colours rest (map name (but c cs)) i) _ a;
    more = λ i b a. sym (beside-all (Some j) at i b)
        ∙ or-right (of_colours rest (map name (but c cs)) i) _ a;
    only = λ i b a.
        or-cases (of_colours rest (map name (but c cs)) i) (but_order rest (name c) j i)
        (beside-all (Some j) at i b ∙ a);
  }

  module _ (d : ℕ) (other : holds d (but c cs) ≡ true) where
    pub apart : name d ≢ name c
    apart q =
        let r = but-less c d cs other in
        clash (eqb d c) (eq-eqb d c (same-name name d c cs o r.1 held q)) r.0

    abbrev pub two : ℕ → Bool
    two = of_colours rest (map name (but d (but c cs)))

    not-d : (i : ℕ) → of_colours rest (map name (but d (but c cs))) i ≡ true →
        (eqb (colour_at rest i) (name d) ≡ false)
        × (of_colours rest (map name (but c cs)) i ≡ true)
    not-d i h =
        but-other name (colour_at rest i) d (but c cs) (but-once name c cs o) other h

    -- the others, and c as in a table
    pub two-union : (j : ℕ) →
        IsUnion rest (of_colours rest (map name (but d (but c cs)))) (but_order rest (name c) j)
        (apart_from rest (map name (but d (but c cs))) (name c) j) (name c)
    two-union j = record {
      new = λ i b a. not-c i (not-d i a).1;
      one = λ i b a. and-left (eqb (colour_at rest i) (name c)) (not (eqb i j)) a;
      kept = λ i b a. or-left (of_colours rest (map name (but d (but c cs))) i) _ a;
      more = λ i b a. or-right (of_colours rest (map name (but d (but c cs))) i) _ a;
      only = λ i b a.
          or-cases (of_colours rest (map name (but d (but c cs))) i)
          (but_order rest (name c) j i) a;
    }

    -- none of them has the colour d
    pub two-without : (j i : ℕ) → i < length rest →
        apart_from rest (map name (but d (but c cs))) (name c) j i ≡ true →
        eqb (colour_at rest i) (name d) ≡ false
    two-without j i b h =
        elim (or-cases (of_colours rest (map name (but d (but c cs))) i)
        (but_order rest (name c) j i) h) [
          | inl a ↦ (not-d i a).0
          | inr a ↦ ne_eqb (colour_at rest i) (name d) (λ q. apart (sym q ∙ eqb-true
              (colour_at rest i) (name c)
              (and-left (eqb (colour_at rest i) (name c)) (not (eqb i j)) a)))
        ]

    pub two-all : (j : ℕ) → colour_at rest j ≡ name c → (i : ℕ) → i < length rest →
        (apart_from rest (map name (but d (but c cs))) (name c) j i
        || of_colour_but rest (name d) None i) ≡ all_but j i
    two-all j at i b =
        equal-tests (apart_from rest (map name (but d (but c cs))) (name c) j i
        || of_colour_but rest (name d) None i) (all_but j i)
        (λ h. elim (or-cases (apart_from rest (map name (but d (but c cs))) (name c) j i)
        (of_colour_but rest (name d) None i) h) [
          | inl a ↦ elim (or-cases (of_colours rest (map name (but d (but c cs))) i)
              (but_order rest (name c) j i) a) [
                | inl e ↦ other-place (Some j) at i (not-c i (not-d i e).1)
                | inr e ↦ and-right (eqb (colour_at rest i) (name c)) (not (eqb i j)) e
              ]
          | inr a ↦ other-place (Some j) at i
              (ne_eqb (colour_at rest i) (name c) (λ q. apart (sym (eqb-true (colour_at rest i)
              (name d) (and-left (eqb (colour_at rest i) (name d)) true a)) ∙ q)))
        ])
        (λ h. elim (either (eqb (colour_at rest i) (name c))) [
          | inl e ↦ or-left (apart_from rest (map name (but d (but c cs))) (name c) j i) _
              (or-right (of_colours rest (map name (but d (but c cs))) i) _ (and-of _ _ e h))
          | inr e ↦ elim (either (eqb (colour_at rest i) (name d))) [
            | inl g ↦ or-right (apart_from rest (map name (but d (but c cs))) (name c) j i) _
                (and-of _ _ g refl)
            | inr g ↦ or-left (apart_from rest (map name (but d (but c cs))) (name c) j i) _
                (or-left (of_colours rest (map name (but d (but c cs))) i) _
                (but-rest name (colour_at rest i) d (but c cs) g
                (but-rest name (colour_at rest i) c cs e (all i b))))
          ]
        ])

    -- the orders of c but for one, and of d
    pub pair-more : (skip : Option ℕ) → IfSome skip (λ j. colour_at rest j ≡ name c) → (i : ℕ) →
        (of_colour rest (name d) i || of_colour_but rest (name c) skip i) ≡ true →
        but_for skip i ≡ true
    pair-more skip at i h =
        elim (or-cases (of_colour rest (name d) i) (of_colour_but rest (name c) skip i) h) [
          | inl a ↦ other-place skip at i
              (ne_eqb (colour_at rest i) (name c) (λ q. apart (sym (eqb-true (colour_at rest i)
              (name d) a) ∙ q)))
          | inr a ↦ and-right (eqb (colour_at rest i) (name c)) (but_for skip i) a
        ]

    pub pair-less : (own : List ℕ) → different own ≡ 2 → holds (name c) own ≡ true →
        holds (name d) own ≡ true → (skip : Option ℕ) (i : ℕ) → but_for skip i ≡ true →
        holds (colour_at rest i) own ≡ true →
        (of_colour rest (name d) i || of_colour_but rest (name c) skip i) ≡ true
    pair-less own n h k skip i a e =
        elim (either (eqb (colour_at rest i) (name d))) [
          | inl q ↦ or-left (of_colour rest (name d) i) _ q
          | inr q ↦ elim (either (eqb (colour_at rest i) (name c))) [
            | inl r ↦ or-right (of_colour rest (name d) i) _ (and-of _ _ r a)
            | inr r ↦ absurd (third-colour (colour_at rest i) (name d) (name c) own n q r apart e k
                h)
          ]
        ]

-- a row alone
pub row-own : (rest : List Order) (x : ℕ) (own : List ℕ) → holds x own ≡ true → (i : ℕ) →
    of_colour rest x i ≡ true → holds (colour_at rest i) own ≡ true
row-own rest x own h i a =
    subst (λ z. holds z own ≡ true) (sym (eqb-true (colour_at rest i) x a)) h

pub row-other : (rest : List Order) (x y : ℕ) → x ≢ y → (i : ℕ) → of_colour rest x i ≡ true →
    eqb (colour_at rest i) y ≡ false
row-other rest x y n i a =
    ne_eqb (colour_at rest i) y (λ q. n (sym (eqb-true (colour_at rest i) x a) ∙ q))

pub row-without : (d c : ℕ) (cs : List ℕ) → holds c (but d cs) ≡ true → holds d cs ≡ true →
    holds d (but c cs) ≡ true
row-without d c cs h k =
    let r = but-less d c cs h in
    but-more c d cs (ne_eqb d c (λ q. clash (eqb c d) (eq-eqb c d (sym q)) r.0)) k
