-- What equal live keys say of the groups of two paths: each live group of one has a mate among the
-- live groups of the other, no two have the same mate, and a mate looks the same to the later
-- orders: its load, its number of colours, and which of their colours it has. A group that a later
-- order joins is live.
use Rattle.std.proofs.Common.{ℕ, ◌≤◌, ◌≡◌, eqb, Bool, true, false}
use Rattle.std.proofs.Common.{◌&&◌, List, [], ◌∷◌, ◌++◌, map, length, refl, ap}
use Rattle.std.proofs.Common.{arith, inl, inr, eq-eqb, eqb-true}
use Rattle.list_laws.specs.Sets.{holds}
use Rattle.mill_model.specs.Slab.{Mill, load, colours, legal}
use Rattle.mill_model.specs.Plan.{slab}
use Rattle.mill_model.specs.LiveKey.{is_live, LiveGroup, same_marks, same_group}
use Rattle.mill_model.specs.declared.order.Order.{Order}
use Rattle.list_laws.proofs.Tests.{and-left, and-right, either, or-left, or-right}
use Rattle.list_laws.proofs.Among.{Among, any-among}
use Rattle.std.proofs.lemmas.List.{map-append}
use Rattle.list_laws.proofs.Different.{different-mono, holds-append}
use Rattle.mill_model.proofs.Slabs.{load-append, legal-less}
use Rattle.mill_model.proofs.Slabs.{colours_of}
use Rattle.mill_model.proofs.Slabs.{among-load}
use Rattle.mill_model.proofs.Slabs.{among-colour}
use Rattle.list_laws.proofs.Among.{chosen-among}

-- The test of live groups is right.

pub same_marks-refl : (xs : List Bool) → same_marks xs xs ≡ true
same_marks-refl [] = refl
same_marks-refl (true ∷ xs) = same_marks-refl xs
same_marks-refl (false ∷ xs) = same_marks-refl xs

pub same_marks-eq : (xs ys : List Bool) → same_marks xs ys ≡ true → xs ≡ ys
same_marks-eq [] [] h = refl
same_marks-eq [] (y ∷ ys) h = grind arith
same_marks-eq (x ∷ xs) [] h = grind arith
same_marks-eq (true ∷ xs) (true ∷ ys) h = ap (λ l. true ∷ l) (same_marks-eq xs ys h)
same_marks-eq (true ∷ xs) (false ∷ ys) h = grind arith
same_marks-eq (false ∷ xs) (true ∷ ys) h = grind arith
same_marks-eq (false ∷ xs) (false ∷ ys) h = ap (λ l. false ∷ l) (same_marks-eq xs ys h)

pub same_group-refl : (a : LiveGroup) → same_group a a ≡ true
same_group-refl a =
    rw (eq-eqb a.load a.load refl, eq-eqb a.colours a.colours refl) (same_marks-refl a.coming)

pub same_group-eq : (a b : LiveGroup) → same_group a b ≡ true → a ≡ b
same_group-eq a b h =
    let counts = and-left (eqb a.load b.load && eqb a.colours b.colours) _ h in
    let l : a.load ≡ b.load = eqb-true _ _ (and-left (eqb a.load b.load) _ counts) in
    let c : a.colours ≡ b.colours = eqb-true _ _ (and-right (eqb a.load b.load) _ counts) in
    let m : a.coming ≡ b.coming =
    same_marks-eq a.coming b.coming (and-right (eqb a.load b.load && eqb a.colours b.colours) _
    h) in
    λ i. record { load = l i; colours = c i; coming = m i }

-- The mate of a number g of xs, where zs are mates for xs in their order.

-- The numbers below n that pass a test.

-- A set of orders that joins groups that look the same.

-- A group that one of the later orders joins is live: that order alone weighs no more than all that
-- join the group, and has one of their colours.

pub first-of : (g : ℕ) (more : List ℕ) (rest : List Order) → length more ≡ length rest →
    holds g more ≡ true → (o : Order) × Among o (slab g more rest)
first-of g [] rest e h = absurd (grind arith)
first-of g (t ∷ more) [] e h = absurd (omega arith)
first-of g (t ∷ more) (o ∷ rest) e h = elim (either (eqb g t)) [
  | inl i ↦ (o, rw i (inl refl))
  | inr i ↦ (let r = first-of g more rest (omega arith) (rw i at h) in (r.0, rw i r.1))
]

pub live-from : (mill : Mill) (group rest : List Order) (g : ℕ) (more : List ℕ) →
    length more ≡ length rest → holds g more ≡ true →
    legal mill (group ++ slab g more rest) ≡ true → is_live mill rest group ≡ true
live-from mill group rest g more e h l =
    let joins = slab g more rest in
    let first = first-of g more rest e h in
    let lighter : load (group ++ first.0 ∷ []) ≤ load (group ++ joins) =
    omega (
      arith,
      among-load first.0 joins first.1,
      load-append group joins,
      load-append group (first.0 ∷ []),
    ) in
    any-among (λ o. legal mill (group ++ o ∷ [])) first.0 rest
    (legal-less mill (group ++ first.0 ∷ []) (group ++ joins) lighter
    (fewer first.0 joins (among-colour first.0 joins first.1)) l)
    (chosen-among first.0 (map (λ t. eqb g t) more) rest first.1)
  where
    fewer : (o : Order) (joins : List Order) → holds o.colour (colours_of joins) ≡ true →
        colours (group ++ o ∷ []) ≤ colours (group ++ joins)
    fewer o joins k =
        rw (map-append (λ o. o.colour) group (o ∷ []), map-append (λ o. o.colour) group joins)
        (different-mono (colours_of group ++ o.colour ∷ []) (colours_of group ++ colours_of joins)
        (λ z m. elim (either (holds z (colours_of group))) [
          | inl i ↦ rw (holds-append z (colours_of group) (colours_of joins))
              (or-left (holds z (colours_of group)) _ i)
          | inr i ↦ rw (
            holds-append z (colours_of group) (colours_of joins),
            eqb-true z o.colour (grind (arith, holds-append z (colours_of group) (o.colour ∷ []))),
          ) (or-right (holds o.colour (colours_of group)) _ k)
        ]))
