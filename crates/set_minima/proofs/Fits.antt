-- Sets that join a slab. Of the slab only the load and the colours are known: a set is legal with
-- its orders where it fits beside that load and those colours, and then its slack is its gain with
-- the other sign. So the least slack of the sets that pass a test is the greatest gain of the sets
-- that fit and pass it, with the other sign.
use Rattle.std.proofs.Common.{ℕ, ◌+◌, ◌*◌, ◌≤◌, ◌≡◌, Bool, true, false}
use Rattle.std.proofs.Common.{◌&&◌, ◌||◌, List, [], ◌∷◌, ◌++◌, map, length}
use Rattle.std.proofs.Common.{ℤ, pos, ◌-ℤ◌, ◌≤ℤ◌, neg_ℤ, Option, Some, None, leb}
use Rattle.std.proofs.Common.{leb-true, le-leb, refl, sym, ap, subst}
use Rattle.std.proofs.Common.{◌∙◌, arith, inl, inr}
use Rattle.std.proofs.lemmas.Int.{ints}
use Rattle.std.proofs.lemmas.List.{map-append}
use Rattle.list_laws.specs.Sets.{holds, different, chosen, sets, int_sum}
use Rattle.mill_model.specs.Slab.{Mill, load, colours, legal}
use Rattle.mill_model.specs.Prices.{slack, legal_sets, least}
use Rattle.mill_model.specs.Bounds.{least_of, slacks}
use Rattle.mill_model.specs.declared.order.Order.{Order}
use Rattle.mill_model.proofs.Slabs.{load-append}
use Rattle.mill_laws.proofs.Least.{least-in, least-first, least-among}
use Rattle.list_laws.proofs.Tests.{and-left, and-right}
use Rattle.list_laws.proofs.Among.{Among, Among-filter, among-sets}
use Rattle.list_laws.proofs.Among.{Among-unfilter}
use Rattle.list_laws.proofs.Different.{holds-append}
use Rattle.set_minima.specs.Packs.{colours_in, IsTop}
use Rattle.set_minima.specs.Joins.{gain, IsSlab, opposite}
use Rattle.list_laws.proofs.Among.{sets-length}
use Rattle.list_laws.proofs.Different.{different-same}
use Rattle.mill_laws.proofs.Slacks.{from-slacks}
use Rattle.mill_laws.proofs.Slacks.{among-slacks}

-- The least of some numbers.

pub least-is : (xs : List ℤ) (v : ℤ) → Among v xs → ((x : ℤ) → Among x xs → v ≤ℤ x) →
    least_of xs ≡ Some v
least-is [] v there below = absurd there
least-is (x ∷ xs) v there below = ap Some (same (least x xs) v at-most at-least)
  where
    at-most : least x xs ≤ℤ v
    at-most = elim there [ inl e ↦ rw e (least-first x xs) | inr i ↦ least-among x v xs i ]

    at-least : v ≤ℤ least x xs
    at-least =
        elim (least-in x xs) [
          | inl e ↦ rw e (below x (inl refl))
          | inr i ↦ below (least x xs) (inr i)
        ]

    same : (a b : ℤ) → a ≤ℤ b → b ≤ℤ a → a ≡ b
    same a b h k = omega (arith, ints)

none-of : (xs : List ℤ) → ((x : ℤ) → Among x xs → ⊥) → least_of xs ≡ None
none-of [] h = refl
none-of (x ∷ xs) h = absurd (h x (inl refl))

and-both : (a b : Bool) → a ≡ true → b ≡ true → (a && b) ≡ true
and-both true b h k = k
and-both false b h k = h

module _ (largest most : ℕ) (charge : ℕ → ℕ) (rest : List Order) (prices : List ℤ)
    (group : List Order) (base : ℕ) (own : List ℕ) (of : IsSlab group base own) where
  abbrev mill : Mill
  mill = record { largest = largest; most_colours = most }

  -- what a set that joins the slab must be
  pub record Fits (marks : List Bool) : Type 0 where
    pub long : length marks ≡ length rest
    pub fits : base + load (chosen marks rest) ≤ largest
    pub few : different (own ++ colours_in marks rest) ≤ most

  -- The slab's own load and colours stand for those of its orders.

  same-load : (marks : List Bool) →
      load (group ++ chosen marks rest) ≡ base + load (chosen marks rest)
  same-load marks =
      load-append group (chosen marks rest)
      ∙ ap (λ weight. weight + load (chosen marks rest)) of.weighs

  same-colours : (marks : List Bool) →
      colours (group ++ chosen marks rest) ≡ different (own ++ colours_in marks rest)
  same-colours marks =
      let its = map (λ o. o.colour) group in
      let joining = colours_in marks rest in
      ap different (map-append (λ o. o.colour) group (chosen marks rest))
      ∙ different-same (its ++ joining) (own ++ joining) (λ x.
      holds-append x its joining
      ∙ ap (λ there. there || holds x joining) (sym (of.same x))
      ∙ sym (holds-append x own joining))

  -- A set is legal with the slab's orders exactly where it fits.

  pub legal-fits : (marks : List Bool) → Among marks (legal_sets mill group rest) → Fits marks
  legal-fits marks h =
      let all = group ++ chosen marks rest in
      let is = Among-unfilter (λ set. legal mill (group ++ chosen set rest)) marks
      (sets (length rest)) h in
      let light : load all ≤ largest = leb-true _ _ (and-left (leb (load all) largest) _ is.1) in
      let few : colours all ≤ most = leb-true _ _ (and-right (leb (load all) largest) _ is.1) in
      record {
        long = sets-length (length rest) marks is.0;
        fits = rw same-load at light;
        few = subst (λ count. count ≤ most) (same-colours marks) few;
      }

  pub fits-legal : (marks : List Bool) → Fits marks → Among marks (legal_sets mill group rest)
  fits-legal marks f =
      let all = group ++ chosen marks rest in
      let light : leb (load all) largest ≡ true = le-leb _ _ (rw same-load f.fits) in
      let few : leb (colours all) most ≡ true =
      le-leb _ _ (subst (λ count. count ≤ most) (sym (same-colours marks)) f.few) in
      Among-filter (λ set. legal mill (group ++ chosen set rest)) marks (sets (length rest))
      (and-both _ _ light few) (subst (λ n. Among marks (sets n)) f.long (among-sets marks))

  -- Its slack is its gain with the other sign.

  slack-gain : (marks : List Bool) →
      slack charge group rest prices marks ≡ neg_ℤ (gain charge base rest prices marks)
  slack-gain marks =
      rw (same-load marks) (turn (pos (60 * charge (base + load (chosen marks rest))))
      (int_sum (chosen marks prices)))
    where
      turn : (a b : ℤ) → a -ℤ b ≡ neg_ℤ (b -ℤ a)
      turn a b = omega (arith, ints)

  -- the greatest gain of some sets, which are those that fit and pass a test
  pub least-top : (Q : List Bool → Type 0) (test : List Bool → Bool) (b : Option ℤ) →
      ((m : List Bool) → Q m → Fits m × (test m ≡ true)) →
      ((m : List Bool) → Fits m → test m ≡ true → Q m) →
      IsTop Q (gain charge base rest prices) b →
      least_of (slacks mill charge group rest prices test) ≡ opposite b
  least-top Q test None to from top =
      none-of (slacks mill charge group rest prices test) (λ x a.
      (let r = from-slacks mill charge group rest prices test x a in
      top.none refl r.0 (from r.0 (legal-fits r.0 r.1) r.2)))
  least-top Q test (Some v) to from top =
      least-is (slacks mill charge group rest prices test) (neg_ℤ v)
      (subst (λ x. Among x (slacks mill charge group rest prices test)) (sym best-slack)
      (among-slacks mill charge group rest prices test best.0 (fits-legal best.0 (to best.0
      best.1).0) (to best.0 best.1).1)) below
    where
      best : (m : List Bool) × Q m × (v ≡ gain charge base rest prices m)
      best = top.some v refl

      best-slack : neg_ℤ v ≡ slack charge group rest prices best.0
      best-slack = ap neg_ℤ best.2 ∙ sym (slack-gain best.0)

      below : (x : ℤ) → Among x (slacks mill charge group rest prices test) → neg_ℤ v ≤ℤ x
      below x a =
          let r = from-slacks mill charge group rest prices test x a in
          let less : gain charge base rest prices r.0 ≤ℤ v =
          top.most v refl r.0 (from r.0 (legal-fits r.0 r.1) r.2) in
          let is : x ≡ neg_ℤ (gain charge base rest prices r.0) = r.3 ∙ slack-gain r.0 in
          omega (arith, ints, less, is)
