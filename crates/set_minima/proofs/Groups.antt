-- What of a group its least slack depends on, and the least slack where no order may join.
use Rattle.std.proofs.Common.{ℕ, ◌+◌, ◌*◌, ◌≤◌, ◌≡◌, Bool, true, false, ◌&&◌, List, [], ◌∷◌, ◌++◌}
use Rattle.std.proofs.Common.{map, filter, length, ℤ, pos, ◌-ℤ◌, int_le, refl, sym, ap, ap₂, ◌∙◌}
use Rattle.std.proofs.Common.{subst, arith, inl, inr, append-nil, cond, eqb, eqb-true}
use Rattle.std.proofs.lemmas.Int.{ints}
use Rattle.std.proofs.lemmas.List.{map-append}
use Rattle.std.specs.List.{list_all}
use Rattle.std.specs.Int.{int_min}
use Rattle.list_laws.specs.Sets.{chosen, sets, int_sum, holds}
use Rattle.mill_model.specs.Slab.{Mill, load, colours, legal}
use Rattle.mill_model.specs.Prices.{slack, legal_sets, least, least_slack, valid}
use Rattle.mill_model.specs.LiveKey.{is_live, has_colour, LiveGroup, seen_from}
use Rattle.mill_model.specs.declared.order.Order.{Order}
use Rattle.mill_model.proofs.Slabs.{load-append, legal-less, joined-colours, colours-swap}
use Rattle.mill_model.proofs.Slabs.{among-load, among-colour, colours_of}
use Rattle.list_laws.proofs.Among.{Among, any-among, Among-unfilter, chosen-among, map-among}
use Rattle.list_laws.proofs.Tests.{or-cases, or-left, or-right, clash}
use Rattle.list_laws.proofs.Different.{different-mono, holds-append}

-- Groups that the later orders see alike have the same least slack.
module _ (mill : Mill) (charge : ℕ → ℕ) (rest g r : List Order)
    (same : seen_from rest g ≡ seen_from rest r) where
  same-load : load g ≡ load r
  same-load = ap (λ (s : LiveGroup). s.load) same

  same-colours : (set : List Order) → ((o : Order) → Among o set → Among o rest) →
      colours (g ++ set) ≡ colours (r ++ set)
  same-colours set h =
      let a : colours (set ++ g) ≡ colours (set ++ r) =
      joined-colours g r set (ap (λ (s : LiveGroup). s.colours) same)
      (λ o i. map-among (λ o. has_colour g o.colour) (λ o. has_colour r o.colour) o rest
      (ap (λ (s : LiveGroup). s.coming) same) (h o i)) in
      antisym (colours (g ++ set)) (colours (set ++ g)) (colours-swap g set) (colours-swap set g)
      ∙ a ∙ antisym (colours (set ++ r)) (colours (r ++ set)) (colours-swap set r)
      (colours-swap r set)
    where
      antisym : (a b : ℕ) → a ≤ b → b ≤ a → a ≡ b
      antisym a b h k = omega arith

  joined-load : (set : List Order) → load (g ++ set) ≡ load (r ++ set)
  joined-load set = load-append g set ∙ ap (λ n. n + load set) same-load ∙ sym (load-append r set)

  same-legal : (m : List Bool) → legal mill (g ++ chosen m rest) ≡ legal mill (r ++ chosen m rest)
  same-legal m = rw (
    joined-load (chosen m rest),
    same-colours (chosen m rest) (λ o i. chosen-among o m rest i),
  ) refl

  same-sets : (ms : List (List Bool)) → filter (λ m. legal mill (g ++ chosen m rest)) ms
      ≡ filter (λ m. legal mill (r ++ chosen m rest)) ms
  same-sets [] = refl
  same-sets (m ∷ ms) = ap₂ (λ b l. cond b (m ∷ l) l) (same-legal m) (same-sets ms)

  same-slack : (prices : List ℤ) (m : List Bool) →
      slack charge g rest prices m ≡ slack charge r rest prices m
  same-slack prices m =
      ap (λ n. pos (60 * charge n) -ℤ int_sum (chosen m prices)) (joined-load (chosen m rest))

  same-slacks : (prices : List ℤ) (ms : List (List Bool)) →
      map (slack charge g rest prices) ms ≡ map (slack charge r rest prices) ms
  same-slacks prices [] = refl
  same-slacks prices (m ∷ ms) = ap₂ (λ x l. x ∷ l) (same-slack prices m) (same-slacks prices ms)

  pub same-least : (prices : List ℤ) →
      least_slack mill charge g rest prices ≡ least_slack mill charge r rest prices
  same-least prices =
      ap₂ (λ x l. least x l) (same-slack prices [])
      (same-slacks prices (legal_sets mill g rest)
      ∙ ap (λ ms. map (slack charge r rest prices) ms) (same-sets (sets (length rest))))

-- Where no order may join a group, the one legal set is the empty one.

-- one of the orders that may join a group together may join it alone
pub alone-legal : (mill : Mill) (group set : List Order) (o : Order) → Among o set →
    legal mill (group ++ set) ≡ true → legal mill (group ++ o ∷ []) ≡ true
alone-legal mill group set o i h =
    legal-less mill (group ++ o ∷ []) (group ++ set) light few h
  where
    light : load (group ++ o ∷ []) ≤ load (group ++ set)
    light =
        let a : load (group ++ o ∷ []) ≡ load group + load (o ∷ []) = load-append group (o ∷ []) in
        let b : load (group ++ set) ≡ load group + load set = load-append group set in
        let c : o.weight ≤ load set = among-load o set i in
        omega arith

    few : colours (group ++ o ∷ []) ≤ colours (group ++ set)
    few =
        rw (map-append (λ o. o.colour) group (o ∷ []), map-append (λ o. o.colour) group set)
        (different-mono (colours_of group ++ o.colour ∷ []) (colours_of group ++ colours_of set)
        (λ x h. rw (holds-append x (colours_of group) (colours_of set))
        (elim (or-cases (holds x (colours_of group)) _
        (sym (holds-append x (colours_of group) (o.colour ∷ [])) ∙ h)) [
          | inl a ↦ or-left (holds x (colours_of group)) _ a
          | inr a ↦ elim (or-cases (eqb x o.colour) false a) [
            | inl e ↦ or-right (holds x (colours_of group)) _
                (rw (eqb-true x o.colour e) (among-colour o set i))
            | inr e ↦ absurd (clash false e refl)
          ]
        ])))

nothing-joins : (mill : Mill) (rest group : List Order) → is_live mill rest group ≡ false →
    (m : List Bool) → legal mill (group ++ chosen m rest) ≡ true → chosen m rest ≡ []
nothing-joins mill rest group dead m h = go (chosen m rest) refl
  where
    go : (set : List Order) → chosen m rest ≡ set → chosen m rest ≡ []
    go [] e = e
    go (o ∷ set) e =
        let i : Among o (chosen m rest) = subst (λ s. Among o s) (sym e) (inl refl) in
        let l : is_live mill rest group ≡ true =
        any-among (λ o. legal mill (group ++ o ∷ [])) o rest
        (alone-legal mill group (chosen m rest) o i h) (chosen-among o m rest i) in
        absurd (clash (is_live mill rest group) l dead)

none-priced : (m : List Bool) (rest : List Order) (prices : List ℤ) →
    length prices ≡ length rest → chosen m rest ≡ [] → chosen m prices ≡ []
none-priced [] rest prices n e = refl
none-priced (b ∷ m) rest [] n e = refl
none-priced (b ∷ m) [] (y ∷ prices) n e = absurd (omega arith)
none-priced (true ∷ m) (o ∷ rest) (y ∷ prices) n e = absurd (cc)
none-priced (false ∷ m) (o ∷ rest) (y ∷ prices) n e = none-priced m rest prices (omega arith) e

least-same : (a : ℤ) (f : List Bool → ℤ) (ms : List (List Bool)) →
    ((m : List Bool) → Among m ms → f m ≡ a) → least a (map f ms) ≡ a
least-same a f [] h = refl
least-same a f (m ∷ ms) h =
    let e : f m ≡ a = h m (inl refl) in
    let ih : least a (map f ms) ≡ a = least-same a f ms (λ n i. h n (inr i)) in
    rw (e, ih) (self a)
  where
    self : (a : ℤ) → int_min a a ≡ a
    self a = grind (arith, ints)

pub dead-least : (mill : Mill) (charge : ℕ → ℕ) (rest group : List Order) (prices : List ℤ) →
    length prices ≡ length rest → is_live mill rest group ≡ false →
    least_slack mill charge group rest prices ≡ pos (60 * charge (load group))
dead-least mill charge rest group prices n dead =
    least-same (slack charge group rest prices []) (slack charge group rest prices)
    (legal_sets mill group rest) (λ m i. alike m (legal-in m i)) ∙ empty
  where
    legal-in : (m : List Bool) → Among m (legal_sets mill group rest) →
        legal mill (group ++ chosen m rest) ≡ true
    legal-in m i =
        (Among-unfilter (λ set. legal mill (group ++ chosen set rest)) m (sets (length rest)) i).1

    alike : (m : List Bool) → legal mill (group ++ chosen m rest) ≡ true →
        slack charge group rest prices m ≡ slack charge group rest prices []
    alike m h =
        let e : chosen m rest ≡ [] = nothing-joins mill rest group dead m h in
        rw (e, none-priced m rest prices n e) refl

    empty : slack charge group rest prices [] ≡ pos (60 * charge (load group))
    empty = rw append-nil (less (60 * charge (load group)))
      where
        less : (a : ℕ) → pos a -ℤ pos 0 ≡ pos a
        less a = omega (arith, ints)

-- Prices are valid where the least slack of a new slab is not below zero.
not-below : (a : ℤ) (f : List Bool → ℤ) (ms : List (List Bool)) → int_le (pos 0) a ≡ true →
    int_le (pos 0) (least a (map f ms)) ≡ list_all (λ m. int_le (pos 0) (f m)) ms
not-below a f [] h = h
not-below a f (m ∷ ms) h =
    both (f m) (least a (map f ms)) ∙ ap (λ b. int_le (pos 0) (f m) && b) (not-below a f ms h)
  where
    both : (x y : ℤ) → int_le (pos 0) (int_min x y) ≡ (int_le (pos 0) x && int_le (pos 0) y)
    both x y = grind (arith, ints)

pub valid-least : (mill : Mill) (charge : ℕ → ℕ) (rest : List Order) (prices : List ℤ) →
    valid mill charge rest prices ≡ int_le (pos 0) (least_slack mill charge [] rest prices)
valid-least mill charge rest prices =
    sym (not-below (slack charge [] rest prices []) (slack charge [] rest prices)
    (legal_sets mill [] rest) (never (60 * charge 0)))
  where
    never : (a : ℕ) → int_le (pos 0) (pos a -ℤ pos 0) ≡ true
    never a = grind (arith, ints)
