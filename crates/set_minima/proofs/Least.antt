-- Least slacks as greatest gains: over all sets, over those without one thing, and of a new slab.
-- Each kind of sets is that of the sets which fit and pass a test.
use Rattle.std.proofs.Common.{ℕ, suc, ◌<◌, ◌≤◌, ◌≡◌, Bool, true, false}
use Rattle.std.proofs.Common.{not, List, [], ◌∷◌, ◌++◌, map, filter, length}
use Rattle.std.proofs.Common.{ℤ, Option, Some, eqb}
use Rattle.std.proofs.Common.{refl, sym, ap, subst}
use Rattle.std.proofs.Common.{◌∙◌, arith, inl, inr, eq-eqb, ne_eqb, append-nil}
use Rattle.std.specs.List.{list_any}
use Rattle.list_laws.specs.Sets.{different, chosen, sets}
use Rattle.mill_model.specs.Slab.{Mill, load, legal}
use Rattle.mill_model.specs.Prices.{slack, legal_sets, least, least_slack}
use Rattle.mill_model.specs.Bounds.{in_set, least_of, slacks, least_new}
use Rattle.mill_model.specs.Bounds.{least_on_without}
use Rattle.mill_model.specs.declared.order.Order.{Order}
use Rattle.mill_laws.proofs.Least.{least-in, least-among}
use Rattle.list_laws.proofs.Tests.{clash}
use Rattle.list_laws.proofs.Among.{Among, Among-map}
use Rattle.list_laws.proofs.Among.{Among-unfilter}
use Rattle.mill_laws.proofs.Slacks.{empty-slack}
use Rattle.list_laws.proofs.Lists.{nothing, nothing-chosen, nothing-length}
use Rattle.set_minima.specs.Packs.{IsTop}
use Rattle.set_minima.specs.Joins.{gain, Joins, IsSlab, opposite, AreOrders}
use Rattle.set_minima.specs.Joins.{all_places, all_but}
use Rattle.set_minima.proofs.Fits.{fits-legal, least-is, least-top}

-- A set of all places but one lacks that place, and the other way round.

pub without-from : (i : ℕ) (m : List Bool) →
    ((j : ℕ) → in_set j m ≡ true → all_but i j ≡ true) → in_set i m ≡ false
without-from i m h = go (in_set i m) refl
  where
    go : (v : Bool) → in_set i m ≡ v → in_set i m ≡ false
    go false e = e
    go true e =
        let k : eqb i i ≡ true = eq-eqb i i refl in
        absurd (clash (not (eqb i i)) (h i e) (rw k refl))

pub fine-from : (i : ℕ) (m : List Bool) → in_set i m ≡ false → (j : ℕ) → in_set j m ≡ true →
    all_but i j ≡ true
fine-from i m f j e =
    let n : eqb j i ≡ false = ne_eqb j i (λ q. clash (in_set j m) e (rw q f)) in
    rw n

module _ (largest most : ℕ) (charge : ℕ → ℕ) (rest : List Order) (prices : List ℤ) where
  abbrev mill : Mill
  mill = record { largest = largest; most_colours = most }

  module _ (group : List Order) (base : ℕ) (own : List ℕ) (of : IsSlab group base own) where
    -- Over the sets without one thing.

    pub without-is : (i : ℕ) (b : Option ℤ) →
        IsTop (Joins (all_but i) 0 largest base own most rest) (gain charge base rest prices) b →
        least_on_without mill charge group rest prices i ≡ opposite b
    without-is i b top =
        least-top largest most charge rest prices group base own of
        (Joins (all_but i) 0 largest base own most rest) (λ set. not (in_set i set)) b
        (λ m q. (
          record { long = q.long; fits = q.fits; few = q.few },
          rw (without-from i m q.fine) refl,
        ))
        (λ m f t. record {
          long = f.long;
          fine = fine-from i m (not-true (in_set i m) t);
          above = omega arith;
          fits = f.fits;
          few = f.few;
        }) top
      where
        not-true : (b : Bool) → not b ≡ true → b ≡ false
        not-true true h = sym h
        not-true false h = refl

    -- Over all sets. The least slack begins with that of the empty set, which is one of them.

    filter-all : (xs : List (List Bool)) → filter (λ set. true) xs ≡ xs
    filter-all [] = refl
    filter-all (x ∷ xs) = ap (λ l. x ∷ l) (filter-all xs)

    with-first : (a : ℤ) (xs : List ℤ) → Among a xs → least_of xs ≡ Some (least a xs)
    with-first a xs there =
        least-is xs (least a xs) (elim (least-in a xs) [
          | inl e ↦ subst (λ z. Among z xs) (sym e) there
          | inr i ↦ i
        ]) (λ x i. least-among a x xs i)

    abbrev all : List ℤ
    all = map (slack charge group rest prices) (legal_sets mill group rest)

    pub on-is : (b : Option ℤ) → base ≤ largest → different own ≤ most →
        IsTop (Joins all_places 0 largest base own most rest) (gain charge base rest prices) b →
        Some (least_slack mill charge group rest prices) ≡ opposite b
    on-is b light few top =
        sym (with-first (slack charge group rest prices []) all empty-among)
        ∙ subst (λ sets. least_of (map (slack charge group rest prices) sets) ≡ opposite b)
        (filter-all (legal_sets mill group rest)) passing
      where
        passing : least_of (slacks mill charge group rest prices (λ set. true)) ≡ opposite b
        passing =
            least-top largest most charge rest prices group base own of
            (Joins all_places 0 largest base own most rest) (λ set. true) b
            (λ m q. (record { long = q.long; fits = q.fits; few = q.few }, refl))
            (λ m f t. record {
              long = f.long;
              fine = λ i e. refl;
              above = omega arith;
              fits = f.fits;
              few = f.few;
            }) top

        none-legal : Among (nothing (length rest)) (legal_sets mill group rest)
        none-legal =
            fits-legal largest most charge rest prices group base own of (nothing (length rest))
            (record {
              long = nothing-length (length rest);
              fits = rw (nothing-chosen (length rest) rest) (omega arith);
              few = rw (nothing-chosen (length rest) rest, append-nil) few;
            })

        group-legal : legal mill group ≡ true
        group-legal =
            rw (nothing-chosen (length rest) rest, append-nil) at (Among-unfilter
            (λ set. legal mill (group ++ chosen set rest)) (nothing (length rest))
            (sets (length rest)) none-legal).1

        empty-among : Among (slack charge group rest prices []) all
        empty-among =
            subst (λ z. Among z all) (sym (empty-slack mill charge group rest group-legal prices))
            (Among-map (slack charge group rest prices) (nothing (length rest))
            (legal_sets mill group rest) none-legal)

  -- A new slab. The sets that aren't empty are those that weigh something.

  pub new-slab : IsSlab [] 0 []
  new-slab = record { weighs = refl; same = λ x. refl }

  any-load : (m : List Bool) (orders : List Order) → length m ≡ length orders → AreOrders orders →
      list_any (λ mark. mark) m ≡ true → 1 ≤ load (chosen m orders)
  any-load [] orders n w h = absurd (clash false h refl)
  any-load (b ∷ m) [] n w h = absurd (omega arith)
  any-load (true ∷ m) (o ∷ orders) n w h = let a : 0 < o.weight = w 0 (omega arith) in omega arith
  any-load (false ∷ m) (o ∷ orders) n w h =
      any-load m orders (omega arith) (λ i k. w (suc i) (omega arith)) h

  load-any : (m : List Bool) (orders : List Order) → 1 ≤ load (chosen m orders) →
      list_any (λ mark. mark) m ≡ true
  load-any [] orders h = absurd (omega arith)
  load-any (b ∷ m) [] h = absurd (omega arith)
  load-any (true ∷ m) (o ∷ orders) h = refl
  load-any (false ∷ m) (o ∷ orders) h = load-any m orders h

  pub new-is : (b : Option ℤ) → AreOrders rest →
      IsTop (Joins all_places 1 largest 0 [] most rest) (gain charge 0 rest prices) b →
      least_new mill charge rest prices ≡ opposite b
  new-is b weigh top =
      least-top largest most charge rest prices [] 0 [] new-slab
      (Joins all_places 1 largest 0 [] most rest) (list_any (λ mark. mark)) b
      (λ m q. (record { long = q.long; fits = q.fits; few = q.few }, load-any m rest q.above))
      (λ m f t. record {
        long = f.long;
        fine = λ i e. refl;
        above = any-load m rest f.long weigh t;
        fits = f.fits;
        few = f.few;
      }) top
