-- The least slack of the sets that hold one order. Such a set is the order beside a set without it:
-- that one joins the slab once the order has joined, which then has its weight and its colour. So
-- the greatest gain with the order is the order's price and the greatest gain beside it.
use Rattle.std.proofs.Common.{ℕ, suc, ◌+◌, ◌<◌, ◌≤◌, ◌≡◌, ◌⊎◌, Bool, true, false, cond}
use Rattle.std.proofs.Common.{◌||◌, List, ◌∷◌, ◌++◌, length, get_or}
use Rattle.std.proofs.Common.{set, ℤ, pos, ◌+ℤ◌, Option, None, eqb, leb}
use Rattle.std.proofs.Common.{ltb, leb-false, ltb-false, refl, sym, ap, subst}
use Rattle.std.proofs.Common.{◌∙◌, arith, inl, inr, eqb-true}
use Rattle.std.proofs.Common.{length-set}
use Rattle.std.proofs.lemmas.Int.{ints}
use Rattle.list_laws.specs.Sets.{holds, different, chosen}
use Rattle.mill_model.specs.Slab.{Mill, load}
use Rattle.mill_model.specs.Bounds.{in_set, least_on_with}
use Rattle.mill_model.specs.declared.order.Order.{Order}
use Rattle.list_laws.proofs.Tests.{either, or-cases, clash}
use Rattle.list_laws.proofs.Different.{different-mono, holds-append, Within-left}
use Rattle.list_laws.proofs.Different.{Within-right}
use Rattle.set_minima.specs.Packs.{nobody, colours_in, IsTop, with_price}
use Rattle.set_minima.specs.Joins.{gain, Joins, IsSlab, opposite, with_colour, may_join}
use Rattle.set_minima.specs.Joins.{all_but}
use Rattle.set_minima.proofs.Places.{in-set-same, in-set-below, load-place, sum-place}
use Rattle.set_minima.proofs.Places.{colours-place, marked, unmarked, place-colour}
use Rattle.set_minima.proofs.Tops.{none-some, top-shift}
use Rattle.list_laws.proofs.Different.{different-same}
use Rattle.set_minima.proofs.Fits.{Fits, least-top}
use Rattle.set_minima.proofs.Least.{without-from, fine-from}

module _ (largest most : ℕ) (charge : ℕ → ℕ) (rest : List Order) (prices : List ℤ)
    (group : List Order) (base : ℕ) (own : List ℕ) (of : IsSlab group base own) (i : ℕ)
    (here : i < length rest) (same : length prices ≡ length rest) where
  abbrev mill : Mill
  mill = record { largest = largest; most_colours = most }

  abbrev order : Order
  order = get_or rest i nobody

  abbrev price : ℤ
  price = get_or prices i (pos 0)

  -- the slab's load and colours once the order has joined
  abbrev heavier : ℕ
  heavier = base + order.weight

  abbrev paid : List ℕ
  paid = with_colour order.colour own

  -- sets that fit and hold the order
  abbrev Holding : List Bool → Type 0
  Holding m = Fits largest most charge rest prices group base own of m × (in_set i m ≡ true)

  -- sets beside it
  abbrev Beside : List Bool → Type 0
  Beside = Joins (all_but i) 0 largest heavier paid most rest

  abbrev on : List Bool → List Bool
  on m = set m i true

  abbrev off : List Bool → List Bool
  off m = set m i false

  -- A set with the order, and the same set without it: colours, loads and gains.

  paid-holds : (x : ℕ) → holds x paid ≡ (holds x own || eqb x order.colour)
  paid-holds x = go (holds order.colour own) refl
    where
      go : (b : Bool) → holds order.colour own ≡ b →
          holds x (cond b own (order.colour ∷ own)) ≡ (holds x own || eqb x order.colour)
      go false e = turn (eqb x order.colour) (holds x own)
        where
          turn : (a b : Bool) → (a || b) ≡ (b || a)
          turn true true = refl
          turn true false = refl
          turn false true = refl
          turn false false = refl
      go true e = elim (either (eqb x order.colour)) [
        | inl s ↦ (let there : holds x own ≡ true = rw (eqb-true x order.colour s) e in
            rw there refl)
        | inr n ↦ rw n (keep (holds x own))
      ]
        where
          keep : (b : Bool) → b ≡ (b || false)
          keep true = refl
          keep false = refl

  on-colours : (m : List Bool) → i < length m →
      different (own ++ colours_in (on m) rest) ≡ different (paid ++ colours_in (off m) rest)
  on-colours m inside =
      different-same (own ++ colours_in (on m) rest) (paid ++ colours_in (off m) rest) (λ x.
      holds-append x own (colours_in (on m) rest)
      ∙ ap (λ b. holds x own || b) (colours-place x i m rest inside here)
      ∙ assoc (holds x own) (eqb x order.colour) (holds x (colours_in (off m) rest))
      ∙ ap (λ b. b || holds x (colours_in (off m) rest)) (sym (paid-holds x))
      ∙ sym (holds-append x paid (colours_in (off m) rest)))
    where
      assoc : (a b c : Bool) → (a || (b || c)) ≡ ((a || b) || c)
      assoc true b c = refl
      assoc false b c = refl

  on-load : (m : List Bool) → i < length m →
      base + load (chosen (on m) rest) ≡ heavier + load (chosen (off m) rest)
  on-load m inside = omega (arith, load-place i m rest inside here)

  on-gain : (m : List Bool) → i < length m →
      gain charge base rest prices (on m) ≡ price +ℤ gain charge heavier rest prices (off m)
  on-gain m inside =
      let sum = sum-place i m prices inside (rw same here) in
      let charged = ap charge (on-load m inside) in
      omega (arith, ints, sum, charged)

  -- Each set beside the order makes one that holds it, and comes of one.

  put : (m : List Bool) → Beside m →
      Holding (on m) × (gain charge base rest prices (on m)
      ≡ price +ℤ gain charge heavier rest prices m)
  put m joins =
      let inside : i < length m = omega (arith, here, joins.long) in
      let lacks : off m ≡ m = unmarked i m (without-from i m joins.fine) in (
        (
          record {
            long = length-set m i true ∙ joins.long;
            fits = omega (arith, joins.fits, rw lacks at (on-load m inside));
            few = rw (on-colours m inside, lacks) joins.few;
          },
          in-set-same i m true inside,
        ),
        rw lacks at (on-gain m inside),
      )

  taken : (m : List Bool) → Holding m →
      Beside (off m) × (gain charge base rest prices m
      ≡ price +ℤ gain charge heavier rest prices (off m))
  taken m q =
      let inside : i < length m = in-set-below i m q.1 in
      let has : on m ≡ m = marked i m q.1 in (
        record {
          long = length-set m i false ∙ q.0.long;
          fine = fine-from i (off m) (in-set-same i m false inside);
          above = omega arith;
          fits = omega (arith, q.0.fits, rw has at (on-load m inside));
          few = rw (← on-colours m inside, has) q.0.few;
        },
        rw has at (on-gain m inside),
      )

  pub with-is : (b : Option ℤ) → IsTop Beside (gain charge heavier rest prices) b →
      least_on_with mill charge group rest prices i ≡ opposite (with_price price b)
  with-is b top =
      least-top largest most charge rest prices group base own of Holding (in_set i)
      (with_price price b) (λ m q. q) (λ m f t. (f, t))
      (top-shift Beside Holding (gain charge heavier rest prices) (gain charge base rest prices)
      price on off b put taken top)

  -- Where the order may not join, because of its weight or its colour, no set holds it.

  pub with-none : length own ≡ different own → may_join largest most base own order ≡ false →
      least_on_with mill charge group rest prices i ≡ None
  with-none once refused =
      least-top largest most charge rest prices group base own of Holding (in_set i) None
      (λ m q. q) (λ m f t. (f, t)) (record {
        none = λ e m q. never m q (either (leb heavier largest));
        some = λ v e. none-some v e;
        most = λ v e. none-some v e;
      })
    where
      neither : (a b : Bool) → (a || b) ≡ false → (a ≡ false) × (b ≡ false)
      neither true b h = absurd (clash true refl h)
      neither false b h = (refl, h)

      never : (m : List Bool) → Holding m →
          (leb heavier largest ≡ true) ⊎ (leb heavier largest ≡ false) → ⊥
      never m q (inr heavy) =
          let beside = taken m q in
          let more : largest < heavier = leb-false heavier largest heavy in
          absurd (omega (arith, beside.0.fits))
      never m q (inl light) =
          let refuses : (holds order.colour own || ltb (length own) most) ≡ false =
          rw light at refused in
          let new = neither (holds order.colour own) (ltb (length own) most) refuses in
          let full : most ≤ length own = ltb-false (length own) most new.1 in
          let joins : holds order.colour (colours_in m rest) ≡ true =
          place-colour i m rest q.1 here in
          let more : different (order.colour ∷ own) ≤ different (own ++ colours_in m rest) =
          different-mono (order.colour ∷ own) (own ++ colours_in m rest) (λ x h.
          elim (or-cases (eqb x order.colour) (holds x own) h) [
            | inl s ↦ Within-right own (colours_in m rest) x (subst (λ colour.
                holds colour (colours_in m rest) ≡ true) (sym (eqb-true x order.colour s)) joins)
            | inr s ↦ Within-left own (colours_in m rest) x s
          ]) in
          let one-more : suc (different own) ≤ different (own ++ colours_in m rest) =
          rw new.0 at more in
          absurd (omega (arith, once, full, one-more, q.0.few))
