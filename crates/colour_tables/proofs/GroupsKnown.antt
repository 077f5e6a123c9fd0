-- Groups that are known to the tables: one more, and the same after a price has changed.
use Rattle.std.proofs.Common.{ℕ, ◌<◌, ◌≤◌, ◌≡◌, List, [], ◌∷◌, ◌++◌, length, get_or, sym}
use Rattle.std.proofs.Common.{subst, arith, inl, inr, ◌⊎◌, refl, length-append}
use Rattle.std.proofs.lemmas.Bool.{cases_lt}
use Rattle.std.proofs.lemmas.List.{get_or_at, get_or_append_left}
use Rattle.list_laws.specs.Sets.{below}
use Rattle.mill_model.specs.declared.order.Order.{Order}
use Rattle.slab_rules.specs.OpenSlab.{OpenSlab, Carries}
use Rattle.colour_tables.specs.Grouped.{AreKnown, group_at, slab_at}
use Rattle.colour_tables.specs.Owned.{IsHeld, IsOwn}
use Rattle.colour_tables.specs.PricedOrders.{PricedOrders, IsKnown, StandsFor}
use Rattle.colour_tables.specs.declared.slab.Own.TheVariants.{Full}
use Rattle.colour_tables.specs.declared.slab.Slab.{Slab}

module _ (now next : PricedOrders) (rest : next.rest ≡ now.rest)
    (colours : next.colours ≡ now.colours) (largest : next.largest ≡ now.largest) where
  still-own : (own : List ℕ) (slab : Slab) →
      IsOwn now.rest (λ c. get_or now.colours c 0) own slab.own →
      IsOwn next.rest (λ c. get_or next.colours c 0) own slab.own
  still-own own slab is =
      subst (λ xs. IsOwn next.rest (λ c. get_or xs c 0) own slab.own) (sym colours)
      (subst (λ xs. IsOwn xs (λ c. get_or now.colours c 0) own slab.own) (sym rest) is)

  pub still-known : (groups : List OpenSlab) (slabs : List Slab) → AreKnown now groups slabs →
      AreKnown next groups slabs
  still-known groups slabs are = record {
    known = λ g b. let k = are.known g b in record {
      fits = subst (λ n. (slab_at slabs g).load ≤ n) (sym largest) k.fits;
      held =
          subst (λ xs. IsHeld (below (length xs)) (slab_at slabs g).own) (sym colours) k.held;
      own = k.own;
      apart = k.apart;
      is = still-own k.own (slab_at slabs g) k.is;
    };
    stands = λ g b group carries. let s = are.stands g b group carries in record {
      own = s.own;
      apart = s.apart;
      of = s.of;
      is = still-own s.own (slab_at slabs g) s.is;
    };
  }

pub one-more-known : (orders : PricedOrders) (groups : List OpenSlab) (slabs : List Slab)
    (slab : Slab) → AreKnown orders groups slabs → IsKnown orders slab →
    ((group : List Order) → Carries (group_at groups (length slabs)) group →
    StandsFor orders group slab) → AreKnown orders groups (slabs ++ slab ∷ [])
one-more-known orders groups slabs slab are known stands = record {
  known = λ g b. elim (place g b) [
    | inl h ↦ subst (λ s. IsKnown orders s) (sym (before g h)) (are.known g h)
    | inr e ↦ subst (λ s. IsKnown orders s) (sym (last g e)) known
  ];
  stands = λ g b group carries. elim (place g b) [
    | inl h ↦ subst (λ s. StandsFor orders group s) (sym (before g h))
        (are.stands g h group carries)
    | inr e ↦ subst (λ s. StandsFor orders group s) (sym (last g e))
        (stands group (subst (λ n. Carries (group_at groups n) group) e carries))
  ];
}
  where
    place : (g : ℕ) → g < length (slabs ++ slab ∷ []) → (g < length slabs) ⊎ (g ≡ length slabs)
    place g b = elim (cases_lt g (length slabs)) [
      | inl h ↦ inl h
      | inr h ↦ inr (let n = length-append slabs (slab ∷ []) in omega (arith, n, h, b))
    ]

    before : (g : ℕ) → g < length slabs → slab_at (slabs ++ slab ∷ []) g ≡ slab_at slabs g
    before g h = get_or_append_left slabs (slab ∷ []) (record { load = 0; own = Full }) g h

    last : (g : ℕ) → g ≡ length slabs → slab_at (slabs ++ slab ∷ []) g ≡ slab
    last g e = subst (λ n. slab_at (slabs ++ slab ∷ []) n ≡ slab) (sym e)
        (get_or_at slabs slab [] (record { load = 0; own = Full }) (length slabs) refl)
