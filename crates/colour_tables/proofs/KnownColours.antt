-- The colours of a slab by their numbers among the colours to come.
use Rattle.std.proofs.Common.{ℕ, zero, suc, ◌<◌, ◌≤◌, ◌≡◌, ◌≢◌, ◌⊎◌, Bool, true, false, List, []}
use Rattle.std.proofs.Common.{◌∷◌, map}
use Rattle.std.proofs.Common.{length, get_or, eqb, eqb-true, eq-eqb, refl, sym, ap, ◌∙◌, subst}
use Rattle.std.proofs.Common.{arith}
use Rattle.std.proofs.Common.{inl, inr, ne_eqb, Option, Some, None, ℤ}
use Rattle.list_laws.specs.Sets.{holds, different, below}
use Rattle.mill_model.specs.declared.order.Order.{Order}
use Rattle.list_laws.proofs.Tests.{or-cases, clash}
use Rattle.list_laws.proofs.Different.{below-holds, holds-below-lt}
use Rattle.set_minima.specs.Packs.{colour_at, nobody}
use Rattle.colour_tables.specs.Owned.{IsOwn, IsHeld}
use Rattle.colour_tables.specs.PricedOrders.{AreTables, IsPlaceOf, PricedOrders, colour_of}
use Rattle.colour_tables.specs.declared.colour_rows.Rows.{Rows}
use Rattle.colour_tables.specs.declared.slab.Own.TheVariants.{Bare, Free, One, Two, Full}
use Rattle.colour_tables.specs.declared.slabs.Runs.{Runs}
use Rattle.colour_tables.proofs.ColoursPaid.{name-held, but-more}
use Rattle.colour_tables.proofs.RowsFilled.{held-get}
use Rattle.colour_tables.proofs.SlacksFromTables.{holds-first}

list-one : (own : List ℕ) → length own ≡ 1 → own ≡ get_or own 0 0 ∷ []
list-one [] h = absurd (omega arith)
list-one (a ∷ []) h = refl
list-one (a ∷ b ∷ own) h = absurd (omega arith)

list-two : (own : List ℕ) → length own ≡ 2 → own ≡ get_or own 0 0 ∷ get_or own 1 0 ∷ []
list-two [] h = absurd (omega arith)
list-two (a ∷ []) h = absurd (omega arith)
list-two (a ∷ b ∷ []) h = refl
list-two (a ∷ b ∷ d ∷ own) h = absurd (omega arith)

module _ (rest : List Order) (colours : List ℕ)
    (all : (i : ℕ) → i < length rest →
    holds (colour_at rest i) (map (λ c. get_or colours c 0) (below (length colours))) ≡ true) where
  abbrev name : ℕ → ℕ
  name c = get_or colours c 0

  -- a colour that is not among them is that of no order
  pub absent : (x : ℕ) → holds x colours ≡ false → (i : ℕ) → i < length rest →
      eqb (colour_at rest i) x ≡ false
  absent x none i h = go (eqb (colour_at rest i) x) refl
    where
      go : (b : Bool) → eqb (colour_at rest i) x ≡ b → eqb (colour_at rest i) x ≡ false
      go false e = e
      go true e =
          let r = name-held name (colour_at rest i) (below (length colours)) (all i h) in
          let k : holds (name r.0) colours ≡ true =
          held-get r.0 colours (holds-below-lt r.0 (length colours) r.1) in
          absurd (clash (holds x colours)
          (subst (λ z. holds z colours ≡ true) (r.2 ∙ eqb-true (colour_at rest i) x e) k) none)

  pub own-bare : (own : List ℕ) → length own ≡ 1 → holds (get_or own 0 0) colours ≡ false →
      IsOwn rest name own Bare
  own-bare own n h = (get_or own 0 0, list-one own n, absent (get_or own 0 0) h)

  pub own-free : (own : List ℕ) (d : ℕ) → length own ≡ 1 → name d ≡ get_or own 0 0 →
      IsOwn rest name own (Free d)
  own-free own d n e = list-one own n ∙ ap (λ z. z ∷ []) (sym e)

  -- of two colours one is to come
  one-own : (a b d : ℕ) (own : List ℕ) → different own ≡ 2 → name d ≡ a → holds a own ≡ true →
      ((x : ℕ) → holds x own ≡ true → (x ≡ a) ⊎ (x ≡ b)) → holds b colours ≡ false →
      IsOwn rest name own (One d)
  one-own a b d own two e h cases none = (
    two,
    subst (λ z. holds z own ≡ true) (sym e) h,
    λ i l k. elim (cases (colour_at rest i) k) [
      | inl q ↦ eq-eqb (colour_at rest i) (name d) (q ∙ sym e)
      | inr q ↦ absurd (clash (eqb (colour_at rest i) b) (eq-eqb (colour_at rest i) b q)
          (absent b none i l))
    ],
  )

  -- two colours
  module _ (own : List ℕ) (n : length own ≡ 2) (two : length own ≡ different own) where
    abbrev a : ℕ
    a = get_or own 0 0

    abbrev b : ℕ
    b = get_or own 1 0

    both : different own ≡ 2
    both = omega arith

    has-first : holds a own ≡ true
    has-first = held-get 0 own (omega arith)

    has-second : holds b own ≡ true
    has-second = held-get 1 own (omega arith)

    one-of : (x : ℕ) → holds x own ≡ true → (x ≡ a) ⊎ (x ≡ b)
    one-of x h = elim (or-cases (eqb x a) (holds x (b ∷ [])) (subst (λ z. holds x z ≡ true)
        (list-two own n) h)) [
          | inl e ↦ inl (eqb-true x a e)
          | inr k ↦ elim (or-cases (eqb x b) false k) [
            | inl e ↦ inr (eqb-true x b e)
            | inr f ↦ absurd (clash false f refl)
          ]
        ]

    other-of : (x : ℕ) → holds x own ≡ true → (x ≡ b) ⊎ (x ≡ a)
    other-of x h = elim (one-of x h) [ inl e ↦ inr e | inr e ↦ inl e ]

    pub own-first : (d : ℕ) → name d ≡ a → holds b colours ≡ false → IsOwn rest name own (One d)
    own-first d e none = one-own a b d own both e has-first one-of none

    pub own-second : (d : ℕ) → name d ≡ b → holds a colours ≡ false → IsOwn rest name own (One d)
    own-second d e none = one-own b a d own both e has-second other-of none

    pub own-two : (d e : ℕ) → name d ≡ a → name e ≡ b → IsOwn rest name own (Two d e)
    own-two d e p q = (
      both,
      subst (λ z. holds z own ≡ true) (sym p) has-first,
      subst (λ z. holds z own ≡ true) (sym q) has-second,
    )

    apart : a ≡ b → ⊥
    apart q =
        let e : own ≡ a ∷ a ∷ [] = list-two own n ∙ ap (λ z. a ∷ z ∷ []) (sym q) in
        let f : different (a ∷ a ∷ []) ≡ 1 = rw (holds-first a []) refl in
        let g : different own ≡ different (a ∷ a ∷ []) = ap different e in
        absurd (omega arith)

    pub held-two : (d e : ℕ) → name d ≡ a → name e ≡ b → d < length colours →
        e < length colours → IsHeld (below (length colours)) (Two d e)
    held-two d e p q h k = (
      below-holds d (length colours) h,
      but-more d e (below (length colours))
          (ne_eqb e d (λ s. apart (sym p ∙ ap name (sym s) ∙ q)))
          (below-holds e (length colours) k),
    )

    pub own-full : holds a colours ≡ false → holds b colours ≡ false → IsOwn rest name own Full
    own-full h k = (both, λ i l. lacks i l (holds (colour_at rest i) own) refl)
      where
        lacks : (i : ℕ) → i < length rest → (v : Bool) → holds (colour_at rest i) own ≡ v →
            holds (colour_at rest i) own ≡ false
        lacks i l false e = e
        lacks i l true e = elim (one-of (colour_at rest i) e) [
          | inl q ↦ absurd (clash (eqb (colour_at rest i) a) (eq-eqb (colour_at rest i) a q)
              (absent a h i l))
          | inr q ↦ absurd (clash (eqb (colour_at rest i) b) (eq-eqb (colour_at rest i) b q)
              (absent b k i l))
        ]

pub two-long : (n : ℕ) → 0 < n → n ≤ 2 → n ≢ 1 → n ≡ 2
two-long zero h k m = absurd (omega arith)
two-long (suc zero) h k m = absurd (m refl)
two-long (suc (suc zero)) h k m = refl
two-long (suc (suc (suc n))) h k m = absurd (omega arith)

-- a number that stands nowhere in a list
lacks-all : (xs : List ℕ) (x : ℕ) → ((k : ℕ) → k < length xs → get_or xs k 0 ≢ x) →
    holds x xs ≡ false
lacks-all [] x h = refl
lacks-all (y ∷ xs) x h =
    let e : eqb x y ≡ false = ne_eqb x y (λ q. h 0 (omega arith) (sym q)) in
    rw e (lacks-all xs x (λ k b. h (suc k) (omega arith)))

-- where a search ended
pub at-place : (colours : List ℕ) (colour c : ℕ) → c < length colours →
    get_or colours c 0 ≡ colour → IsPlaceOf colours colour (Some c)
at-place colours colour c here is = record {
  found = λ d e. subst (λ n. n < length colours) (same d e) here;
  is = λ d e. subst (λ n. get_or colours n 0 ≡ colour) (same d e) is;
  none = λ e. absurd (some-none e);
}
  where
    same : (d : ℕ) → Some c ≡ Some d → c ≡ d
    same d e = cc

    some-none : Some c ≡ None → ⊥
    some-none e = cc

pub at-no-place : (colours : List ℕ) (colour : ℕ) →
    ((k : ℕ) → k < length colours → get_or colours k 0 ≢ colour) → IsPlaceOf colours colour None
at-no-place colours colour other = record {
  found = λ d e. absurd (none-some d e);
  is = λ d e. absurd (none-some d e);
  none = λ _. lacks-all colours colour other;
}
  where
    none-some : (d : ℕ) → None ≡ Some d → ⊥
    none-some d e = cc

-- What the tables hold inside is what is seen of them, so what a search found among the colours
-- inside says by which number, if any, the tables know a colour.
module _ {inside orders : PricedOrders} {runs : Runs} {rows : Rows} {paid : List ℤ}
    (are : AreTables inside runs rows paid) (is : inside ≡ orders) where
  known : (i : ℕ) → i < length inside.rest →
      holds (colour_at inside.rest i)
      (map (λ c. get_or inside.colours c 0) (below (length inside.colours))) ≡ true
  known = subst (λ xs. (i : ℕ) → i < length inside.rest →
      holds (colour_at inside.rest i) (map (λ c. get_or inside.colours c 0) xs) ≡ true)
      are.present are.row_tables.all

  module _ {list : List ℕ} (here : list ≡ inside.colours) where
    place-inside : {colour : ℕ} {place : Option ℕ} → IsPlaceOf list colour place →
        IsPlaceOf inside.colours colour place
    place-inside {colour} {place} found = subst (λ xs. IsPlaceOf xs colour place) here found

    -- each order has a colour of the tables
    pub order-known : (i : ℕ) (order : Order) → i < length orders.rest →
        order ≡ get_or orders.rest i nobody → IsPlaceOf list order.colour None → ⊥
    order-known i order below is_order found =
        let within : i < length inside.rest =
        subst (λ (o : PricedOrders). i < length o.rest) (sym is) below in
        let same : order ≡ get_or inside.rest i nobody =
        subst (λ (o : PricedOrders). order ≡ get_or o.rest i nobody) (sym is) is_order in
        let x : ℕ = colour_at inside.rest i in
        clash (eqb x x) (eq-eqb x x refl)
        (absent inside.rest inside.colours known x
        (subst (λ (o : Order). holds o.colour inside.colours ≡ false) same
        ((place-inside found).none refl)) i within)

    pub place-held : {colour : ℕ} {place : Option ℕ} (c : ℕ) → IsPlaceOf list colour place →
        place ≡ Some c → holds c (below (length orders.colours)) ≡ true
    place-held c found at =
        subst (λ (o : PricedOrders). holds c (below (length o.colours)) ≡ true) is
        (below-holds c (length inside.colours) ((place-inside found).found c at))

    pub bare-known : {slab : List ℕ} {place : Option ℕ} → length slab ≡ 1 →
        IsPlaceOf list (get_or slab 0 0) place → place ≡ None →
        IsOwn orders.rest (colour_of orders) slab Bare
    bare-known {slab} one found nowhere =
        subst (λ (o : PricedOrders). IsOwn o.rest (colour_of o) slab Bare) is
        (own-bare inside.rest inside.colours known slab one
        ((place-inside found).none nowhere))

  -- of two colours
  module _ {list others : List ℕ} (here : list ≡ inside.colours) (there : others ≡ inside.colours)
      (slab : List ℕ) {first second : Option ℕ} (some : 0 < length slab) (few : length slab ≤ 2)
      (not_one : length slab ≢ 1) (apart : length slab ≡ different slab)
      (one : IsPlaceOf list (get_or slab 0 0) first)
      (other : IsPlaceOf others (get_or slab 1 0) second) where
    two : length slab ≡ 2
    two = two-long (length slab) some few not_one

    pub two-held : (c d : ℕ) → first ≡ Some c → second ≡ Some d →
        IsHeld (below (length orders.colours)) (Two c d)
    two-held c d p q =
        subst (λ (o : PricedOrders). IsHeld (below (length o.colours)) (Two c d)) is
        (held-two inside.rest inside.colours known slab two apart c d
        ((place-inside here one).is c p) ((place-inside there other).is d q)
        ((place-inside here one).found c p) ((place-inside there other).found d q))

    pub first-known : (c : ℕ) → first ≡ Some c → second ≡ None →
        IsOwn orders.rest (colour_of orders) slab (One c)
    first-known c p q =
        subst (λ (o : PricedOrders). IsOwn o.rest (colour_of o) slab (One c)) is
        (own-first inside.rest inside.colours known slab two apart c
        ((place-inside here one).is c p) ((place-inside there other).none q))

    pub second-known : (d : ℕ) → first ≡ None → second ≡ Some d →
        IsOwn orders.rest (colour_of orders) slab (One d)
    second-known d p q =
        subst (λ (o : PricedOrders). IsOwn o.rest (colour_of o) slab (One d)) is
        (own-second inside.rest inside.colours known slab two apart d
        ((place-inside there other).is d q) ((place-inside here one).none p))

    pub neither-known : first ≡ None → second ≡ None →
        IsOwn orders.rest (colour_of orders) slab Full
    neither-known p q =
        subst (λ (o : PricedOrders). IsOwn o.rest (colour_of o) slab Full) is
        (own-full inside.rest inside.colours known slab two apart ((place-inside here one).none p)
        ((place-inside there other).none q))
