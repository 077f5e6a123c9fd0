-- From the least over a table to the least slacks of the definitions.
use Rattle.std.proofs.Common.{ℕ, ◌+◌, ◌*◌, ◌<◌, ◌≤◌, ◌≡◌, Bool, true, false, List, [], ◌∷◌, length}
use Rattle.std.proofs.Common.{get_or, set, ℤ, pos, ◌+ℤ◌, ◌-ℤ◌, neg_ℤ, Some, int_lt, eqb}
use Rattle.std.proofs.Common.{eq-eqb}
use Rattle.std.proofs.Common.{refl, sym, ap, ◌∙◌, subst, arith, inl, inr, append-nil, length-set}
use Rattle.std.proofs.lemmas.Int.{ints}
use Rattle.std.proofs.lemmas.List.{get_or-set_same}
use Rattle.list_laws.specs.Sets.{chosen, holds, different}
use Rattle.mill_model.specs.Slab.{load}
use Rattle.mill_model.specs.Bounds.{in_set, least_on_with, least_on_without, least_new_with}
use Rattle.mill_model.specs.Prices.{least_slack}
use Rattle.mill_model.specs.declared.order.Order.{Order}
use Rattle.list_laws.proofs.Tests.{or-cases, or-left, or-right}
use Rattle.list_laws.proofs.Lists.{nothing, nothing-chosen, nothing-length}
use Rattle.mill_laws.proofs.Slacks.{nothing-in}
use Rattle.set_minima.specs.Packs.{IsTable, IsTop, nobody, colour_at, with_price}
use Rattle.set_minima.specs.Joins.{gain, Joins, Packed, IsSlab, all_places, all_but, opposite}
use Rattle.set_minima.specs.Joins.{with_colour}
use Rattle.set_minima.proofs.Places.{in-set-below}
use Rattle.list_laws.proofs.Tests.{clash}
use Rattle.set_minima.proofs.Tops.{top-same}
use Rattle.set_minima.proofs.Gains.{joins-top}
use Rattle.set_minima.proofs.Least.{on-is, without-is, new-slab}
use Rattle.set_minima.proofs.Holding.{with-is}
use Rattle.set_minima.specs.Cells.{found, cell}
use Rattle.colour_tables.specs.Leasts.{AreCharged}
use Rattle.colour_tables.specs.Leasts.{IsLeast, IsRoom, two_colours}
use Rattle.colour_tables.proofs.ColoursPaid.{sum-unset, top-values}

-- a table that reaches to the room of a slab
pub least-top : (rest : List Order) (prices : List ℤ) (charge : ℕ → ℕ) (largest base n : ℕ)
    (allowed : ℕ → Bool) (own : List ℕ) (least : ℤ) → IsRoom largest base n →
    IsTop (Packed allowed own 2 rest 0 n) (gain charge base rest prices) (found (neg_ℤ least)) →
    IsLeast rest prices charge largest base allowed own least
least-top rest prices charge largest base n allowed own least room h =
    joins-top allowed 0 largest base 2 own rest prices charge (found (neg_ℤ least)) room.fits
    (subst (λ z. IsTop (Packed allowed own 2 rest 0 z) (gain charge base rest prices)
    (found (neg_ℤ least))) room.wide h)

module _ (rest : List Order) (prices : List ℤ) (charge : ℕ → ℕ) (largest base : ℕ)
    (own : List ℕ) (least : ℤ) where
  -- the same orders by another test
  pub least-allowed : (A B : ℕ → Bool) → ((i : ℕ) → i < length rest → A i ≡ B i) →
      IsLeast rest prices charge largest base A own least →
      IsLeast rest prices charge largest base B own least
  least-allowed A B e h =
      top-same (Joins A 0 largest base own 2 rest) (Joins B 0 largest base own 2 rest)
      (gain charge base rest prices) (found (neg_ℤ least))
      (λ m p. change A B (λ i b a. sym (e i b) ∙ a) m p)
      (λ m p. change B A (λ i b a. e i b ∙ a) m p) h
    where
      change : (A B : ℕ → Bool) → ((i : ℕ) → i < length rest → A i ≡ true → B i ≡ true) →
          (m : List Bool) → Joins A 0 largest base own 2 rest m →
          Joins B 0 largest base own 2 rest m
      change A B f m p = record {
        long = p.long;
        fine = λ i a.
            let b : i < length m = in-set-below i m a in
            let n : length m ≡ length rest = p.long in
            f i (omega arith) (p.fine i a);
        above = p.above;
        fits = p.fits;
        few = p.few;
      }

  -- a price that no allowed set has
  pub least-price : (A : ℕ → Bool) (j : ℕ) (v : ℤ) → A j ≡ false →
      IsLeast rest prices charge largest base A own least →
      IsLeast rest (set prices j v) charge largest base A own least
  least-price A j v n h =
      top-values (Joins A 0 largest base own 2 rest) (gain charge base rest prices)
      (gain charge base rest (set prices j v)) (found (neg_ℤ least))
      (λ m p. ap (λ z. z -ℤ pos (60 * charge (base + load (chosen m rest))))
      (sum-unset j m prices v (unset m p (in_set j m) refl))) h
    where
      unset : (m : List Bool) → Joins A 0 largest base own 2 rest m → (b : Bool) →
          in_set j m ≡ b → in_set j m ≡ false
      unset m p true e = absurd (clash (A j) (p.fine j e) n)
      unset m p false e = e

  -- the empty set may always join, so there is a least
  empty-joins : (A : ℕ → Bool) → base ≤ largest → different own ≤ 2 →
      Joins A 0 largest base own 2 rest (nothing (length rest))
  empty-joins A f d = record {
    long = nothing-length (length rest);
    fine = λ i e. absurd (clash (in_set i (nothing (length rest))) e (nothing-in i (length rest)));
    above = omega arith;
    fits = rw (nothing-chosen (length rest) rest) (omega arith);
    few = rw (nothing-chosen (length rest) rest, append-nil) d;
  }

  pub least-found : (A : ℕ → Bool) → base ≤ largest → different own ≤ 2 →
      IsLeast rest prices charge largest base A own least →
      found (neg_ℤ least) ≡ Some (neg_ℤ least)
  least-found A f d h = go (int_lt (neg_ℤ least) (neg_ℤ (pos 2305843009213693952))) refl
    where
      go : (b : Bool) → int_lt (neg_ℤ least) (neg_ℤ (pos 2305843009213693952)) ≡ b →
          found (neg_ℤ least) ≡ Some (neg_ℤ least)
      go true q = absurd (h.none (rw q) (nothing (length rest)) (empty-joins A f d))
      go false q = rw q

  turned : Some (neg_ℤ (neg_ℤ least)) ≡ Some least
  turned = ap Some (twice least)
    where
      twice : (x : ℤ) → neg_ℤ (neg_ℤ x) ≡ x
      twice x = omega (arith, ints)

  -- over all sets
  pub slack-on : base ≤ largest → different own ≤ 2 →
      IsLeast rest prices charge largest base all_places own least → (group : List Order) →
      IsSlab group base own →
      least_slack (two_colours largest) charge group rest prices ≡ least
  slack-on f d h group of =
      let e : Some (least_slack (two_colours largest) charge group rest prices)
      ≡ opposite (found (neg_ℤ least)) =
      on-is largest 2 charge rest prices group base own of (found (neg_ℤ least)) f d h in
      same (e ∙ ap opposite (least-found all_places f d h) ∙ turned)
    where
      same : {a b : ℤ} → Some a ≡ Some b → a ≡ b
      same e = cc

  -- over the sets without an order
  pub slack-without : (j : ℕ) → base ≤ largest → different own ≤ 2 →
      IsLeast rest prices charge largest base (all_but j) own least → (group : List Order) →
      IsSlab group base own →
      least_on_without (two_colours largest) charge group rest prices j ≡ Some least
  slack-without j f d h group of =
      without-is largest 2 charge rest prices group base own of j (found (neg_ℤ least)) h
      ∙ ap opposite (least-found (all_but j) f d h) ∙ turned

-- over the sets with an order, whatever its price
pub slack-with : (rest : List Order) (prices : List ℤ) (charge : ℕ → ℕ) (largest base : ℕ)
    (own : List ℕ) (least : ℤ) (j : ℕ) (v : ℤ) → j < length rest →
    length prices ≡ length rest → base + (get_or rest j nobody).weight ≤ largest →
    different (with_colour (get_or rest j nobody).colour own) ≤ 2 →
    IsLeast rest prices charge largest (base + (get_or rest j nobody).weight) (all_but j)
    (with_colour (get_or rest j nobody).colour own) least → (group : List Order) →
    IsSlab group base own →
    least_on_with (two_colours largest) charge group rest (set prices j v) j ≡ Some (least -ℤ v)
slack-with rest prices charge largest base own least j v here same f d h group of =
    let w = (get_or rest j nobody).weight in
    let own' = with_colour (get_or rest j nobody).colour own in
    let k : all_but j j ≡ false = rw (eq-eqb j j refl) refl in
    let long : length (set prices j v) ≡ length rest = length-set prices j v ∙ same in
    with-is largest 2 charge rest (set prices j v) group base own of j here long
    (found (neg_ℤ least))
    (least-price rest prices charge largest (base + w) own' least (all_but j) j v k h)
    ∙ ap (λ b. opposite (with_price (get_or (set prices j v) j (pos 0)) b))
    (least-found rest prices charge largest (base + w) own' least (all_but j) f d h)
    ∙ ap (λ y. Some (neg_ℤ (neg_ℤ least +ℤ y))) (get_or-set_same prices j v (pos 0) (rw same here))
    ∙ ap Some (less least v)
  where
    less : (x y : ℤ) → neg_ℤ (neg_ℤ x +ℤ y) ≡ x -ℤ y
    less x y = omega (arith, ints)

-- the least over a table
pub least-over : (rest : List Order) (prices : List ℤ) (charge : ℕ → ℕ) (largest base n n' : ℕ)
    (allowed : ℕ → Bool) (own : List ℕ) (charges table : List ℤ) (least : ℤ) → n' ≡ n →
    IsRoom largest base n → AreCharged charge base n charges →
    IsTable allowed own 2 rest prices n (cell table) →
    (AreCharged charge base n' charges → IsTable allowed own 2 rest prices n' (cell table) →
    IsTop (Packed allowed own 2 rest 0 n') (gain charge base rest prices)
    (found (neg_ℤ least))) → IsLeast rest prices charge largest base allowed own least
least-over rest prices charge largest base n n' allowed own charges table least e room charged p
    top =
    least-top rest prices charge largest base n allowed own least room
    (subst (λ z. IsTop (Packed allowed own 2 rest 0 z) (gain charge base rest prices)
    (found (neg_ℤ least))) e
    (top (subst (λ z. AreCharged charge base z charges) (sym e) charged)
    (subst (λ z. IsTable allowed own 2 rest prices z (cell table)) (sym e) p)))

pub one-few : (x : ℕ) (own : List ℕ) → own ≡ x ∷ [] → different own ≤ 2
one-few x own e = rw e (omega arith)

-- the colours of a slab with an order more
pub with-old : (k : ℕ) (own : List ℕ) → holds k own ≡ true → with_colour k own ≡ own
with-old k own h = rw h refl

pub with-new : (k : ℕ) (own : List ℕ) → holds k own ≡ false → with_colour k own ≡ k ∷ own
with-new k own h = rw h refl

-- the same, with the slab's colours after it as another list
pub slack-with-own : (rest : List Order) (prices : List ℤ) (charge : ℕ → ℕ) (largest base n : ℕ)
    (own now : List ℕ) (least : ℤ) (j : ℕ) (v : ℤ) → j < length rest →
    length prices ≡ length rest → IsRoom largest (base + (get_or rest j nobody).weight) n →
    with_colour (get_or rest j nobody).colour own ≡ now → different now ≤ 2 →
    IsLeast rest prices charge largest (base + (get_or rest j nobody).weight) (all_but j) now least
    →
    (group : List Order) → IsSlab group base own →
    least_on_with (two_colours largest) charge group rest (set prices j v) j ≡ Some (least -ℤ v)
slack-with-own rest prices charge largest base n own now least j v here same room e d h =
    slack-with rest prices charge largest base own least j v here same room.fits
    (subst (λ z. different z ≤ 2) (sym e) d)
    (subst (λ z. IsLeast rest prices charge largest (base + (get_or rest j nobody).weight)
    (all_but j) z least) (sym e) h)

-- a new slab
pub slack-new-with : (rest : List Order) (prices : List ℤ) (charge : ℕ → ℕ) (largest n c : ℕ)
    (least : ℤ) (j : ℕ) (v : ℤ) → j < length rest → length prices ≡ length rest →
    (get_or rest j nobody).colour ≡ c → IsRoom largest (get_or rest j nobody).weight n →
    IsTop (Packed (all_but j) (c ∷ []) 2 rest 0 n)
    (gain charge (get_or rest j nobody).weight rest prices) (found (neg_ℤ least)) →
    least_new_with (two_colours largest) charge rest (set prices j v) j ≡ Some (least -ℤ v)
slack-new-with rest prices charge largest n c least j v here same at room top =
    let w = (get_or rest j nobody).weight in
    slack-with-own rest prices charge largest 0 n [] (c ∷ []) least j v here same
    (subst (λ z. IsRoom largest z n) (plain w) room) (ap (λ z. z ∷ []) at) (omega arith)
    (subst (λ z. IsLeast rest prices charge largest z (all_but j) (c ∷ []) least) (plain w)
    (least-top rest prices charge largest w n (all_but j) (c ∷ []) least room top)) []
    (new-slab largest 2 charge rest prices)
  where
    plain : (w : ℕ) → w ≡ 0 + w
    plain w = omega arith

-- two colours that differ
pub two-different : (a b : ℕ) → eqb a b ≡ false → different (a ∷ b ∷ []) ≡ 2
two-different a b h = rw h refl

pub holds-first : (a : ℕ) (xs : List ℕ) → holds a (a ∷ xs) ≡ true
holds-first a xs = or-left (eqb a a) (holds a xs) (eq-eqb a a refl)

pub holds-second : (a b : ℕ) → holds b (a ∷ b ∷ []) ≡ true
holds-second a b = or-right (eqb b a) _ (holds-first b [])

pub lacks-one : (a x : ℕ) → eqb a x ≡ false → holds a (x ∷ []) ≡ false
lacks-one a x h = rw h refl

-- an order of a slab with a colour that is not to come has the new colour
pub only-new : (rest : List Order) (a x : ℕ) →
    ((i : ℕ) → i < length rest → eqb (colour_at rest i) x ≡ false) → (i : ℕ) →
    i < length rest → holds (colour_at rest i) (a ∷ x ∷ []) ≡ true →
    eqb (colour_at rest i) a ≡ true
only-new rest a x none i b h = elim (or-cases (eqb (colour_at rest i) a) _ h) [
  | inl e ↦ e
  | inr e ↦ absurd (clash (holds (colour_at rest i) (x ∷ [])) e
      (lacks-one (colour_at rest i) x (none i b)))
]

-- over the sets without an order, whatever its price
pub slack-without-priced : (rest : List Order) (prices : List ℤ) (charge : ℕ → ℕ)
    (largest base : ℕ) (own : List ℕ) (least : ℤ) (j : ℕ) (v : ℤ) → base ≤ largest →
    different own ≤ 2 → IsLeast rest prices charge largest base (all_but j) own least →
    (group : List Order) → IsSlab group base own →
    least_on_without (two_colours largest) charge group rest (set prices j v) j ≡ Some least
slack-without-priced rest prices charge largest base own least j v f d h =
    let k : all_but j j ≡ false = rw (eq-eqb j j refl) refl in
    slack-without rest (set prices j v) charge largest base own least j f d
    (least-price rest prices charge largest base own least (all_but j) j v k h)
