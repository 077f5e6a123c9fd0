-- What the tables of the rows are, once a colour is paid for.
use Rattle.std.proofs.Common.{ℕ, zero, suc, ◌<◌, ◌≤◌, ◌≡◌, Bool, true, false, not, ◌&&◌, List, []}
use Rattle.std.proofs.Common.{◌∷◌}
use Rattle.std.proofs.Common.{◌++◌, map, take, length, set, ℤ, pos, ◌+ℤ◌, ◌≤ℤ◌, Option, eqb}
use Rattle.std.proofs.Common.{eqb-true, eq-eqb, ne_eqb}
use Rattle.std.proofs.Common.{refl, sym, ap, ◌∙◌, subst, arith, inl, inr}
use Rattle.std.proofs.lemmas.List.{get_or-take}
use Rattle.std.specs.Int.{int_max}
use Rattle.list_laws.specs.Sets.{chosen, int_sum, holds, different}
use Rattle.mill_model.specs.Bounds.{in_set}
use Rattle.mill_model.specs.declared.order.Order.{Order}
use Rattle.list_laws.proofs.Tests.{either, or-cases, or-left, or-right}
use Rattle.list_laws.proofs.Different.{different-mono, holds-append}
use Rattle.list_laws.proofs.Tests.{and-left, and-right}
use Rattle.set_minima.specs.Packs.{colour_at, colours_in, Packs, IsTop, IsBest, IsTable}
use Rattle.set_minima.specs.Joins.{AreOrders}
use Rattle.set_minima.proofs.Places.{place-colour, colour-place}
use Rattle.list_laws.proofs.Tests.{clash}
use Rattle.set_minima.proofs.Tops.{top-same}
use Rattle.set_minima.proofs.OneColour.{layer-start}
use Rattle.set_minima.specs.Cells.{found, cell}
use Rattle.colour_tables.specs.Entries.{entry}
use Rattle.colour_tables.specs.Threes.{insert, three, but, once, IsButOne, IsButTwo, column}
use Rattle.colour_tables.specs.Colours.{of_colour, of_colours, IsUnion}
use Rattle.set_minima.proofs.CellNumbers.{found-max}
use Rattle.colour_tables.proofs.ThreeGreatest.{three-front, three-sorted, but-holds, one-out}
use Rattle.colour_tables.proofs.ThreeGreatest.{two-out}
use Rattle.colour_tables.proofs.ColoursUnited.{inside, best-union, best-of-colours, load-zero}
use Rattle.colour_tables.proofs.RunsLetIn.{not-true}

-- A price that no allowed set has.

pub top-values : (P : List Bool → Type 0) (f g : List Bool → ℤ) (b : Option ℤ) →
    ((m : List Bool) → P m → g m ≡ f m) → IsTop P f b → IsTop P g b
top-values P f g b e h = record {
  none = h.none;
  some = λ v q. (let r = h.some v q in (r.0, r.1, r.2 ∙ sym (e r.0 r.1)));
  most = λ v q m p. subst (λ z. z ≤ℤ v) (sym (e m p)) (h.most v q m p);
}

pub sum-unset : (j : ℕ) (m : List Bool) (ys : List ℤ) (v : ℤ) → in_set j m ≡ false →
    int_sum (chosen m (set ys j v)) ≡ int_sum (chosen m ys)
sum-unset j [] ys v h = refl
sum-unset j (b ∷ m) [] v h = refl
sum-unset zero (true ∷ m) (y ∷ ys) v h = absurd (clash true refl h)
sum-unset zero (false ∷ m) (y ∷ ys) v h = refl
sum-unset (suc j) (true ∷ m) (y ∷ ys) v h = ap (λ z. y +ℤ z) (sum-unset j m ys v h)
sum-unset (suc j) (false ∷ m) (y ∷ ys) v h = sum-unset j m ys v h

pub table-price : (rest : List Order) (prices : List ℤ) (A : ℕ → Bool) (own : List ℕ)
    (k width : ℕ) (best : ℕ → Option ℤ) (j : ℕ) (v : ℤ) → A j ≡ false →
    IsTable A own k rest prices width best → IsTable A own k rest (set prices j v) width best
table-price rest prices A own k width best j v h p l b =
    top-values (Packs A own k rest l) (λ m. int_sum (chosen m prices))
    (λ m. int_sum (chosen m (set prices j v))) (best l)
    (λ m q. sum-unset j m prices v (unset m q (in_set j m) refl)) (p l b)
  where
    unset : (m : List Bool) → Packs A own k rest l m → (b : Bool) → in_set j m ≡ b →
        in_set j m ≡ false
    unset m q true e = absurd (clash (A j) (q.fine j e) h)
    unset m q false e = e

-- A list without a thing, and the names of its things.

pub but-less : (c d : ℕ) (cs : List ℕ) → holds d (but c cs) ≡ true →
    (eqb d c ≡ false) × (holds d cs ≡ true)
but-less c d cs h =
    let e : (not (eqb d c) && holds d cs) ≡ true = sym (but-holds c d cs) ∙ h in (
      not-true (eqb d c) (and-left (not (eqb d c)) (holds d cs) e),
      and-right (not (eqb d c)) (holds d cs) e,
    )

pub but-more : (c d : ℕ) (cs : List ℕ) → eqb d c ≡ false → holds d cs ≡ true →
    holds d (but c cs) ≡ true
but-more c d cs n h = but-holds c d cs ∙ rw (n, h) refl

module _ (name : ℕ → ℕ) where
  pub held-name : (c : ℕ) (cs : List ℕ) → holds c cs ≡ true → holds (name c) (map name cs) ≡ true
  held-name c [] h = absurd (clash false h refl)
  held-name c (d ∷ ds) h = elim (or-cases (eqb c d) (holds c ds) h) [
    | inl e ↦ or-left (eqb (name c) (name d)) _ (eq-eqb (name c) (name d)
        (ap name (eqb-true c d e)))
    | inr k ↦ or-right (eqb (name c) (name d)) _ (held-name c ds k)
  ]

  pub name-held : (x : ℕ) (cs : List ℕ) → holds x (map name cs) ≡ true →
      (c : ℕ) × (holds c cs ≡ true) × (name c ≡ x)
  name-held x [] h = absurd (clash false h refl)
  name-held x (d ∷ ds) h = elim (or-cases (eqb x (name d)) (holds x (map name ds)) h) [
    | inl e ↦ (d, or-left (eqb d d) _ (eq-eqb d d refl), sym (eqb-true x (name d) e))
    | inr k ↦ (let r = name-held x ds k in (r.0, or-right (eqb r.0 d) _ r.1, r.2))
  ]

  once-parts : (d : ℕ) (ds : List ℕ) → once (map name (d ∷ ds)) ≡ true →
      (holds (name d) (map name ds) ≡ false) × (once (map name ds) ≡ true)
  once-parts d ds o = (
    not-true (holds (name d) (map name ds))
        (and-left (not (holds (name d) (map name ds))) (once (map name ds)) o),
    and-right (not (holds (name d) (map name ds))) (once (map name ds)) o,
  )

  pub once-names : (cs : List ℕ) → once (map name cs) ≡ true → once cs ≡ true
  once-names [] o = refl
  once-names (d ∷ ds) o =
      let p = once-parts d ds o in
      rw (absent (holds d ds) refl p.0) (once-names ds p.1)
    where
      absent : (b : Bool) → holds d ds ≡ b → holds (name d) (map name ds) ≡ false →
          holds d ds ≡ false
      absent false e n = e
      absent true e n = absurd (clash (holds (name d) (map name ds)) (held-name d ds e) n)

  -- things of one name are one thing
  pub same-name : (c d : ℕ) (cs : List ℕ) → once (map name cs) ≡ true → holds c cs ≡ true →
      holds d cs ≡ true → name c ≡ name d → c ≡ d
  same-name c d [] o h k e = absurd (clash false h refl)
  same-name c d (x ∷ xs) o h k e =
      let p = once-parts x xs o in
      elim (or-cases (eqb c x) (holds c xs) h) [
        | inl a ↦ elim (or-cases (eqb d x) (holds d xs) k) [
          | inl b ↦ eqb-true c x a ∙ sym (eqb-true d x b)
          | inr b ↦ absurd (clash (holds (name x) (map name xs))
              (subst (λ z. holds z (map name xs) ≡ true) (sym e ∙ ap name (eqb-true c x a))
              (held-name d xs b)) p.0)
        ]
        | inr a ↦ elim (or-cases (eqb d x) (holds d xs) k) [
          | inl b ↦ absurd (clash (holds (name x) (map name xs))
              (subst (λ z. holds z (map name xs) ≡ true) (e ∙ ap name (eqb-true d x b))
              (held-name c xs a)) p.0)
          | inr b ↦ same-name c d xs p.1 a b e
        ]
      ]

  pub but-once : (c : ℕ) (cs : List ℕ) → once (map name cs) ≡ true →
      once (map name (but c cs)) ≡ true
  but-once c [] o = refl
  but-once c (d ∷ ds) o =
      let p = once-parts d ds o in
      elim (either (eqb d c)) [
        | inl q ↦ rw q (but-once c ds p.1)
        | inr q ↦ rw q (rw (fewer (holds (name d) (map name (but c ds))) refl p.0)
            (but-once c ds p.1))
      ]
    where
      fewer : (b : Bool) → holds (name d) (map name (but c ds)) ≡ b →
          holds (name d) (map name ds) ≡ false → holds (name d) (map name (but c ds)) ≡ false
      fewer false e n = e
      fewer true e n =
          let r = name-held (name d) (but c ds) e in
          absurd (clash (holds (name d) (map name ds))
          (subst (λ z. holds z (map name ds) ≡ true) r.2
          (held-name r.0 ds (but-less c r.0 ds r.1).1)) n)

  -- the others have other names
  pub but-other : (x c : ℕ) (cs : List ℕ) → once (map name cs) ≡ true → holds c cs ≡ true →
      holds x (map name (but c cs)) ≡ true → (eqb x (name c) ≡ false)
      × (holds x (map name cs) ≡ true)
  but-other x c cs o h k =
      let r = name-held x (but c cs) k in
      let q = but-less c r.0 cs r.1 in (
        ne_eqb x (name c) (λ e. clash (eqb r.0 c) (eq-eqb r.0 c
            (same-name r.0 c cs o q.1 h (r.2 ∙ e))) q.0),
        subst (λ z. holds z (map name cs) ≡ true) r.2 (held-name r.0 cs q.1),
      )

  pub but-rest : (x c : ℕ) (cs : List ℕ) → eqb x (name c) ≡ false →
      holds x (map name cs) ≡ true → holds x (map name (but c cs)) ≡ true
  but-rest x c cs n h =
      let r = name-held x cs h in
      subst (λ z. holds z (map name (but c cs)) ≡ true) r.2
      (held-name r.0 (but c cs) (but-more c r.0 cs
      (ne_eqb r.0 c (λ q. clash (eqb x (name c)) (eq-eqb x (name c) (sym r.2 ∙ ap name q)) n))
      r.1))

-- The tables.

module _ (rest : List Order) (prices : List ℤ) (orders : AreOrders rest) (width : ℕ)
    (name : ℕ → ℕ) (f : ℕ → ℕ → ℤ) where
  -- a row is the best of the sets of a colour alone
  abbrev pub Rows : List ℕ → Type 0
  Rows cs = (c : ℕ) → holds c cs ≡ true →
      IsTable (of_colour rest (name c)) (name c ∷ []) 1 rest prices width (λ l. found (f l c))

  pub rows-but : (c : ℕ) (cs : List ℕ) → Rows cs → Rows (but c cs)
  rows-but c cs h d k = h d (but-less c d cs k).1

  pub table-of-colours : (cs : List ℕ) (n : ℕ) (to : List ℤ) → once (map name cs) ≡ true →
      Rows cs → n ≤ width → entry to 0 ≡ pos 0 →
      ((l : ℕ) → 0 < l → l < n → entry to l ≡ (three (f l) cs).best) →
      IsTable (of_colours rest (map name cs)) [] 1 rest prices n (cell to)
  table-of-colours cs n to o rows w first e zero b =
      subst (λ z. IsBest (of_colours rest (map name cs)) [] 1 rest prices 0 (found z)) (sym first)
      (load-zero rest orders (of_colours rest (map name cs)) [] 1 prices (omega arith))
  table-of-colours cs n to o rows w first e (suc l) b =
      subst (λ z. IsBest (of_colours rest (map name cs)) [] 1 rest prices (suc l) (found z))
      (sym (e (suc l) (omega arith) b))
      (best-of-colours rest orders prices l name (f (suc l)) cs o
      (λ c h. rows c h (suc l) (omega arith)))

  -- the greatest but for one row
  pub others-table : (c : ℕ) (cs : List ℕ) (n : ℕ) (to best second third : List ℤ) →
      once (map name cs) ≡ true → holds c cs ≡ true → Rows cs → n ≤ width →
      entry to 0 ≡ pos 0 →
      ((l : ℕ) → 0 < l → l < n → column best second third l ≡ three (f l) cs) →
      ((l : ℕ) → 0 < l → l < n →
      IsButOne (f l c) (entry best l) (entry second l) (entry to l)) →
      IsTable (of_colours rest (map name (but c cs))) [] 1 rest prices n (cell to)
  others-table c cs n to best second third o h rows w first tops e =
      table-of-colours (but c cs) n to (but-once name c cs o) (rows-but c cs rows) w first
      (λ l a b. one-out (f l c) (entry to l) (column best second third l)
      (three (f l) (but c cs)) (three-sorted (f l) (but c cs))
      (tops l a b ∙ three-front (f l) c cs (once-names name cs o) h) (e l a b))

  -- with the sets of a table of one more colour
  pub joined-table : (A B C : ℕ → Bool) (c n : ℕ) (to z : List ℤ) → IsUnion rest A B C c →
      entry to 0 ≡ pos 0 → IsTable B (c ∷ []) 1 rest prices n (cell z) →
      ((l : ℕ) → 0 < l → l < n → (w : ℤ) × IsBest A [] 1 rest prices l (found w)
      × (entry to l ≡ int_max w (entry z l))) → IsTable C [] 1 rest prices n (cell to)
  joined-table A B C c n to z u first k e zero b =
      subst (λ v. IsBest C [] 1 rest prices 0 (found v)) (sym first)
      (load-zero rest orders C [] 1 prices (omega arith))
  joined-table A B C c n to z u first k e (suc l) b =
      let r = e (suc l) (omega arith) b in
      subst (λ v. IsBest C [] 1 rest prices (suc l) v)
      (sym (ap found r.2 ∙ found-max r.0 (entry z (suc l))))
      (best-union rest A B C c u prices (suc l) (found r.0) (cell z (suc l)) r.1 (k (suc l) b))

  -- the greatest but for one row, or but for two, at one load
  pub but-one-best : (c : ℕ) (cs : List ℕ) (l : ℕ) (w : ℤ) (best second third : List ℤ) →
      once (map name cs) ≡ true → holds c cs ≡ true → Rows cs → 0 < l → l < width →
      column best second third l ≡ three (f l) cs →
      IsButOne (f l c) (entry best l) (entry second l) w →
      IsBest (of_colours rest (map name (but c cs))) [] 1 rest prices l (found w)
  but-one-best c cs zero w best second third o h rows a b tops e = absurd (omega arith)
  but-one-best c cs (suc l) w best second third o h rows a b tops e =
      subst (λ z. IsBest (of_colours rest (map name (but c cs))) [] 1 rest prices (suc l) (found z))
      (sym (one-out (f (suc l) c) w (column best second third (suc l))
      (three (f (suc l)) (but c cs)) (three-sorted (f (suc l)) (but c cs))
      (tops ∙ three-front (f (suc l)) c cs (once-names name cs o) h) e))
      (best-of-colours rest orders prices l name (f (suc l)) (but c cs) (but-once name c cs o)
      (λ d k. rows-but c cs rows d k (suc l) b))

  pub but-two-best : (c d : ℕ) (cs : List ℕ) (l : ℕ) (w : ℤ) (best second third : List ℤ) →
      once (map name cs) ≡ true → holds c cs ≡ true → holds d (but c cs) ≡ true → Rows cs →
      0 < l → l < width → column best second third l ≡ three (f l) cs →
      IsButTwo (f l c) (f l d) (entry best l) (entry second l) (entry third l) w →
      IsBest (of_colours rest (map name (but d (but c cs)))) [] 1 rest prices l (found w)
  but-two-best c d cs zero w best second third o h k rows a b tops e = absurd (omega arith)
  but-two-best c d cs (suc l) w best second third o h k rows a b tops e =
      subst (λ z. IsBest (of_colours rest (map name (but d (but c cs)))) [] 1 rest prices (suc l)
      (found z))
      (sym (two-out (f (suc l) c) (f (suc l) d) w (column best second third (suc l))
      (three (f (suc l)) (but d (but c cs))) (three-sorted (f (suc l)) (but d (but c cs)))
      (tops ∙ three-front (f (suc l)) c cs (once-names name cs o) h
      ∙ ap (insert (f (suc l) c)) (three-front (f (suc l)) d (but c cs)
      (once-names name (but c cs) (but-once name c cs o)) k)) e))
      (best-of-colours rest orders prices l name (f (suc l)) (but d (but c cs))
      (but-once name d (but c cs) (but-once name c cs o))
      (λ x q. rows-but d (but c cs) (rows-but c cs rows) x q (suc l) b))

-- A colour that no allowed order has is paid for.
pub paid-table : (rest : List Order) (prices : List ℤ) (A : ℕ → Bool) (c width : ℕ)
    (best : ℕ → Option ℤ) →
    ((i : ℕ) → i < length rest → A i ≡ true → eqb (colour_at rest i) c ≡ false) →
    IsTable A [] 1 rest prices width best → IsTable A (c ∷ []) 2 rest prices width best
paid-table rest prices A c width best n p l b =
    layer-start rest A A [] c (record {
      new = n;
      kept = λ i b a. a;
      only = λ i b a e. a;
    }) refl prices 1 l (best l) (p l b)

-- Allowed orders have own colours alone, so it does not matter which others are paid for.
pub own-table : (rest : List Order) (prices : List ℤ) (A : ℕ → Bool) (own own' : List ℕ)
    (k k' width : ℕ) (best : ℕ → Option ℤ) → different own ≤ k → different own' ≤ k' →
    ((i : ℕ) → i < length rest → A i ≡ true → holds (colour_at rest i) own ≡ true) →
    ((i : ℕ) → i < length rest → A i ≡ true → holds (colour_at rest i) own' ≡ true) →
    IsTable A own k rest prices width best → IsTable A own' k' rest prices width best
own-table rest prices A own own' k k' width best d d' e e' p l b =
    top-same (Packs A own k rest l) (Packs A own' k' rest l) (λ m. int_sum (chosen m prices))
    (best l) (λ m q. change own own' k k' d' e' m q) (λ m q. change own' own k' k d e m q) (p l b)
  where
    change : (own own' : List ℕ) (k k' : ℕ) → different own' ≤ k' →
        ((i : ℕ) → i < length rest → A i ≡ true → holds (colour_at rest i) own' ≡ true) →
        (m : List Bool) → Packs A own k rest l m → Packs A own' k' rest l m
    change own own' k k' d e m q = record {
      long = q.long;
      weighs = q.weighs;
      fine = q.fine;
      few =
          let s : different (own' ++ colours_in m rest) ≤ different own' =
          different-mono (own' ++ colours_in m rest) own' (λ x h. elim (or-cases (holds x own')
          (holds x (colours_in m rest)) (sym (holds-append x own' (colours_in m rest)) ∙ h)) [
            | inl a ↦ a
            | inr a ↦ (let r = colour-place x m rest a in
                subst (λ z. holds z own' ≡ true) r.3 (e r.0 r.2 (q.fine r.0 r.1)))
          ]) in
          omega arith;
    }

-- Where all colours are spent, orders of other colours are in no set.
pub full-table : (rest : List Order) (prices : List ℤ) (A B : ℕ → Bool) (own : List ℕ)
    (k width : ℕ) (best : ℕ → Option ℤ) → k ≡ different own →
    ((i : ℕ) → i < length rest → A i ≡ true → B i ≡ true) →
    ((i : ℕ) → i < length rest → B i ≡ true → holds (colour_at rest i) own ≡ true → A i ≡ true) →
    IsTable A own k rest prices width best → IsTable B own k rest prices width best
full-table rest prices A B own k width best full more less p l b =
    top-same (Packs A own k rest l) (Packs B own k rest l) (λ m. int_sum (chosen m prices))
    (best l)
    (λ m q. record {
      long = q.long;
      weighs = q.weighs;
      fine = λ i e. more i (inside rest A own k l i m q e) (q.fine i e);
      few = q.few;
    })
    (λ m q. record {
      long = q.long;
      weighs = q.weighs;
      fine = λ i e.
          less i (inside rest B own k l i m q e) (q.fine i e)
          (owned m q (colour_at rest i) (holds (colour_at rest i) own) refl
          (place-colour i m rest e (inside rest B own k l i m q e)));
      few = q.few;
    }) (p l b)
  where
    owned : (m : List Bool) → Packs B own k rest l m → (x : ℕ) (v : Bool) → holds x own ≡ v →
        holds x (colours_in m rest) ≡ true → holds x own ≡ true
    owned m q x true e h = e
    owned m q x false e h =
        let d : different (x ∷ own) ≤ different (own ++ colours_in m rest) =
        different-mono (x ∷ own) (own ++ colours_in m rest)
        (λ y g. holds-append y own (colours_in m rest) ∙ elim (or-cases (eqb y x) (holds y own) g) [
          | inl s ↦ or-right (holds y own) _ (subst (λ z. holds z (colours_in m rest) ≡ true)
              (sym (eqb-true y x s)) h)
          | inr s ↦ or-left (holds y own) _ s
        ]) in
        let t : suc (different own) ≤ different (own ++ colours_in m rest) = rw e at d in
        let f : different (own ++ colours_in m rest) ≤ k = q.few in
        absurd (omega arith)

-- the front of a row
pub front-table : (rest : List Order) (prices : List ℤ) (A : ℕ → Bool) (own : List ℕ)
    (k width n : ℕ) (f : ℕ → ℕ → ℤ) (d : ℕ) (row table : List ℤ) → n ≤ width →
    table ≡ take n row → ((l : ℕ) → l < width → entry row l ≡ f l d) →
    IsTable A own k rest prices width (λ l. found (f l d)) →
    IsTable A own k rest prices n (cell table)
front-table rest prices A own k width n f d row table w e r p l b =
    subst (λ z. IsBest A own k rest prices l (found z))
    (sym (ap (λ (xs : List ℤ). entry xs l) e ∙ get_or-take n row l (pos 0) b ∙ r l (omega arith)))
    (p l (omega arith))
