-- A new price of an order changes the row of its colour alone.
use Rattle.std.proofs.Common.{ℕ, suc, ◌+◌, ◌-◌, ◌*◌, ◌<◌, ◌≤◌, ◌≡◌, ◌≢◌, ◌⊎◌, Bool, true, false}
use Rattle.std.proofs.Common.{not, ◌&&◌, List, [], ◌∷◌, length, map, get_or, set, ℤ, pos, eqb}
use Rattle.std.proofs.Common.{eq-eqb, ne_eqb}
use Rattle.std.proofs.Common.{refl, sym, ap, ap₂, ◌∙◌, subst, arith, inl, inr, length-set}
use Rattle.std.proofs.lemmas.Bool.{cases_lt}
use Rattle.std.proofs.lemmas.List.{get_or-set_same}
use Rattle.std.proofs.Math.Nat.{mul-le-mul_right}
use Rattle.list_laws.specs.Sets.{holds}
use Rattle.mill_model.specs.declared.order.Order.{Order}
use Rattle.list_laws.proofs.Tests.{and-left}
use Rattle.set_minima.specs.Packs.{nobody, colour_at, IsTable, IsBest, IsNext}
use Rattle.colour_tables.specs.Entries.{entry}
use Rattle.set_minima.specs.Cells.{cell, found, IsNear, AreNear}
use Rattle.colour_tables.specs.Threes.{row_entry, once, AreWithin, AreTops}
use Rattle.colour_tables.specs.Colours.{of_colour, but_order}
use Rattle.colour_tables.specs.Rowed.{IsShaped, AreRows}
use Rattle.set_minima.specs.Joins.{AreOrders}
use Rattle.colour_tables.specs.declared.colour_rows.Rows.{Rows}
use Rattle.set_minima.proofs.OneCell.{raised}
use Rattle.set_minima.proofs.WholeTables.{table-adds}
use Rattle.colour_tables.proofs.RunsLetIn.{self-holds}
use Rattle.colour_tables.proofs.ColoursPaid.{table-price, same-name}
use Rattle.colour_tables.specs.Entries.{row_limit}

-- an order is let in to those of its colour
own-next : (rest : List Order) (x j : ℕ) → colour_at rest j ≡ x →
    IsNext (but_order rest x j) (of_colour rest x) j
own-next rest x j at = record {
  new = new (eqb (colour_at rest j) x);
  now = eq-eqb (colour_at rest j) x at;
  kept = λ i h. and-left (eqb (colour_at rest i) x) (not (eqb i j)) h;
  only = λ i h n. rw (h, n) refl;
}
  where
    new : (b : Bool) → (b && not (eqb j j)) ≡ false
    new true = rw (eq-eqb j j refl) refl
    new false = refl

-- the new row
pub new-row : (rest : List Order) (prices : List ℤ) (x j weight : ℕ) (price : ℤ)
    (old now : List ℤ) (n : ℕ) → length prices ≡ length rest → j < length rest →
    colour_at rest j ≡ x → weight ≡ (get_or rest j nobody).weight → length old ≡ n →
    ((l : ℕ) → l < length old → cell now l ≡ raised weight price old l) →
    IsTable (but_order rest x j) (x ∷ []) 1 rest prices n (cell old) →
    IsTable (of_colour rest x) (x ∷ []) 1 rest (set prices j price) n (cell now)
new-row rest prices x j weight price old now n same here at w e cells p =
    subst (λ z. IsTable (of_colour rest x) (x ∷ []) 1 rest (set prices j price) z (cell now)) e
    (table-adds rest (set prices j price) (length-set prices j price ∙ same)
    (but_order rest x j) (of_colour rest x) (x ∷ []) 1 j here (own-next rest x j at)
    (subst (λ z. holds z (x ∷ []) ≡ true) (sym at) (self-holds x [])) old now
    (λ l b. cells l b ∙ ap₂ (λ v y. raised v y old l) w
    (sym (get_or-set_same prices j price (pos 0) (rw same here))))
    (subst (λ z. IsTable (but_order rest x j) (x ∷ []) 1 rest (set prices j price) z (cell old))
    (sym e) (table-price rest prices (but_order rest x j) (x ∷ []) 1 n (cell old) j price
    (new (eqb (colour_at rest j) x)) p)))
  where
    new : (b : Bool) → (b && not (eqb j j)) ≡ false
    new true = rw (eq-eqb j j refl) refl
    new false = refl

-- another row lies outside
pub outside : (w d c l : ℕ) → l < w → d ≢ c → (d * w + l < c * w) ⊎ (c * w + w ≤ d * w + l)
outside w d c l b n = elim (cases_lt d c) [
  | inl h ↦ (let m : suc d * w ≤ c * w = mul-le-mul_right w (omega arith) in
      let e : suc d * w ≡ d * w + w = once-more d w in inl (omega arith))
  | inr h ↦ elim (cases_lt c d) [
    | inl g ↦ (let m : suc c * w ≤ d * w = mul-le-mul_right w (omega arith) in
        let e : suc c * w ≡ c * w + w = once-more c w in inr (omega arith))
    | inr g ↦ absurd (n (omega arith))
  ]
]
  where
    once-more : (d w : ℕ) → suc d * w ≡ d * w + w
    once-more d w = omega arith

-- the rows with the new one
pub rows-near : (n w c : ℕ) (rows now row : List ℤ) → AreNear n rows → AreNear n row →
    ((l : ℕ) → l < w → entry now (c * w + l) ≡ entry row l) →
    ((i : ℕ) → i < c * w ⊎ c * w + w ≤ i → entry now i ≡ entry rows i) → AreNear n now
rows-near n w c rows now row h k e o i = elim (cases_lt i (c * w)) [
  | inl a ↦ subst (IsNear n) (sym (o i (inl a))) (h i)
  | inr a ↦ elim (cases_lt i (c * w + w)) [
    | inl b ↦ (let s : c * w + (i - c * w) ≡ i = omega arith in
        subst (λ z. IsNear n (entry now z)) s
        (subst (IsNear n) (sym (e (i - c * w) (omega arith))) (k (i - c * w))))
    | inr b ↦ subst (IsNear n) (sym (o i (inr (omega arith)))) (h i)
  ]
]

equal-nat : (k l : ℕ) → (k ≡ l) ⊎ (k ≢ l)
equal-nat k l = elim (cases_lt k l) [
  | inl a ↦ inr (λ q. absurd (omega arith))
  | inr a ↦ elim (cases_lt l k) [
    | inl b ↦ inr (λ q. absurd (omega arith))
    | inr b ↦ inl (omega arith)
  ]
]

pub rows-priced : (rest : List Order) (prices : List ℤ) (name : ℕ → ℕ) (t u : Rows) (c j : ℕ)
    (price : ℤ) (row : List ℤ) → AreRows rest prices name t → j < length rest →
    colour_at rest j ≡ name c → holds c t.present.items ≡ true →
    u.present.items ≡ t.present.items → u.width ≡ t.width →
    ((l : ℕ) → l < t.width → entry u.rows.items (c * t.width + l) ≡ entry row l) →
    ((i : ℕ) → i < c * t.width ⊎ c * t.width + t.width ≤ i →
    entry u.rows.items i ≡ entry t.rows.items i) →
    IsTable (of_colour rest (name c)) (name c ∷ []) 1 rest (set prices j price) t.width
    (cell row) → AreRows rest (set prices j price) name u
rows-priced rest prices name t u c j price row rows here at held p w e o n = record {
  orders = rows.orders;
  same = length-set prices j price ∙ rows.same;
  once = subst (λ xs. once (map name xs) ≡ true) (sym p) rows.once;
  rows = λ d h. subst (λ z. IsTable (of_colour rest (name d)) (name d ∷ []) 1 rest
      (set prices j price) z (λ l. found (row_entry u.rows.items z l d))) (sym w)
      (one d (subst (λ xs. holds d xs ≡ true) p h) (equal-nat d c));
  all = λ i b. subst (λ xs. holds (colour_at rest i) (map name xs) ≡ true) (sym p) (rows.all i b);
}
  where
    one : (d : ℕ) → holds d t.present.items ≡ true → (d ≡ c) ⊎ (d ≢ c) →
        IsTable (of_colour rest (name d)) (name d ∷ []) 1 rest (set prices j price) t.width
        (λ l. found (row_entry u.rows.items t.width l d))
    one d h (inl q) =
        subst (λ x. IsTable (of_colour rest (name x)) (name x ∷ []) 1 rest (set prices j price)
        t.width (λ l. found (row_entry u.rows.items t.width l x))) (sym q)
        (λ l b. subst (λ z. IsBest (of_colour rest (name c)) (name c ∷ []) 1 rest
        (set prices j price) l (found z)) (sym (e l b)) (n l b))
    one d h (inr q) =
        table-price rest prices (of_colour rest (name d)) (name d ∷ []) 1 t.width
        (λ l. found (row_entry u.rows.items t.width l d)) j price
        (ne_eqb (colour_at rest j) (name d) (λ s. q (same-name name d c t.present.items rows.once h
        held (sym s ∙ at))))
        (λ l b. subst (λ z. IsBest (of_colour rest (name d)) (name d ∷ []) 1 rest prices l
        (found z)) (sym (o (d * t.width + l) (outside t.width d c l b q))) (rows.rows d h l b))

-- the lists are still as they should be
pub shaped-made : (t u : Rows) (c : ℕ) (rows best second third row : List ℤ) → IsShaped t →
    u.width ≡ t.width → u.present.items ≡ t.present.items → u.rows.items ≡ rows →
    u.best.items ≡ best → u.second.items ≡ second → u.third.items ≡ third →
    length rows ≡ length t.rows.items → length best ≡ t.width → length second ≡ t.width →
    length third ≡ t.width → AreTops t.width t.present.items rows best second third →
    entry best 0 ≡ pos 0 → AreNear row_limit row →
    ((l : ℕ) → l < t.width → entry rows (c * t.width + l) ≡ entry row l) →
    ((i : ℕ) → i < c * t.width ⊎ c * t.width + t.width ≤ i →
    entry rows i ≡ entry t.rows.items i) → IsShaped u
shaped-made t u c rows best second third row h w p r b s x n nb ns nt tops first near e o = record {
  wide = subst (λ z. 0 < z) (sym w) h.wide;
  narrow = subst (λ z. z ≤ 20001) (sym w) h.narrow;
  within = subst (λ z. AreWithin z (length u.rows.items) u.present.items) (sym w)
      (subst (λ xs. AreWithin t.width (length u.rows.items) xs) (sym p)
      (subst (λ z. AreWithin t.width z t.present.items) (sym (ap length r ∙ n)) h.within));
  best = ap length b ∙ nb ∙ sym w;
  second = ap length s ∙ ns ∙ sym w;
  third = ap length x ∙ nt ∙ sym w;
  tops = subst (λ z. AreTops z u.present.items u.rows.items u.best.items u.second.items
      u.third.items) (sym w)
      (subst (λ z. AreTops t.width z u.rows.items u.best.items u.second.items u.third.items)
      (sym p)
      (subst (λ z. AreTops t.width t.present.items z u.best.items u.second.items u.third.items)
      (sym r)
      (subst (λ z. AreTops t.width t.present.items rows z u.second.items u.third.items) (sym b)
      (subst (λ z. AreTops t.width t.present.items rows best z u.third.items) (sym s)
      (subst (λ z. AreTops t.width t.present.items rows best second z) (sym x) tops)))));
  first = ap (λ (xs : List ℤ). entry xs 0) b ∙ first;
  near = subst (λ xs. AreNear row_limit xs) (sym r)
      (rows-near row_limit t.width c t.rows.items rows row h.near near e o);
}

-- rows that are filled anew
pub rows-filled : (rest : List Order) (prices : List ℤ) (name : ℕ → ℕ) (t u : Rows)
    (rows : List ℤ) → AreOrders rest → length prices ≡ length rest →
    once (map name t.present.items) ≡ true →
    ((i : ℕ) → i < length rest → holds (colour_at rest i) (map name t.present.items) ≡ true) →
    u.present.items ≡ t.present.items → u.width ≡ t.width → u.rows.items ≡ rows →
    ((c : ℕ) → holds c t.present.items ≡ true →
    IsTable (of_colour rest (name c)) (name c ∷ []) 1 rest prices t.width
    (λ l. found (row_entry rows t.width l c))) → AreRows rest prices name u
rows-filled rest prices name t u rows w same o all p q r h = record {
  orders = w;
  same = same;
  once = subst (λ xs. once (map name xs) ≡ true) (sym p) o;
  rows = λ c k. subst (λ z. IsTable (of_colour rest (name c)) (name c ∷ []) 1 rest prices z
      (λ l. found (row_entry u.rows.items z l c))) (sym q)
      (subst (λ z. IsTable (of_colour rest (name c)) (name c ∷ []) 1 rest prices t.width
      (λ l. found (row_entry z t.width l c))) (sym r)
      (h c (subst (λ xs. holds c xs ≡ true) p k)));
  all = λ i b. subst (λ xs. holds (colour_at rest i) (map name xs) ≡ true) (sym p) (all i b);
}
