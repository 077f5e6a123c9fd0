-- The least over the tables of a slab's own colours.
use Rattle.std.proofs.Common.{ℕ, ◌<◌, ◌≤◌, ◌≡◌, Bool, true, false, not, List, [], ◌∷◌, length, map}
use Rattle.std.proofs.Common.{take, ℤ, pos, Option, eqb}
use Rattle.std.proofs.Common.{refl, sym, ap, subst, arith, zero, suc, Some, None}
use Rattle.std.proofs.lemmas.List.{get_or-take, length-take-le}
use Rattle.list_laws.specs.Sets.{holds, different}
use Rattle.mill_model.specs.declared.order.Order.{Order}
use Rattle.list_laws.proofs.Tests.{and-left, and-right, clash}
use Rattle.set_minima.specs.Joins.{AreOrders}
use Rattle.set_minima.proofs.OneColour.{table-none, table-empty}
use Rattle.set_minima.specs.Packs.{colour_at, IsTable, IsBest}
use Rattle.set_minima.specs.Joins.{all_places, all_but}
use Rattle.set_minima.specs.Cells.{found, cell, AreNear}
use Rattle.colour_tables.specs.Entries.{entry}
use Rattle.set_minima.proofs.CellNumbers.{near-wider}
use Rattle.colour_tables.specs.Threes.{row_entry}
use Rattle.colour_tables.specs.declared.tops.Three.{Three}
use Rattle.colour_tables.specs.Colours.{of_colour, of_colours, but_order}
use Rattle.colour_tables.specs.Rowed.{IsShaped, AreRows}
use Rattle.colour_tables.specs.declared.colour_rows.Rows.{Rows}
use Rattle.set_minima.proofs.WholeTables.{table-allowed}
use Rattle.colour_tables.proofs.RunsLetIn.{self-holds}
use Rattle.colour_tables.proofs.ColoursPaid.{table-of-colours, paid-table, own-table, full-table}
use Rattle.colour_tables.proofs.AllowedByTables.{row-own}
use Rattle.colour_tables.specs.Entries.{row_limit}
use Rattle.colour_tables.specs.Entries.{table_limit}

module _ (rest : List Order) (prices : List ℤ) (name : ℕ → ℕ) (t : Rows) (shaped : IsShaped t)
    (rows : AreRows rest prices name t) (n : ℕ) (few : n ≤ t.width) where
  -- all sets of at most one colour
  pub best-table : IsTable all_places [] 1 rest prices n (cell t.best.items)
  best-table =
      table-allowed rest prices (of_colours rest (map name t.present.items)) all_places [] 1 n
      (cell t.best.items) (λ i b. rows.all i b)
      (table-of-colours rest prices rows.orders t.width name (row_entry t.rows.items t.width)
      t.present.items n t.best.items rows.once rows.rows few shaped.first
      (λ l a b. ap (λ (u : Three). u.best) (shaped.tops l a (omega arith))))

  -- a slab with one colour that is not to come
  pub bare-table : (x : ℕ) → ((i : ℕ) → i < length rest → eqb (colour_at rest i) x ≡ false) →
      IsTable all_places (x ∷ []) 2 rest prices n (cell t.best.items)
  bare-table x h =
      paid-table rest prices all_places x n (cell t.best.items) (λ i b a. h i b) best-table

-- the sets of a colour that a full slab has
pub row-table : (rest : List Order) (prices : List ℤ) (x n : ℕ) (own : List ℕ)
    (best : ℕ → Option ℤ) → different own ≡ 2 → holds x own ≡ true →
    ((i : ℕ) → i < length rest → holds (colour_at rest i) own ≡ true →
    eqb (colour_at rest i) x ≡ true) →
    IsTable (of_colour rest x) (x ∷ []) 1 rest prices n best →
    IsTable all_places own 2 rest prices n best
row-table rest prices x n own best two h only p =
    full-table rest prices (of_colour rest x) all_places own 2 n best (sym two)
    (λ i b a. refl) (λ i b a e. only i b e)
    (own-table rest prices (of_colour rest x) (x ∷ []) own 1 2 n best (omega arith) (omega arith)
    (λ i b a. row-own rest x (x ∷ []) (self-holds x []) i a)
    (λ i b a. row-own rest x own h i a) p)

-- the same without an order of that colour
pub alone-table : (rest : List Order) (prices : List ℤ) (x j n : ℕ) (own : List ℕ)
    (best : ℕ → Option ℤ) → different own ≡ 2 → holds x own ≡ true → colour_at rest j ≡ x →
    ((i : ℕ) → i < length rest → holds (colour_at rest i) own ≡ true →
    eqb (colour_at rest i) x ≡ true) →
    IsTable (but_order rest x j) (x ∷ []) 1 rest prices n best →
    IsTable (all_but j) own 2 rest prices n best
alone-table rest prices x j n own best two h at only p =
    full-table rest prices (but_order rest x j) (all_but j) own 2 n best (sym two)
    (λ i b a. and-right (eqb (colour_at rest i) x) (not (eqb i j)) a)
    (λ i b a e. rw (only i b e, a) refl)
    (own-table rest prices (but_order rest x j) (x ∷ []) own 1 2 n best (omega arith) (omega arith)
    (λ i b a. row-own rest x (x ∷ []) (self-holds x []) i
    (and-left (eqb (colour_at rest i) x) (not (eqb i j)) a))
    (λ i b a. row-own rest x own h i (and-left (eqb (colour_at rest i) x) (not (eqb i j)) a)) p)

-- the front of a table
pub front-cells : (rest : List Order) (prices : List ℤ) (A : ℕ → Bool) (own : List ℕ) (k n : ℕ)
    (table : List ℤ) → n ≤ length table → IsTable A own k rest prices n (cell table) →
    IsTable A own k rest prices (length (take n table)) (cell (take n table))
front-cells rest prices A own k n table h p l b =
    let e : length (take n table) ≡ n = length-take-le n table h in
    let c : l < n = omega arith in
    subst (λ z. IsBest A own k rest prices l (found z)) (sym (get_or-take n table l (pos 0) c))
    (p l c)

-- what a row has for each load
pub row-cells : (rest : List Order) (prices : List ℤ) (A : ℕ → Bool) (own : List ℕ)
    (k width n : ℕ) (f : ℕ → ℤ) (row : List ℤ) → n ≤ width →
    ((l : ℕ) → l < width → entry row l ≡ f l) →
    IsTable A own k rest prices width (λ l. found (f l)) →
    IsTable A own k rest prices n (cell row)
row-cells rest prices A own k width n f row w e p l b =
    subst (λ z. IsBest A own k rest prices l (found z)) (sym (e l (omega arith)))
    (p l (omega arith))

pub near-large : (xs : List ℤ) → AreNear row_limit xs → AreNear table_limit xs
near-large xs h l = near-wider row_limit table_limit (entry xs l) (omega arith) (h l)

-- the empty set alone, where no order to come has one of the two colours
pub none-table : (rest : List Order) (prices : List ℤ) (own : List ℕ) (n : ℕ) (table : List ℤ) →
    AreOrders rest → different own ≡ 2 →
    ((i : ℕ) → i < length rest → holds (colour_at rest i) own ≡ false) →
    cell table 0 ≡ Some (pos 0) → ((l : ℕ) → suc l < n → cell table (suc l) ≡ None) →
    IsTable all_places own 2 rest prices n (cell table)
none-table rest prices own n table orders two none first other =
    full-table rest prices (λ i. false) all_places own 2 n (cell table) (sym two)
    (λ i b a. refl)
    (λ i b a h. absurd (clash (holds (colour_at rest i) own) h (none i b))) bare
  where
    bare : IsTable (λ i. false) own 2 rest prices n (cell table)
    bare zero b =
        subst (λ z. IsBest (λ i. false) own 2 rest prices 0 z) (sym first)
        (table-empty rest (λ i. false) own prices (λ i. refl) 2 (sym two))
    bare (suc l) b =
        subst (λ z. IsBest (λ i. false) own 2 rest prices (suc l) z) (sym (other l b))
        (table-none rest (λ i. false) own prices (λ i. refl) 2 l)
