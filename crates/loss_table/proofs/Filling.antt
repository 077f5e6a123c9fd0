-- A table of charges that grows, size by size and load by load.
use Rattle.std.specs.Prelude.{All}
use Rattle.std.specs.List.Sorted.{IsStrictlyIncreasing}
use Rattle.std.proofs.Common.{ℕ, ◌+◌, ◌-◌, ◌<◌, ◌≤◌, ◌≡◌, List, [], ◌∷◌, ◌++◌, length, get_or, eqb}
use Rattle.std.proofs.Common.{ne_eqb, false, inl, inr, eq-or-lt_of_le, sym, ap, ◌∙◌, arith}
use Rattle.std.proofs.lemmas.Bool.{cases_lt}
use Rattle.std.proofs.lemmas.List.{get_or_push, get_or_append_left, get_or_past, length-append}
use Rattle.std.proofs.lemmas.List.Elements.{All-push}
use Rattle.mill_model.specs.Instance.{IsSize, largest, loss_charge}
use Rattle.loss_table.proofs.LeastSizes.{IsPart, part-later, size_for-inside, size_for-outside}
use Rattle.loss_table.proofs.LeastSizes.{largest-outside}

-- the charges of the first loads
pub record AreFirstCharges (sizes table : List ℕ) : Type 0 where
  pub each : (load : ℕ) → load < length table → get_or table load 0 ≡ loss_charge sizes load
  pub small : All (λ charge. charge ≤ 100000000) table

-- a load that the size at a place is for is charged what it lacks of that size
charge-inside : (sizes : List ℕ) (load i : ℕ) → 0 < load → IsPart sizes load i →
    i < length sizes → loss_charge sizes load ≡ get_or sizes i 0 - load
charge-inside sizes load i some part l =
    let loaded : eqb load 0 ≡ false = ne_eqb load 0 (λ e. absurd (omega arith)) in
    rw (loaded, size_for-inside sizes load i part l)

-- one that no size holds is charged nothing
charge-outside : (sizes : List ℕ) (load : ℕ) → largest sizes < load → loss_charge sizes load ≡ 0
charge-outside sizes load over =
    let loaded : eqb load 0 ≡ false = ne_eqb load 0 (λ e. absurd (omega arith)) in
    rw (loaded, size_for-outside sizes load over)

-- one more load is charged
pub charges-push : (sizes table : List ℕ) (i load : ℕ) → All IsSize sizes →
    AreFirstCharges sizes table → length table ≡ load → 0 < load → IsPart sizes load i →
    i < length sizes → AreFirstCharges sizes (table ++ (get_or sizes i 0 - load) ∷ [])
charges-push sizes table i load sizes-fit before count some part l = record {
  each = λ n more. elim (eq-or-lt_of_le {n = n} {m = length table} (push-length n more)) [
    | inl e ↦ get_or_push table _ 0 n (sym e)
        ∙ sym (ap (loss_charge sizes) (e ∙ count) ∙ charge-inside sizes load i some part l)
    | inr less ↦ get_or_append_left table _ 0 n less ∙ before.each n less
  ];
  small =
      (let fit = sizes-fit i 0 l in
      All-push (λ charge. charge ≤ 100000000) table _ before.small (omega (arith, fit.1)));
}
  where
    push-length : (n : ℕ) → n < length (table ++ (get_or sizes i 0 - load) ∷ []) → n ≤ length table
    push-length n more =
        let longer : length (table ++ (get_or sizes i 0 - load) ∷ []) ≡ length table + 1 =
        length-append table ((get_or sizes i 0 - load) ∷ []) in
        omega arith

-- what the next load of a size leaves of a table
pub load-step : (sizes table table' : List ℕ) (i low load : ℕ) → IsStrictlyIncreasing sizes →
    All IsSize sizes → AreFirstCharges sizes table → length table ≡ load → 1 ≤ low →
    IsPart sizes low i → i < length sizes → low ≤ load → load < get_or sizes i 0 + 1 →
    table' ≡ table ++ (get_or sizes i 0 - load) ∷ [] →
    AreFirstCharges sizes table' × (length table' ≡ load + 1)
load-step sizes table table' i low load rise fit charges count some part l up enough pushed =
    let here : IsPart sizes load i = part-later sizes low load i rise part l up (omega arith) in
    rw pushed (
      charges-push sizes table i load fit charges count (omega arith) here l,
      length-append table ((get_or sizes i 0 - load) ∷ []) ∙ (omega arith),
    )

-- a full table has the charge of each load
pub charges-full : (sizes table : List ℕ) → AreFirstCharges sizes table →
    length table ≡ largest sizes + 1 → (load : ℕ) → get_or table load 0 ≡ loss_charge sizes load
charges-full sizes table charges full load = elim (cases_lt load (length table)) [
  | inl l ↦ charges.each load l
  | inr past ↦ get_or_past table load 0 past ∙ sym (charge-outside sizes load (omega arith))
]

-- where all sizes are passed, the table is full
pub full-length : (sizes table : List ℕ) → IsPart sizes (length table) (length sizes) →
    1 ≤ length sizes → length table ≤ largest sizes + 1 → length table ≡ largest sizes + 1
full-length sizes table part some most =
    let over : largest sizes < length table = largest-outside sizes (length table) some part in
    omega arith
