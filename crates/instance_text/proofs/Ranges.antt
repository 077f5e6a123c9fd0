-- Words that are right for their fields, against numbers within the limits.
use Rattle.std.specs.Prelude.{nat_le}
use Rattle.std.specs.List.{list_all, AllByRecursion}
use Rattle.std.proofs.Common.{◌≡◌, ℕ, zero, suc, ◌≤◌, Bool, true, List, [], ◌∷◌, ◌++◌, length}
use Rattle.std.proofs.Common.{replicate, refl, ap, sym, ◌∙◌}
use Rattle.std.proofs.lemmas.Bool.{and_parts, and_from, leb-true, le-leb}
use Rattle.mill_model.specs.declared.order.Order.{Order}
use Rattle.mill_model.specs.Instance.{IsSize, IsOrder}
use Rattle.line_text.specs.Numbers.{is_digit, value}
use Rattle.instance_text.specs.declared.field.Field.{Field}
use Rattle.instance_text.specs.declared.field.Field.TheVariants.{Size, Weight, Colour}
use Rattle.instance_text.specs.Words.{Word}
use Rattle.instance_text.specs.Fields.{least, greatest, in_range, AreRight, fields, order_fields}
use Rattle.instance_text.specs.Text.{numbers_of_orders}
use Rattle.instance_text.specs.Reading.{values}

abbrev pub are_digits : List Word → Bool
are_digits words = list_all (λ word. list_all is_digit word.bytes) words

-- so many numbers, each in the range of its field
abbrev pub InRanges : List Field → List ℕ → Type 0
InRanges [] [] = Unit {0}
InRanges [] (n ∷ ns) = ⊥
InRanges (what ∷ fields) [] = ⊥
InRanges (what ∷ fields) (n ∷ ns) = (in_range what n ≡ true) × InRanges fields ns

-- right words are digits, and their numbers are in range
pub right_digits : (fs : List Field) (ws : List Word) → AreRight fs ws → are_digits ws ≡ true
right_digits [] [] h = refl
right_digits [] (w ∷ ws) h = absurd h
right_digits (f ∷ fs) [] h = absurd h
right_digits (f ∷ fs) (w ∷ ws) h =
    and_from (list_all is_digit w.bytes) (are_digits ws) h.0.digits (right_digits fs ws h.1)

pub right_ranges : (fs : List Field) (ws : List Word) (ns : List ℕ) → AreRight fs ws →
    values ws ≡ ns → InRanges fs ns
right_ranges [] [] [] h e = tt
right_ranges [] [] (n ∷ ns) h e = absurd (cc)
right_ranges [] (w ∷ ws) ns h e = absurd h
right_ranges (f ∷ fs) [] ns h e = absurd h
right_ranges (f ∷ fs) (w ∷ ws) [] h e = absurd (cc)
right_ranges (f ∷ fs) (w ∷ ws) (n ∷ ns) h e =
    let first : value w.bytes ≡ n = cc in
    let rest : values ws ≡ ns = cc in
    (ap (in_range f) (sym first) ∙ h.0.range, right_ranges fs ws ns h.1 rest)

-- and the other way round
pub right_from : (fs : List Field) (ws : List Word) (ns : List ℕ) → are_digits ws ≡ true →
    values ws ≡ ns → InRanges fs ns → AreRight fs ws
right_from [] [] [] digits e h = tt
right_from [] ws (n ∷ ns) digits e h = absurd h
right_from [] (w ∷ ws) [] digits e h = absurd (cc)
right_from (f ∷ fs) ws [] digits e h = absurd h
right_from (f ∷ fs) [] (n ∷ ns) digits e h = absurd (cc)
right_from (f ∷ fs) (w ∷ ws) (n ∷ ns) digits e h =
    let parts = and_parts (list_all is_digit w.bytes) (are_digits ws) digits in
    let first : value w.bytes ≡ n = cc in
    let rest : values ws ≡ ns = cc in (
      record { digits = parts.0; range = ap (in_range f) first ∙ h.0 },
      right_from fs ws ns parts.1 rest h.1,
    )

pub ranges_append : (fs gs : List Field) (ns ms : List ℕ) → InRanges fs ns → InRanges gs ms →
    InRanges (fs ++ gs) (ns ++ ms)
ranges_append [] gs [] ms h k = k
ranges_append [] gs (n ∷ ns) ms h k = absurd h
ranges_append (f ∷ fs) gs [] ms h k = absurd h
ranges_append (f ∷ fs) gs (n ∷ ns) ms h k = (h.0, ranges_append fs gs ns ms h.1 k)

-- a number is in the range of its field
pub range_from : (what : Field) (n : ℕ) → least what ≤ n → n ≤ greatest what →
    in_range what n ≡ true
range_from what n low high =
    and_from _ _ (le-leb (least what) n low) (le-leb n (greatest what) high)

pub range_bounds : (what : Field) (n : ℕ) → in_range what n ≡ true →
    (least what ≤ n) × (n ≤ greatest what)
range_bounds what n h =
    let parts = and_parts (nat_le (least what) n) (nat_le n (greatest what)) h in
    (leb-true _ _ parts.0, leb-true _ _ parts.1)

-- sizes
pub sizes_within : (k : ℕ) (sizes : List ℕ) → InRanges (replicate k Size) sizes →
    (length sizes ≡ k) × AllByRecursion IsSize sizes
sizes_within zero [] h = (refl, tt)
sizes_within zero (n ∷ ns) h = absurd h
sizes_within (suc k) [] h = absurd h
sizes_within (suc k) (n ∷ ns) h =
    let rest = sizes_within k ns h.1 in
    (ap suc rest.0, (range_bounds Size n h.0, rest.1))

pub within_sizes : (sizes : List ℕ) → AllByRecursion IsSize sizes →
    InRanges (replicate (length sizes) Size) sizes
within_sizes [] h = tt
within_sizes (n ∷ ns) h = (range_from Size n h.0.0 h.0.1, within_sizes ns h.1)

-- orders
pub orders_within : (k : ℕ) (orders : List Order) →
    InRanges (order_fields k) (numbers_of_orders orders) →
    (length orders ≡ k) × AllByRecursion IsOrder orders
unfolding order_fields
orders_within zero [] h = (refl, tt)
orders_within zero (order ∷ orders) h = absurd h
orders_within (suc k) [] h = absurd h
orders_within (suc k) (order ∷ orders) h =
    let rest = orders_within k orders h.1.1 in (
      ap suc rest.0,
      ((range_bounds Weight order.weight h.0, range_bounds Colour order.colour h.1.0), rest.1),
    )

pub within_orders : (orders : List Order) → AllByRecursion IsOrder orders →
    InRanges (order_fields (length orders)) (numbers_of_orders orders)
unfolding order_fields
within_orders [] h = tt
within_orders (order ∷ orders) h = (
  range_from Weight order.weight h.0.0.0 h.0.0.1,
  (range_from Colour order.colour h.0.1.0 h.0.1.1, within_orders orders h.1),
)
