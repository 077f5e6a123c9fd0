-- The laws of prices.
use Rattle.std.proofs.Common.{ℕ, ◌+◌, ◌<◌, ◌≤◌, ◌≡◌, max, true, Bool, List, [], ◌++◌, length, take}
use Rattle.std.proofs.Common.{drop, ℤ, sym, ap, ◌∙◌, arith, length-drop}
use Rattle.std.proofs.Common.{length-append}
use Rattle.std.proofs.lemmas.List.{take-append-drop, length-map}
use Rattle.std.proofs.lemmas.List.Elements.{All-drop}
use Rattle.mill_model.specs.Slab.{Mill}
use Rattle.mill_model.specs.Tree.{later_orders, next_new, canonical}
use Rattle.mill_model.specs.Prices.{legal_sets}
use Rattle.mill_model.specs.Bounds.{in_set}
use Rattle.mill_model.specs.declared.order.Order.{Order}
use Rattle.mill_laws.specs.PriceLaws.{AreValidAt, WeakDuality, SweptPricesAreValid}
use Rattle.mill_laws.specs.PriceLaws.{SweptPricesAreWorthNoLess, AscentPricesAreValid}
use Rattle.mill_laws.specs.PriceLaws.{AscentWorthIsTheirs}
use Rattle.list_laws.proofs.Among.{Among}
use Rattle.mill_laws.proofs.Groups.{next_new-append, numbers-below, next_new-le}
use Rattle.mill_laws.proofs.Ascent.{ascent-length, ascent-valid, ascent-worth}
use Rattle.mill_laws.proofs.Canonical.{canonical-fits, canonical-loss, canonical-numbers}
use Rattle.mill_laws.proofs.Duality.{weak-duality}
use Rattle.list_laws.proofs.Times.{same_list-eq}
use Rattle.mill_laws.proofs.Legal.{plan-long, plan-range, plan-fits}
use Rattle.mill_laws.proofs.Paths.{tree-fits, tree-length}
use Rattle.mill_laws.proofs.Slacks.{alone}
use Rattle.mill_laws.proofs.Sweep.{sweep-length, sweep-valid, sweep-worth}

-- A plan under a path: its canonical form is the path and numbers that follow, and loses the same.
pub weak-duality-law : WeakDuality
weak-duality-law mill charge ranked path plan prices z v h under =
    let form = canonical plan in
    let n = length ranked in
    let more = drop (length path) form in
    let front : form ≡ path ++ more =
    sym (take-append-drop (length path) form)
    ∙ ap (λ l. l ++ more) (sym (same_list-eq path (take (length path) form) under)) in
    let long = plan-long mill ranked plan h in
    let form-long : length path + length more ≡ n =
    sym (length-append path more) ∙ sym (ap length front) ∙ length-map plan _ ∙ long in
    let numbers : max (next_new path) (next_new more) ≤ n =
    rw (← next_new-append path more, ← front) (omega (
      arith,
      long,
      next_new-le (length plan) form (canonical-numbers plan ranked),
    )) in
    let rest-long = length-drop (length path) ranked in
    let fits = canonical-fits plan ranked mill (plan-fits mill ranked plan h) in
    let bound = weak-duality mill charge ranked path more prices
    (omega (arith, rest-long, form-long)) (omega (arith, rest-long, v.one_each)) (omega arith)
    (numbers-below n more (omega arith)) v.are_valid (λ s l. rw (← front) (fits s)) in
    rw (← front, canonical-loss plan ranked charge z (plan-range mill ranked plan h) long) at bound

-- the prices at a path are as many as the orders that it hasn't placed
pub as-many : (mill : Mill) (charge : ℕ → ℕ) (ranked : List Order) (path : List ℕ)
    (prices : List ℤ) → AreValidAt mill charge ranked path prices →
    length prices ≡ length (later_orders ranked path)
as-many mill charge ranked path prices v =
    omega (arith, length-drop (length path) ranked, v.one_each)

pub swept-prices-are-valid : SweptPricesAreValid
swept-prices-are-valid mill charge ranked path prices t v = record {
  one_each =
      omega (arith, sweep-length mill charge ranked path prices (length prices), v.one_each);
  are_valid =
      sweep-valid mill charge ranked path prices (tree-fits mill ranked path t) v.are_valid
      (length prices) (omega arith);
}

pub swept-prices-are-worth-no-less : SweptPricesAreWorthNoLess
swept-prices-are-worth-no-less mill charge ranked path prices t f v =
    sweep-worth mill charge ranked path prices (tree-fits mill ranked path t) v.are_valid
    (λ i l. one i (omega (arith, as-many mill charge ranked path prices v))) (length prices)
    (omega arith)
  where
    one : (i : ℕ) → i < length (later_orders ranked path) → (set : List Bool)
        × Among set (legal_sets mill [] (later_orders ranked path)) × (in_set i set ≡ true)
    one i l =
        let d : Order = record { weight = 0; colour = 0 } in
        alone mill (later_orders ranked path) i d l
        (All-drop (λ o. o.weight ≤ mill.largest) (length path) ranked f.not_too_heavy i d l)
        f.some_colour

pub ascent-prices-are-valid : AscentPricesAreValid
ascent-prices-are-valid mill charge ranked path t = record {
  one_each =
      omega (
        arith,
        ascent-length mill charge ranked path (length (later_orders ranked path)),
        length-drop (length path) ranked,
        tree-length mill ranked path t,
      );
  are_valid = ascent-valid mill charge ranked path (tree-fits mill ranked path t);
}

pub ascent-worth-is-theirs : AscentWorthIsTheirs
ascent-worth-is-theirs mill charge ranked path t =
    sym (ascent-worth mill charge ranked path (tree-fits mill ranked path t))
