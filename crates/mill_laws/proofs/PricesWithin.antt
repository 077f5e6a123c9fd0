-- The prices of the ascent and of its sweeps stay within the limits of a price.
--
-- From above: an order that fits a slab alone is a set of its own, whose slack bounds its new
-- price by 60 charges. From below: an ascent's prices aren't negative. A swept price is the slack
-- of a new slab with the order, which valid prices keep at its old price or above, or what a group
-- loses more with the order than without it, at its least: taking the order out of the best set
-- with it leaves a legal set, so that is at most 60 charges below zero.
use Rattle.std.proofs.Common.{ℕ, zero, suc, ◌*◌, ◌<◌, ◌≤◌, ◌≡◌, Bool, true, false}
use Rattle.std.proofs.Common.{not, List, [], ◌∷◌, ◌++◌, map, length, get_or, set, ℤ}
use Rattle.std.proofs.Common.{pos, ◌-ℤ◌, ◌≤ℤ◌, int_le, eqb, refl, subst, ◌∙◌, arith}
use Rattle.std.proofs.Common.{inl, inr, length-set, All}
use Rattle.std.proofs.lemmas.Int.{ints}
use Rattle.std.proofs.lemmas.List.{map-append, get_or-set_same}
use Rattle.std.proofs.lemmas.List.Elements.{All-set, All-drop}
use Rattle.std.specs.List.{list_any}
use Rattle.list_laws.specs.Sets.{chosen, sets, below, int_sum}
use Rattle.list_laws.proofs.Tests.{or-cases, or-left, or-right}
use Rattle.list_laws.proofs.Among.{Among, Among-append_left, Among-filter, Among-unfilter}
use Rattle.list_laws.proofs.Among.{Among-unappend, Among-unmap, all-among, any-from, among-sets}
use Rattle.list_laws.proofs.Among.{sets-length}
use Rattle.list_laws.proofs.Different.{Within, different-mono, holds-append}
use Rattle.mill_model.specs.Slab.{Mill, load, colours, legal}
use Rattle.mill_model.specs.Plan.{slab}
use Rattle.mill_model.specs.Tree.{later_orders, next_new}
use Rattle.mill_model.specs.Prices.{slack, legal_sets, valid}
use Rattle.mill_model.specs.Bounds.{in_set, least_of, slacks, or_zero, least_on_with}
use Rattle.mill_model.specs.Bounds.{least_on_without, joining_cost, joinable, swept_price, sweep}
use Rattle.mill_model.specs.Bounds.{ascent}
use Rattle.mill_model.specs.Limits.{IsPrice}
use Rattle.mill_model.specs.declared.charges.TheConstants.{MAX_CHARGE}
use Rattle.mill_model.specs.declared.prices.TheConstants.{MAX_PRICE}
use Rattle.mill_model.specs.declared.order.Order.{Order}
use Rattle.mill_model.proofs.Slabs.{colours_of, load-append, legal-less}
use Rattle.mill_laws.specs.PriceLaws.{IsCharge, SweptPricesStayWithin, AscentPricesStayWithin}
use Rattle.mill_laws.specs.PlanLaws.{EachFits}
use Rattle.mill_laws.proofs.Least.{or_zero-le, or_zero-in}
use Rattle.mill_laws.proofs.Paths.{tree-fits}
use Rattle.mill_laws.proofs.PriceLaws.{as-many}
use Rattle.mill_laws.proofs.Slacks.{alone-priced, among-slacks, from-slacks, set-back, slack-change}
use Rattle.mill_laws.proofs.Sweep.{sweep-length, sweep-valid}
use Rattle.mill_laws.proofs.Ascent.{kept, price-new, price-not-negative}
use Rattle.std.proofs.Common.{replicate}
use Rattle.mill_model.specs.Bounds.{ascent_slacks}

-- A set without thing i.

pub without-in : (i : ℕ) (marks : List Bool) → in_set i (set marks i false) ≡ false
without-in i [] = refl
without-in zero (m ∷ marks) = refl
without-in (suc i) (m ∷ marks) = without-in i marks

pub without-load : (i : ℕ) (marks : List Bool) (rest : List Order) →
    load (chosen (set marks i false) rest) ≤ load (chosen marks rest)
without-load i [] rest = omega arith
without-load zero (m ∷ marks) [] = omega arith
without-load (suc i) (m ∷ marks) [] = omega arith
without-load zero (true ∷ marks) (o ∷ rest) = omega arith
without-load zero (false ∷ marks) (o ∷ rest) = omega arith
without-load (suc i) (true ∷ marks) (o ∷ rest) = omega (arith, without-load i marks rest)
without-load (suc i) (false ∷ marks) (o ∷ rest) = without-load i marks rest

pub without-colours : (i : ℕ) (marks : List Bool) (rest : List Order) →
    Within (colours_of (chosen (set marks i false) rest)) (colours_of (chosen marks rest))
without-colours i [] rest c h = h
without-colours zero (m ∷ marks) [] c h = h
without-colours (suc i) (m ∷ marks) [] c h = h
without-colours zero (true ∷ marks) (o ∷ rest) c h = or-right (eqb c o.colour) _ h
without-colours zero (false ∷ marks) (o ∷ rest) c h = h
without-colours (suc i) (true ∷ marks) (o ∷ rest) c h =
    elim (or-cases (eqb c o.colour) _ h) [
      | inl e ↦ or-left (eqb c o.colour) _ e
      | inr k ↦ or-right (eqb c o.colour) _ (without-colours i marks rest c k)
    ]
without-colours (suc i) (false ∷ marks) (o ∷ rest) c h = without-colours i marks rest c h

-- a price of zero may be left out
pub without-sum : (i : ℕ) (marks : List Bool) (prices : List ℤ) →
    get_or prices i (pos 0) ≡ pos 0 →
    int_sum (chosen (set marks i false) prices) ≡ int_sum (chosen marks prices)
without-sum i [] prices e = refl
without-sum zero (m ∷ marks) [] e = refl
without-sum (suc i) (m ∷ marks) [] e = refl
without-sum zero (true ∷ marks) (y ∷ prices) e = omega (arith, ints)
without-sum zero (false ∷ marks) (y ∷ prices) e = refl
without-sum (suc i) (true ∷ marks) (y ∷ prices) e =
    omega (arith, ints, without-sum i marks prices e)
without-sum (suc i) (false ∷ marks) (y ∷ prices) e = without-sum i marks prices e

-- it is legal with a group where the set is
pub without-legal : (mill : Mill) (group rest : List Order) (i : ℕ) (marks : List Bool) →
    Among marks (legal_sets mill group rest) →
    Among (set marks i false) (legal_sets mill group rest)
without-legal mill group rest i marks a =
    let fewer = set marks i false in
    let was = Among-unfilter (λ set. legal mill (group ++ chosen set rest)) marks
    (sets (length rest)) a in
    let long : length marks ≡ length rest = sets-length (length rest) marks was.0 in
    let lighter : load (group ++ chosen fewer rest) ≤ load (group ++ chosen marks rest) =
    omega (
      arith,
      without-load i marks rest,
      load-append group (chosen fewer rest),
      load-append group (chosen marks rest),
    ) in
    Among-filter (λ set. legal mill (group ++ chosen set rest)) fewer (sets (length rest))
    (legal-less mill (group ++ chosen fewer rest) (group ++ chosen marks rest) lighter
    (plainer fewer refl) was.1)
    (subst (λ n. Among fewer (sets n)) (length-set marks i false ∙ long) (among-sets fewer))
  where
    plainer : (fewer : List Bool) → fewer ≡ set marks i false →
        colours (group ++ chosen fewer rest) ≤ colours (group ++ chosen marks rest)
    plainer fewer e = rw e (rw (
      map-append (λ o. o.colour) group (chosen (set marks i false) rest),
      map-append (λ o. o.colour) group (chosen marks rest),
    ) (different-mono (colours_of group ++ colours_of (chosen (set marks i false) rest))
        (colours_of group ++ colours_of (chosen marks rest))
        (λ c h. grind (
          arith,
          without-colours i marks rest c,
          holds-append c (colours_of group) (colours_of (chosen (set marks i false) rest)),
          holds-append c (colours_of group) (colours_of (chosen marks rest)),
        ))))

-- One price of a sweep.

abbrev nobody : Order
nobody = record { weight = 0; colour = 0 }

from-test : (x : ℤ) → int_le (pos 0) x ≡ true → pos 0 ≤ℤ x
from-test x h = grind (arith, ints)

module _ (mill : Mill) (charge : ℕ → ℕ) (ranked : List Order) (path : List ℕ)
    (limit : IsCharge charge) (fits : EachFits mill ranked) where
  abbrev rest : List Order
  rest = later_orders ranked path

  light : (i : ℕ) → i < length rest → (get_or rest i nobody).weight ≤ mill.largest
  light i l =
      All-drop (λ o. o.weight ≤ mill.largest) (length path) ranked fits.not_too_heavy i nobody l

  module _ (i : ℕ) (ys : List ℤ) (here : i < length rest) (long : length ys ≡ length rest)
      (valid_before : valid mill charge rest ys ≡ true) (within : All IsPrice ys) where
    abbrev base : List ℤ
    base = set ys i (pos 0)

    abbrev firsts : List ℤ
    firsts = slacks mill charge [] rest base (in_set i)

    abbrev seconds : List ℤ
    seconds = map (joining_cost mill charge ranked path base i) (joinable mill ranked path i)

    abbrev new : ℤ
    new = swept_price mill charge ranked path base i

    zero-here : get_or base i (pos 0) ≡ pos 0
    zero-here = get_or-set_same ys i (pos 0) (pos 0) (omega (arith, long))

    one : (set : List Bool) × Among set (legal_sets mill [] rest) × (in_set i set ≡ true)
        × ((prices : List ℤ) → length prices ≡ length rest →
        int_sum (chosen set prices) ≡ get_or prices i (pos 0))
    one = alone-priced mill rest i nobody here (light i here) fits.some_colour

    one-first : Among (slack charge [] rest base one.0) firsts
    one-first = among-slacks mill charge [] rest base (in_set i) one.0 one.1 one.2

    -- the order alone on a new slab
    high : new ≤ℤ pos (60 * MAX_CHARGE)
    high =
        let first = slack charge [] rest base one.0 in
        let least : new ≤ℤ first =
        or_zero-le first (firsts ++ seconds) (Among-append_left first firsts seconds one-first) in
        let free : int_sum (chosen one.0 base) ≡ pos 0 =
        one.3 base (length-set ys i (pos 0) ∙ long) ∙ zero-here in
        let small : charge (load ([] ++ chosen one.0 rest)) ≤ MAX_CHARGE = limit _ in
        omega (arith, ints, least, free, small)

    -- a new slab with the order
    first-low : (x : ℤ) → Among x firsts → (pos 0 -ℤ pos MAX_PRICE) ≤ℤ x
    first-low x h =
        let old : ℤ = get_or ys i (pos 0) in
        let r = from-slacks mill charge [] rest base (in_set i) x h in
        let paid : pos 0 ≤ℤ slack charge [] rest ys r.0 =
        from-test (slack charge [] rest ys r.0)
        (all-among (λ set. int_le (pos 0) (slack charge [] rest ys set)) r.0
        (legal_sets mill [] rest) valid_before r.1) in
        let inside : i < length ys = omega (arith, long) in
        let back = set-back i ys inside in
        let change = rw (back, r.2) at (slack-change charge [] rest i ys inside old r.0) in
        let price : IsPrice old = within i (pos 0) inside in
        omega (arith, ints, paid, change, price.0, r.3)

    -- a group with the order, less the group without it
    second-low : (x : ℤ) → Among x seconds → (pos 0 -ℤ pos MAX_PRICE) ≤ℤ x
    second-low x h =
        let r = Among-unmap (joining_cost mill charge ranked path base i) x
        (joinable mill ranked path i) h in
        let group : List Order = slab r.0 path ranked in
        let joins = Among-unfilter
        (λ g. list_any (in_set i) (legal_sets mill (slab g path ranked) rest)) r.0
        (below (next_new path)) r.1 in
        let some = any-from (in_set i) (legal_sets mill group rest) joins.1 in
        let with-all = slacks mill charge group rest base (in_set i) in
        let best = or_zero-in (slack charge group rest base some.0) with-all
        (among-slacks mill charge group rest base (in_set i) some.0 some.1 some.2) in
        let t = from-slacks mill charge group rest base (in_set i)
        (or_zero (least_on_with mill charge group rest base i)) best in
        let out : List Bool = set t.0 i false in
        let stays = without-legal mill group rest i t.0 t.1 in
        let least : or_zero (least_on_without mill charge group rest base i)
        ≤ℤ slack charge group rest base out =
        or_zero-le (slack charge group rest base out)
        (slacks mill charge group rest base (λ set. not (in_set i set)))
        (among-slacks mill charge group rest base (λ set. not (in_set i set)) out stays
        (rw (without-in i t.0) refl)) in
        let same : int_sum (chosen out base) ≡ int_sum (chosen t.0 base) =
        without-sum i t.0 base zero-here in
        let small : charge (load (group ++ chosen out rest)) ≤ MAX_CHARGE = limit _ in
        omega (arith, ints, r.2, t.3, least, same, small)

    low : (pos 0 -ℤ pos MAX_PRICE) ≤ℤ new
    low =
        elim (Among-unappend new firsts seconds (or_zero-in (slack charge [] rest base one.0)
        (firsts ++ seconds) (Among-append_left _ firsts seconds one-first))) [
          | inl a ↦ first-low new a
          | inr b ↦ second-low new b
        ]

    swept-price-within : IsPrice new
    swept-price-within = (low, omega (arith, ints, high))

  -- A whole sweep.
  module _ (ys : List ℤ) (slabs : (s : ℕ) → legal mill (slab s path ranked) ≡ true)
      (long : length ys ≡ length rest) (valid_before : valid mill charge rest ys ≡ true)
      (within : All IsPrice ys) where
    pub sweep-within : (i : ℕ) → i ≤ length rest → All IsPrice (sweep mill charge ranked path ys i)
    sweep-within zero l = within
    sweep-within (suc i) l =
        let before = sweep mill charge ranked path ys i in
        let as-long : length before ≡ length rest =
        sweep-length mill charge ranked path ys i ∙ long in
        All-set IsPrice before i (swept_price mill charge ranked path (set before i (pos 0)) i)
        (swept-price-within i before (omega arith) as-long
        (sweep-valid mill charge ranked path ys slabs valid_before i (omega (arith, long)))
        (sweep-within i (omega arith))) (sweep-within i (omega arith))

  -- The ascent.
  module _ (slabs : (s : ℕ) → legal mill (slab s path ranked) ≡ true) where
    pub ascent-within : (i : ℕ) → i ≤ length rest → All IsPrice (ascent mill charge ranked path i)
    ascent-within zero l = zeros-within (length rest)
      where
        zeros-within : (n : ℕ) → All IsPrice (replicate n (pos 0))
        zeros-within zero k d h = absurd (omega arith)
        zeros-within (suc n) zero d h = (omega (arith, ints), omega (arith, ints))
        zeros-within (suc n) (suc k) d h = zeros-within n k d (omega arith)
    ascent-within (suc i) l =
        let before = ascent mill charge ranked path i in
        let keeps = kept mill charge ranked path slabs i (omega arith) in
        let next = or_zero (least_of (ascent_slacks mill charge ranked path before i)) in
        let alone = alone-priced mill rest i nobody (omega arith) (light i (omega arith))
        fits.some_colour in
        let least = price-new mill charge ranked path slabs i alone.0 alone.1 alone.2 in
        let free : int_sum (chosen alone.0 before) ≡ pos 0 =
        alone.3 before keeps.long ∙ keeps.later i (omega arith) in
        let small : charge (load ([] ++ chosen alone.0 rest)) ≤ MAX_CHARGE = limit _ in
        let no-less = price-not-negative mill charge ranked path slabs i keeps in
        All-set IsPrice before i next
        (omega (arith, ints, no-less), omega (arith, ints, least, free, small))
        (ascent-within i (omega arith))

-- The laws.

pub swept-prices-stay-within : SweptPricesStayWithin
swept-prices-stay-within mill charge ranked path prices limit tree fits v within =
    let long = as-many mill charge ranked path prices v in
    sweep-within mill charge ranked path limit fits prices (tree-fits mill ranked path tree) long
    v.are_valid within (length prices) (omega (arith, long))

pub ascent-prices-stay-within : AscentPricesStayWithin
ascent-prices-stay-within mill charge ranked path limit tree fits =
    ascent-within mill charge ranked path limit fits (tree-fits mill ranked path tree)
    (length (later_orders ranked path)) (omega arith)
