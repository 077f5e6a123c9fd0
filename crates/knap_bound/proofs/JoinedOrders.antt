-- One order joins a slab: its load and colours then, and the sets that hold an order which can't.
use Rattle.std.proofs.Common.{ℕ, zero, suc, ◌+◌, ◌<◌, ◌≡◌, Bool, true, false, cond, ◌||◌, List, []}
use Rattle.std.proofs.Common.{◌∷◌}
use Rattle.std.proofs.Common.{◌++◌, length, get_or, ℤ, Option, None, eqb, refl, sym, ◌∙◌}
use Rattle.std.proofs.Common.{arith}
use Rattle.std.proofs.Common.{inl, inr, IsTrue, ◌↔◌, ◌≤◌, leb, leb-true}
use Rattle.list_laws.specs.Sets.{holds, chosen, sets}
use Rattle.list_laws.proofs.Among.{Among, Among-unfilter}
use Rattle.list_laws.proofs.Different.{holds-append}
use Rattle.list_laws.proofs.Tests.{clash, either}
use Rattle.mill_model.specs.Bounds.{in_set, least_of, slacks, least_on_with, least_new_with}
use Rattle.mill_model.specs.Slab.{Mill, legal}
use Rattle.mill_model.specs.declared.order.Order.{Order}
use Rattle.mill_laws.proofs.Slacks.{from-slacks}
use Rattle.slab_rules.specs.OpenSlab.{OpenSlab, Carries, joined}
use Rattle.set_minima.specs.Packs.{IsTop, nobody}
use Rattle.set_minima.specs.Joins.{Joins, IsSlab, with_colour}
use Rattle.set_minima.proofs.Groups.{alone-legal}
use Rattle.knap_bound.proofs.SlabGains.{same-colours}

-- what a slab carries is known by its load and colours
pub carried : (slab : OpenSlab) (group : List Order) → Carries slab group →
    IsSlab group slab.load slab.colours
carried slab group carries = record { weighs = sym carries.weight; same = carries.each }

-- the joined slab has the colours of the slab and of the order
pub joined-colours : (slab : OpenSlab) (order : Order) (x : ℕ) →
    holds x (joined slab order).colours ≡ holds x (with_colour order.colour slab.colours)
joined-colours slab order x = go (holds order.colour slab.colours)
  where
    go : (b : Bool) →
        holds x (cond b slab.colours (slab.colours ++ order.colour ∷ []))
        ≡ holds x (cond b slab.colours (order.colour ∷ slab.colours))
    go true = refl
    go false =
        holds-append x slab.colours (order.colour ∷ [])
        ∙ turn (holds x slab.colours) (eqb x order.colour)
      where
        turn : (a b : Bool) → (a || (b || false)) ≡ (b || a)
        turn true true = refl
        turn true false = refl
        turn false true = refl
        turn false false = refl

pub joined-top : (allowed : ℕ → Bool) (largest most : ℕ) (rest : List Order) (f : List Bool → ℤ)
    (best : Option ℤ) (slab : OpenSlab) (order : Order) →
    IsTop (Joins allowed 0 largest (slab.load + order.weight) (joined slab order).colours most
    rest) f best →
    IsTop (Joins allowed 0 largest (slab.load + order.weight)
    (with_colour order.colour slab.colours) most rest) f best
joined-top allowed largest most rest f best slab order top =
    same-colours allowed 0 largest (slab.load + order.weight) most (joined slab order).colours
    (with_colour order.colour slab.colours) rest f best (joined-colours slab order) top

-- a set that holds a place has the order there
place-among : (i : ℕ) (m : List Bool) (rest : List Order) → in_set i m ≡ true → i < length rest →
    Among (get_or rest i nobody) (chosen m rest)
place-among i [] rest h k = absurd (cc)
place-among i (b ∷ m) [] h k = absurd (omega arith)
place-among zero (true ∷ m) (o ∷ rest) h k = inl refl
place-among zero (false ∷ m) (o ∷ rest) h k = absurd (cc)
place-among (suc i) (true ∷ m) (o ∷ rest) h k = inr (place-among i m rest h (omega arith))
place-among (suc i) (false ∷ m) (o ∷ rest) h k = place-among i m rest h (omega arith)

none-of : (xs : List ℤ) → ((x : ℤ) → Among x xs → ⊥) → least_of xs ≡ None
none-of [] h = refl
none-of (x ∷ xs) h = absurd (h x (inl refl))

-- where the order can't join alone, no legal set holds it
pub none-holding : (mill : Mill) (charge : ℕ → ℕ) (group rest : List Order) (prices : List ℤ)
    (i : ℕ) → i < length rest → legal mill (group ++ get_or rest i nobody ∷ []) ≡ false →
    least_on_with mill charge group rest prices i ≡ None
none-holding mill charge group rest prices i here refused =
    none-of (slacks mill charge group rest prices (in_set i)) (λ x a.
    (let r = from-slacks mill charge group rest prices (in_set i) x a in
    let set = Among-unfilter (λ m. legal mill (group ++ chosen m rest)) r.0 (sets (length rest))
    r.1 in
    let alone : legal mill (group ++ get_or rest i nobody ∷ []) ≡ true =
    alone-legal mill group (chosen r.0 rest) (get_or rest i nobody)
    (place-among i r.0 rest r.2 here) set.1 in
    clash (legal mill (group ++ get_or rest i nobody ∷ [])) alone refused))

pub not-legal : (answer other : Bool) → answer ≡ false → IsTrue answer ↔ (other ≡ true) →
    other ≡ false
not-legal true other h same = absurd (clash true refl h)
not-legal false true h same = absurd (clash false (same.1 refl) refl)
not-legal false false h same = refl

-- an order that is heavier than each slab may be stands on none
pub too-heavy : (mill : Mill) (charge : ℕ → ℕ) (rest : List Order) (prices : List ℤ) (i : ℕ) →
    i < length rest → mill.largest < (get_or rest i nobody).weight →
    least_new_with mill charge rest prices i ≡ None
too-heavy mill charge rest prices i here heavy =
    none-holding mill charge [] rest prices i here refused
  where
    order : Order
    order = get_or rest i nobody

    refused : legal mill (order ∷ []) ≡ false
    refused = elim (either (leb (order.weight + 0) mill.largest)) [
      | inl t ↦ (let l : order.weight + 0 ≤ mill.largest = leb-true _ _ t in absurd (omega arith))
      | inr e ↦ rw e refl
    ]
