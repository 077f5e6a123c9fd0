-- One place of a set is marked or not.
use Rattle.std.proofs.Common.{ℕ, zero, suc, ◌+◌, ◌<◌, ◌≡◌, ◌≢◌, Bool, true, false, ◌||◌, List, []}
use Rattle.std.proofs.Common.{◌∷◌, length, get_or, set, ℤ, pos, ◌+ℤ◌, eqb, refl, sym, ap, ◌∙◌}
use Rattle.std.proofs.Common.{arith, inl, inr, eq-eqb, eqb-true}
use Rattle.std.proofs.lemmas.Int.{ints}
use Rattle.std.proofs.lemmas.List.{get_or-set_same, get_or-set_other, set-get_or}
use Rattle.list_laws.specs.Sets.{chosen, int_sum, holds}
use Rattle.mill_model.specs.Slab.{load}
use Rattle.mill_model.specs.Bounds.{in_set}
use Rattle.mill_model.specs.declared.order.Order.{Order}
use Rattle.list_laws.proofs.Tests.{or-cases, or-left, or-right, or-swap}
use Rattle.set_minima.specs.Packs.{nobody, colour_at, colours_in}

pub in-set-same : (j : ℕ) (marks : List Bool) (b : Bool) → j < length marks →
    in_set j (set marks j b) ≡ b
in-set-same j marks b h = get_or-set_same marks j b false h

pub in-set-other : (i j : ℕ) (marks : List Bool) (b : Bool) → i ≢ j →
    in_set i (set marks j b) ≡ in_set i marks
in-set-other i j marks b n = get_or-set_other marks j i b false n

pub in-set-below : (j : ℕ) (marks : List Bool) → in_set j marks ≡ true → j < length marks
in-set-below j [] h = absurd (cc)
in-set-below zero (m ∷ marks) h = omega arith
in-set-below (suc j) (m ∷ marks) h =
    let ih : j < length marks = in-set-below j marks h in omega arith

-- the set with the place, and the set without it
pub load-place : (j : ℕ) (marks : List Bool) (rest : List Order) → j < length marks →
    j < length rest → load (chosen (set marks j true) rest) ≡ (get_or rest j nobody).weight + load
    (chosen (set marks j false) rest)
load-place j [] rest h k = absurd (omega arith)
load-place j (m ∷ marks) [] h k = absurd (omega arith)
load-place zero (m ∷ marks) (o ∷ rest) h k = refl
load-place (suc j) (true ∷ marks) (o ∷ rest) h k =
    let ih : load (chosen (set marks j true) rest) ≡ (get_or rest j nobody).weight + load
    (chosen (set marks j false) rest) =
    load-place j marks rest (omega arith) (omega arith) in omega arith
load-place (suc j) (false ∷ marks) (o ∷ rest) h k =
    load-place j marks rest (omega arith) (omega arith)

pub sum-place : (j : ℕ) (marks : List Bool) (ys : List ℤ) → j < length marks → j < length ys →
    int_sum (chosen (set marks j true) ys) ≡ get_or ys j (pos 0)
    +ℤ int_sum (chosen (set marks j false) ys)
sum-place j [] ys h k = absurd (omega arith)
sum-place j (m ∷ marks) [] h k = absurd (omega arith)
sum-place zero (m ∷ marks) (y ∷ ys) h k = refl
sum-place (suc j) (true ∷ marks) (y ∷ ys) h k =
    let ih : int_sum (chosen (set marks j true) ys) ≡ get_or ys j (pos 0)
    +ℤ int_sum (chosen (set marks j false) ys) =
    sum-place j marks ys (omega arith) (omega arith) in omega (arith, ints)
sum-place (suc j) (false ∷ marks) (y ∷ ys) h k = sum-place j marks ys (omega arith) (omega arith)

pub colours-place : (x j : ℕ) (marks : List Bool) (rest : List Order) → j < length marks →
    j < length rest → holds x (colours_in (set marks j true) rest) ≡ (eqb x (colour_at rest j)
    || holds x (colours_in (set marks j false) rest))
colours-place x j [] rest h k = absurd (omega arith)
colours-place x j (m ∷ marks) [] h k = absurd (omega arith)
colours-place x zero (m ∷ marks) (o ∷ rest) h k = refl
colours-place x (suc j) (true ∷ marks) (o ∷ rest) h k =
    ap (λ b. eqb x o.colour || b) (colours-place x j marks rest (omega arith) (omega arith))
    ∙ or-swap (eqb x o.colour) (eqb x (colour_at rest j)) (holds x
    (colours_in (set marks j false) rest))
colours-place x (suc j) (false ∷ marks) (o ∷ rest) h k =
    colours-place x j marks rest (omega arith) (omega arith)

-- a set that holds the place is the set with it
pub marked : (j : ℕ) (marks : List Bool) → in_set j marks ≡ true → set marks j true ≡ marks
marked j marks h = ap (λ b. set marks j b) (sym h) ∙ set-get_or marks j false

pub unmarked : (j : ℕ) (marks : List Bool) → in_set j marks ≡ false → set marks j false ≡ marks
unmarked j marks h = ap (λ b. set marks j b) (sym h) ∙ set-get_or marks j false

-- a colour of a set is the colour of something in it, and the other way round
pub colour-place : (x : ℕ) (marks : List Bool) (rest : List Order) →
    holds x (colours_in marks rest) ≡ true → (i : ℕ) × (in_set i marks ≡ true) × (i < length rest)
    × (colour_at rest i ≡ x)
colour-place x [] rest h = absurd (cc)
colour-place x (m ∷ marks) [] h = absurd (cc)
colour-place x (true ∷ marks) (o ∷ rest) h =
    elim (or-cases (eqb x o.colour) (holds x (colours_in marks rest)) h) [
      | inl e ↦ (0, refl, omega arith, sym (eqb-true x o.colour e))
      | inr k ↦ (let r = colour-place x marks rest k in (suc r.0, r.1, omega (arith, r.2), r.3))
    ]
colour-place x (false ∷ marks) (o ∷ rest) h =
    let r = colour-place x marks rest h in (suc r.0, r.1, omega (arith, r.2), r.3)

pub place-colour : (i : ℕ) (marks : List Bool) (rest : List Order) → in_set i marks ≡ true →
    i < length rest → holds (colour_at rest i) (colours_in marks rest) ≡ true
place-colour i [] rest h k = absurd (cc)
place-colour i (m ∷ marks) [] h k = absurd (omega arith)
place-colour zero (true ∷ marks) (o ∷ rest) h k =
    or-left (eqb o.colour o.colour) _ (eq-eqb o.colour o.colour refl)
place-colour zero (false ∷ marks) (o ∷ rest) h k = absurd (cc)
place-colour (suc i) (true ∷ marks) (o ∷ rest) h k =
    or-right (eqb (colour_at rest i) o.colour) _ (place-colour i marks rest h (omega arith))
place-colour (suc i) (false ∷ marks) (o ∷ rest) h k = place-colour i marks rest h (omega arith)
