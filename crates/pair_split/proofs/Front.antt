-- One more order in front of a split.
use Rattle.std.proofs.Common.{ℕ, suc, ◌+◌, ◌*◌, ◌≤◌, ◌≡◌, Bool, true, false, cond, ◌&&◌, ◌||◌, not}
use Rattle.std.proofs.Common.{List, [], ◌∷◌, length, eqb, refl, sym, ap, arith, inl, inr, subst}
use Rattle.std.proofs.Common.{eq-eqb, eqb-true}
use Rattle.list_laws.specs.Sets.{holds, chosen}
use Rattle.mill_model.specs.Slab.{Mill, colours}
use Rattle.mill_model.specs.Pairs.{complement}
use Rattle.mill_model.specs.declared.order.Order.{Order}
use Rattle.list_laws.proofs.Tests.{and-left, either}
use Rattle.pair_split.specs.Splits.{colours_in, front, grouped}
use Rattle.pair_split.specs.States.{IsPart, IsWithin, has_front, loaded, row, state_of, with_first}
use Rattle.pair_split.specs.States.{with_order, with_second}
use Rattle.pair_split.specs.declared.state.State.{State}

or-left-false : (a b : Bool) → (a || b) ≡ false → a ≡ false
or-left-false a b h = grind arith

or-right-false : (a b : Bool) → (a || b) ≡ false → b ≡ false
or-right-false a b h = grind arith

-- a colour that is nowhere is in no set
pub chosen-lacks : (c : ℕ) (rest : List Order) (set : List Bool) →
    holds c (colours_in rest) ≡ false → holds c (colours_in (chosen set rest)) ≡ false
chosen-lacks c rest [] h = refl
chosen-lacks c [] (m ∷ set) h = refl
chosen-lacks c (o ∷ rest) (false ∷ set) h =
    chosen-lacks c rest set (or-right-false (eqb c o.colour) _ h)
chosen-lacks c (o ∷ rest) (true ∷ set) h =
    let a : eqb c o.colour ≡ false = or-left-false (eqb c o.colour) _ h in
    rw a (chosen-lacks c rest set (or-right-false (eqb c o.colour) _ h))

-- whether a set has the colour of an order in front of grouped ones is known from its first colour
pub front-known : (o : Order) (rest : List Order) (set : List Bool) → grouped (o ∷ rest) ≡ true →
    holds o.colour (colours_in (chosen set rest))
    ≡ (eqb o.colour (front rest) && has_front rest set)
front-known o rest set g = elim (either (eqb o.colour (front rest))) [
  | inl e ↦ (let same : o.colour ≡ front rest = eqb-true _ _ e in
      rw e (ap (λ c. holds c (colours_in (chosen set rest))) same))
  | inr e ↦ (let k : (eqb o.colour (front rest) || not (holds o.colour (colours_in rest))) ≡ true =
      and-left _ (grouped rest) g in
      let n : holds o.colour (colours_in rest) ≡ false =
      lacks (eqb o.colour (front rest)) (holds o.colour (colours_in rest)) e k in
      rw e (chosen-lacks o.colour rest set n))
]
  where
    lacks : (a b : Bool) → a ≡ false → (a || not b) ≡ true → b ≡ false
    lacks a b e k = grind arith

abbrev state : ℕ → ℕ → ℕ → Bool → Bool → State
state l f s x y = record { load = l; first = f; second = s; on_first = x; on_second = y }

make : (l m f g s t : ℕ) (x y u v : Bool) → l ≡ m → f ≡ g → s ≡ t → x ≡ y → u ≡ v →
    state l f s x u ≡ state m g t y v
make l m f g s t x y u v a b c d e = rw (a, b, c, d, e)

pub same : (s t : State) → s.load ≡ t.load → s.first ≡ t.first → s.second ≡ t.second →
    s.on_first ≡ t.on_first → s.on_second ≡ t.on_second → s ≡ t
same s t a b c d e =
    make s.load t.load s.first t.first s.second t.second s.on_first t.on_first s.on_second
    t.on_second a b c d e

-- the state of a set of one more order
pub state-first : (o : Order) (rest : List Order) (set : List Bool) → grouped (o ∷ rest) ≡ true →
    state_of (o ∷ rest) (true ∷ set)
    ≡ with_first o.weight (eqb o.colour (front rest)) (state_of rest set)
state-first o rest set g =
    let a : holds o.colour (colours_in (chosen set rest))
    ≡ (eqb o.colour (front rest) && has_front rest set) =
    front-known o rest set g in
    let b : holds o.colour (colours_in (chosen (complement set) rest))
    ≡ (eqb o.colour (front rest) && has_front rest (complement set)) =
    front-known o rest (complement set) g in
    let e : eqb o.colour o.colour ≡ true = eq-eqb o.colour o.colour refl in
    same _ _ (omega arith)
    (rw a (one (eqb o.colour (front rest) && has_front rest set) (colours (chosen set rest)))) refl
    (rw e refl) b
  where
    one : (b : Bool) (n : ℕ) → cond b n (suc n) ≡ cond b n (n + 1)
    one true n = refl
    one false n = omega arith

pub state-second : (o : Order) (rest : List Order) (set : List Bool) → grouped (o ∷ rest) ≡ true →
    state_of (o ∷ rest) (false ∷ set) ≡ with_second (eqb o.colour (front rest)) (state_of rest set)
state-second o rest set g =
    let a : holds o.colour (colours_in (chosen set rest))
    ≡ (eqb o.colour (front rest) && has_front rest set) =
    front-known o rest set g in
    let b : holds o.colour (colours_in (chosen (complement set) rest))
    ≡ (eqb o.colour (front rest) && has_front rest (complement set)) =
    front-known o rest (complement set) g in
    let e : eqb o.colour o.colour ≡ true = eq-eqb o.colour o.colour refl in
    same _ _ refl refl
    (rw b (one (eqb o.colour (front rest) && has_front rest (complement set))
    (colours (chosen (complement set) rest)))) a (rw e refl)
  where
    one : (b : Bool) (n : ℕ) → cond b n (suc n) ≡ cond b n (n + 1)
    one true n = refl
    one false n = omega arith

pub state-order : (mark : Bool) (o : Order) (rest : List Order) (set : List Bool) →
    grouped (o ∷ rest) ≡ true →
    state_of (o ∷ rest) (mark ∷ set)
    ≡ with_order mark o.weight (eqb o.colour (front rest)) (state_of rest set)
state-order true o rest set g = state-first o rest set g
state-order false o rest set g = state-second o rest set g

-- a part of a longer list leaves a part of the shorter one
pub within-less : (mill : Mill) (mark : Bool) (weight : ℕ) (same : Bool) (s : State) →
    IsWithin mill (with_order mark weight same s) → IsWithin mill s
within-less mill true w b s h =
    let l : s.load + w ≤ mill.largest = h.light in
    let f : cond (b && s.on_first) s.first (s.first + 1) ≤ mill.most_colours = h.few in
    record {
      light = omega arith;
      few = less (b && s.on_first) s.first mill.most_colours f;
      few_others = h.few_others;
    }
  where
    less : (b : Bool) (n m : ℕ) → cond b n (n + 1) ≤ m → n ≤ m
    less true n m h = h
    less false n m h = omega arith
within-less mill false w b s h =
    let f : cond (b && s.on_second) s.second (s.second + 1) ≤ mill.most_colours = h.few_others in
    record {
      light = h.light;
      few = h.few;
      few_others = less (b && s.on_second) s.second mill.most_colours f;
    }
  where
    less : (b : Bool) (n m : ℕ) → cond b n (n + 1) ≤ m → n ≤ m
    less true n m h = h
    less false n m h = omega arith

pub part-less : (mill : Mill) (mark : Bool) (o : Order) (rest : List Order) (set : List Bool) →
    grouped (o ∷ rest) ≡ true → IsPart mill (o ∷ rest) (mark ∷ set) → IsPart mill rest set
part-less mill mark o rest set g h = record {
  whole = let w : suc (length set) ≡ suc (length rest) = h.whole in omega arith;
  within = within-less mill mark o.weight (eqb o.colour (front rest)) (state_of rest set)
      (subst (IsWithin mill) (state-order mark o rest set g) h.within);
}

pub part-more : (mill : Mill) (mark : Bool) (o : Order) (rest : List Order) (set : List Bool) →
    grouped (o ∷ rest) ≡ true → length set ≡ length rest →
    IsWithin mill (with_order mark o.weight (eqb o.colour (front rest)) (state_of rest set)) →
    IsPart mill (o ∷ rest) (mark ∷ set)
part-more mill mark o rest set g w h = record {
  whole = ap suc w;
  within = subst (IsWithin mill) (sym (state-order mark o rest set g)) h;
}

-- rows tell colours and flags apart, where there are few colours
pub row-apart : (s t : State) → s.first ≤ 8 → s.second ≤ 8 → t.first ≤ 8 → t.second ≤ 8 →
    row s ≡ row t → s ≡ loaded t s.load
row-apart s t a b c d e =
    let r = numbers s.first t.first s.second t.second s.on_first t.on_first s.on_second t.on_second
    a b c d e in
    same s (loaded t s.load) refl r.0 r.1 r.2.0 r.2.1
  where
    numbers : (f g s t : ℕ) (x y u v : Bool) → f ≤ 8 → s ≤ 8 → g ≤ 8 → t ≤ 8 →
        f * 36 + s * 4 + cond x 2 0 + cond u 1 0 ≡ g * 36 + t * 4 + cond y 2 0 + cond v 1 0 →
        (f ≡ g) × (s ≡ t) × ((x ≡ y) × (u ≡ v))
    numbers f g s t true true true true a b c d e = (omega arith, omega arith, (refl, refl))
    numbers f g s t true true true false a b c d e = absurd (omega arith)
    numbers f g s t true true false true a b c d e = absurd (omega arith)
    numbers f g s t true true false false a b c d e = (omega arith, omega arith, (refl, refl))
    numbers f g s t true false true true a b c d e = absurd (omega arith)
    numbers f g s t true false true false a b c d e = absurd (omega arith)
    numbers f g s t true false false true a b c d e = absurd (omega arith)
    numbers f g s t true false false false a b c d e = absurd (omega arith)
    numbers f g s t false true true true a b c d e = absurd (omega arith)
    numbers f g s t false true true false a b c d e = absurd (omega arith)
    numbers f g s t false true false true a b c d e = absurd (omega arith)
    numbers f g s t false true false false a b c d e = absurd (omega arith)
    numbers f g s t false false true true a b c d e = (omega arith, omega arith, (refl, refl))
    numbers f g s t false false true false a b c d e = absurd (omega arith)
    numbers f g s t false false false true a b c d e = absurd (omega arith)
    numbers f g s t false false false false a b c d e = (omega arith, omega arith, (refl, refl))
