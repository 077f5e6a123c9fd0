-- The orders with their places, and what a sort by colour leaves of them.
use Rattle.std.proofs.Common.{ℕ, zero, suc, ◌+◌, ◌<◌, ◌≡◌, Bool, false, List, []}
use Rattle.std.proofs.Common.{◌∷◌}
use Rattle.std.proofs.Common.{◌++◌, length, take, get_or, eqb, ne_eqb, refl, sym}
use Rattle.std.proofs.Common.{ap}
use Rattle.std.proofs.Common.{◌∙◌, subst, arith}
use Rattle.std.specs.List.{All, AllByRecursion, IsDistinct}
use Rattle.std.specs.List.Sorted.{IsPermutation, IsNonDecreasingBy}
use Rattle.std.proofs.lemmas.List.Sorted.{length_permutation, All-permutation}
use Rattle.std.proofs.lemmas.List.Sorted.{Contains-permutation}
use Rattle.std.proofs.lemmas.Map.Keys.{IsDistinct-cons, apart_from_distinct}
use Rattle.std.proofs.lemmas.Map.Keys.{IsDistinct-IsPermutation}
use Rattle.mill_model.specs.declared.order.Order.{Order}
use Rattle.set_minima.specs.Packs.{colour_at}
use Rattle.colour_tables.specs.Stretches.{no_coloured, coloured_at, IsByColour}
use Rattle.colour_tables.specs.declared.by_colour.Coloured.{Coloured}

-- the orders from a place on, with their places
abbrev pub coloured_from : ℕ → List Order → List Coloured
coloured_from p [] = []
coloured_from p (order ∷ rest) =
    record { place = p; colour = order.colour } ∷ coloured_from (suc p) rest

pub coloured-from-length : (p : ℕ) (rest : List Order) → length (coloured_from p rest) ≡ length rest
coloured-from-length p [] = refl
coloured-from-length p (o ∷ rest) = ap suc (coloured-from-length (suc p) rest)

item-from : (p t : ℕ) (rest : List Order) (d : Coloured) → t < length rest →
    get_or (coloured_from p rest) t d ≡ record { place = p + t; colour = colour_at rest t }
item-from p t [] d h = absurd (omega arith)
item-from p zero (o ∷ rest) d h =
    let e : p ≡ p + 0 = omega arith in
    ap (λ q. record { place = q; colour = o.colour }) e
item-from p (suc t) (o ∷ rest) d h =
    let e : suc p + t ≡ p + suc t = omega arith in
    item-from (suc p) t rest d (omega arith)
    ∙ ap (λ q. record { place = q; colour = colour_at rest t }) e

-- the same from the first place on
first-item : (t : ℕ) (rest : List Order) (d : Coloured) → t < length rest →
    get_or (coloured_from 0 rest) t d ≡ record { place = t; colour = colour_at rest t }
first-item t rest d h =
    let e : 0 + t ≡ t = omega arith in
    item-from 0 t rest d h ∙ ap (λ q. record { place = q; colour = colour_at rest t }) e

pub coloured-from-more : (t : ℕ) (rest : List Order) → t < length rest →
    take (t + 1) (coloured_from 0 rest)
    ≡ take t (coloured_from 0 rest) ++ record { place = t; colour = colour_at rest t } ∷ []
coloured-from-more t rest h =
    let e : t + 1 ≡ suc t = omega arith in
    let z : 0 + t ≡ t = omega arith in
    rw e (go t 0 rest h ∙ ap (λ q. take t (coloured_from 0 rest)
    ++ record { place = q; colour = colour_at rest t } ∷ []) z)
  where
    go : (t p : ℕ) (rest : List Order) → t < length rest →
        take (suc t) (coloured_from p rest)
        ≡ take t (coloured_from p rest) ++ record { place = p + t; colour = colour_at rest t } ∷ []
    go t p [] h = absurd (omega arith)
    go zero p (o ∷ rest) h =
        let e : p ≡ p + 0 = omega arith in
        ap (λ q. record { place = q; colour = o.colour } ∷ []) e
    go (suc t) p (o ∷ rest) h =
        let e : suc p + t ≡ p + suc t = omega arith in
        ap (λ l. record { place = p; colour = o.colour } ∷ l)
        (go t (suc p) rest (omega arith)
        ∙ ap (λ q. take t (coloured_from (suc p) rest)
        ++ record { place = q; colour = colour_at rest t } ∷ []) e)

abbrev same_place : Coloured → Coloured → Bool
same_place a b = eqb a.place b.place

later-apart : (p q : ℕ) (c : ℕ) (rest : List Order) → p < q →
    AllByRecursion (λ y. same_place (record { place = p; colour = c }) y ≡ false)
    (coloured_from q rest)
later-apart p q c [] l = tt
later-apart p q c (o ∷ rest) l =
    (ne_eqb p q (omega arith), later-apart p (suc q) c rest (omega arith))

all-apart : (p : ℕ) (rest : List Order) → IsDistinct same_place (coloured_from p rest)
unfolding IsDistinct
all-apart p [] = tt
all-apart p (o ∷ rest) =
    IsDistinct-cons same_place (record { place = p; colour = o.colour }) (coloured_from (suc p)
    rest)
    (later-apart p (suc p) o.colour rest (omega arith)) (all-apart (suc p) rest)

flips : (x y : Coloured) → same_place x y ≡ same_place y x
flips x y = grind arith

-- an item of one of the orders
abbrev IsItem : List Order → Coloured → Type 0
IsItem rest item = (item.place < length rest) × (item.colour ≡ colour_at rest item.place)

each-item : (rest : List Order) → All (IsItem rest) (coloured_from 0 rest)
each-item rest t d h =
    let n : length (coloured_from 0 rest) ≡ length rest = coloured-from-length 0 rest in
    let e : get_or (coloured_from 0 rest) t d ≡ record { place = t; colour = colour_at rest t } =
    first-item t rest d (omega arith) in
    let l : t < length rest = omega arith in
    subst (IsItem rest) (sym e) (l, refl)

pub sorted-orders : (rest : List Order) (items : List Coloured) →
    IsPermutation (coloured_from 0 rest) items →
    IsNonDecreasingBy (λ (item : Coloured). item.colour) items → IsByColour rest items
sorted-orders rest items moved rises =
    let n : length items ≡ length rest =
    length_permutation (coloured_from 0 rest) items moved ∙ coloured-from-length 0 rest in
    let each = All-permutation (IsItem rest) (coloured_from 0 rest) items moved (each-item rest) in
    let apart = IsDistinct-IsPermutation same_place flips (coloured_from 0 rest) items moved
    (all-apart 0 rest) in
    record {
      count = n;
      inside = λ t h. (each t no_coloured h).0;
      coloured = λ t h. (each t no_coloured h).1;
      rise = λ s t a b. rises s t no_coloured a b;
      apart = λ s t a b. apart_from_distinct same_place items s t no_coloured apart a b;
      all = λ i h.
          let e : get_or (coloured_from 0 rest) i (record { place = i; colour = colour_at rest i })
          ≡ record { place = i; colour = colour_at rest i } =
          first-item i rest (record { place = i; colour = colour_at rest i }) h in
          let m : length (coloured_from 0 rest) ≡ length rest = coloured-from-length 0 rest in
          let r = Contains-permutation (coloured_from 0 rest) items
          (record { place = i; colour = colour_at rest i }) moved (i, omega arith, e) in
          (r.0, r.1, placed r.0 i (colour_at rest i) r.1 r.2);
    }
  where
    placed : (k i c : ℕ) → k < length items →
        get_or items k (record { place = i; colour = c }) ≡ record { place = i; colour = c } →
        (coloured_at items k).place ≡ i
    placed k i c h e =
        ap (λ (x : Coloured). x.place) (other items k no_coloured (record { place = i; colour = c })
        h ∙ e)
      where
        other : (xs : List Coloured) (k : ℕ) (a b : Coloured) → k < length xs →
            get_or xs k a ≡ get_or xs k b
        other [] k a b h = absurd (omega arith)
        other (x ∷ xs) zero a b h = refl
        other (x ∷ xs) (suc k) a b h = other xs k a b (omega arith)
