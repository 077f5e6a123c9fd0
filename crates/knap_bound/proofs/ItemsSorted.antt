-- The orders as items, and what a sort by colour leaves of them.
use Rattle.std.proofs.Common.{ℕ, zero, suc, ◌+◌, ◌<◌, ◌≡◌, Bool, false, List, []}
use Rattle.std.proofs.Common.{◌∷◌}
use Rattle.std.proofs.Common.{◌++◌, length, take, get_or, eqb, ne_eqb, refl, sym}
use Rattle.std.proofs.Common.{ap}
use Rattle.std.proofs.Common.{◌∙◌, subst, arith}
use Rattle.std.specs.List.{All, AllByRecursion, IsDistinct}
use Rattle.std.specs.List.Sorted.{IsPermutation, IsNonDecreasingBy}
use Rattle.std.proofs.lemmas.List.Sorted.{length_permutation, All-permutation}
use Rattle.std.proofs.lemmas.List.Sorted.{Contains-permutation}
use Rattle.std.proofs.lemmas.Map.Keys.{IsDistinct-cons, apart_from_distinct}
use Rattle.std.proofs.lemmas.Map.Keys.{IsDistinct-IsPermutation}
use Rattle.mill_model.specs.declared.order.Order.{Order}
use Rattle.set_minima.specs.Packs.{colour_at}
use Rattle.knap_bound.specs.Items.{no_item, item_at, AreItems}
use Rattle.knap_bound.specs.declared.orders_by_colour.Item.{Item}

-- the orders from a place on as items
abbrev pub items_from : ℕ → List Order → List Item
items_from p [] = []
items_from p (order ∷ rest) =
    record { place = p; colour = order.colour } ∷ items_from (suc p) rest

pub items-from-length : (p : ℕ) (rest : List Order) → length (items_from p rest) ≡ length rest
items-from-length p [] = refl
items-from-length p (o ∷ rest) = ap suc (items-from-length (suc p) rest)

item-from : (p t : ℕ) (rest : List Order) (d : Item) → t < length rest →
    get_or (items_from p rest) t d ≡ record { place = p + t; colour = colour_at rest t }
item-from p t [] d h = absurd (omega arith)
item-from p zero (o ∷ rest) d h =
    let e : p ≡ p + 0 = omega arith in
    ap (λ q. record { place = q; colour = o.colour }) e
item-from p (suc t) (o ∷ rest) d h =
    let e : suc p + t ≡ p + suc t = omega arith in
    item-from (suc p) t rest d (omega arith)
    ∙ ap (λ q. record { place = q; colour = colour_at rest t }) e

-- the same from the first place on
first-item : (t : ℕ) (rest : List Order) (d : Item) → t < length rest →
    get_or (items_from 0 rest) t d ≡ record { place = t; colour = colour_at rest t }
first-item t rest d h =
    let e : 0 + t ≡ t = omega arith in
    item-from 0 t rest d h ∙ ap (λ q. record { place = q; colour = colour_at rest t }) e

pub items-from-more : (t : ℕ) (rest : List Order) → t < length rest →
    take (t + 1) (items_from 0 rest)
    ≡ take t (items_from 0 rest) ++ record { place = t; colour = colour_at rest t } ∷ []
items-from-more t rest h =
    let e : t + 1 ≡ suc t = omega arith in
    let z : 0 + t ≡ t = omega arith in
    rw e (go t 0 rest h ∙ ap (λ q. take t (items_from 0 rest)
    ++ record { place = q; colour = colour_at rest t } ∷ []) z)
  where
    go : (t p : ℕ) (rest : List Order) → t < length rest →
        take (suc t) (items_from p rest)
        ≡ take t (items_from p rest) ++ record { place = p + t; colour = colour_at rest t } ∷ []
    go t p [] h = absurd (omega arith)
    go zero p (o ∷ rest) h =
        let e : p ≡ p + 0 = omega arith in
        ap (λ q. record { place = q; colour = o.colour } ∷ []) e
    go (suc t) p (o ∷ rest) h =
        let e : suc p + t ≡ p + suc t = omega arith in
        ap (λ l. record { place = p; colour = o.colour } ∷ l)
        (go t (suc p) rest (omega arith)
        ∙ ap (λ q. take t (items_from (suc p) rest)
        ++ record { place = q; colour = colour_at rest t } ∷ []) e)

abbrev same_place : Item → Item → Bool
same_place a b = eqb a.place b.place

packing-apart : (p q : ℕ) (c : ℕ) (rest : List Order) → p < q →
    AllByRecursion (λ y. same_place (record { place = p; colour = c }) y ≡ false)
    (items_from q rest)
packing-apart p q c [] l = tt
packing-apart p q c (o ∷ rest) l =
    (ne_eqb p q (omega arith), packing-apart p (suc q) c rest (omega arith))

all-apart : (p : ℕ) (rest : List Order) → IsDistinct same_place (items_from p rest)
unfolding IsDistinct
all-apart p [] = tt
all-apart p (o ∷ rest) =
    IsDistinct-cons same_place (record { place = p; colour = o.colour }) (items_from (suc p) rest)
    (packing-apart p (suc p) o.colour rest (omega arith)) (all-apart (suc p) rest)

flips : (x y : Item) → same_place x y ≡ same_place y x
flips x y = grind arith

-- an item of one of the orders
abbrev IsItem : List Order → Item → Type 0
IsItem rest item = (item.place < length rest) × (item.colour ≡ colour_at rest item.place)

each-item : (rest : List Order) → All (IsItem rest) (items_from 0 rest)
each-item rest t d h =
    let n : length (items_from 0 rest) ≡ length rest = items-from-length 0 rest in
    let e : get_or (items_from 0 rest) t d ≡ record { place = t; colour = colour_at rest t } =
    first-item t rest d (omega arith) in
    let l : t < length rest = omega arith in
    subst (IsItem rest) (sym e) (l, refl)

pub sorted-items : (rest : List Order) (items : List Item) →
    IsPermutation (items_from 0 rest) items →
    IsNonDecreasingBy (λ (item : Item). item.colour) items → AreItems rest items
sorted-items rest items moved rises =
    let n : length items ≡ length rest =
    length_permutation (items_from 0 rest) items moved ∙ items-from-length 0 rest in
    let each = All-permutation (IsItem rest) (items_from 0 rest) items moved (each-item rest) in
    let apart = IsDistinct-IsPermutation same_place flips (items_from 0 rest) items moved
    (all-apart 0 rest) in
    record {
      count = n;
      inside = λ t h. (each t no_item h).0;
      coloured = λ t h. (each t no_item h).1;
      rise = λ s t a b. rises s t no_item a b;
      apart = λ s t a b. apart_from_distinct same_place items s t no_item apart a b;
      all = λ i h.
          let e : get_or (items_from 0 rest) i (record { place = i; colour = colour_at rest i })
          ≡ record { place = i; colour = colour_at rest i } =
          first-item i rest (record { place = i; colour = colour_at rest i }) h in
          let m : length (items_from 0 rest) ≡ length rest = items-from-length 0 rest in
          let r = Contains-permutation (items_from 0 rest) items
          (record { place = i; colour = colour_at rest i }) moved (i, omega arith, e) in
          (r.0, r.1, placed r.0 i (colour_at rest i) r.1 r.2);
    }
  where
    placed : (k i c : ℕ) → k < length items →
        get_or items k (record { place = i; colour = c }) ≡ record { place = i; colour = c } →
        (item_at items k).place ≡ i
    placed k i c h e =
        ap (λ (x : Item). x.place) (other items k no_item (record { place = i; colour = c }) h ∙ e)
      where
        other : (xs : List Item) (k : ℕ) (a b : Item) → k < length xs →
            get_or xs k a ≡ get_or xs k b
        other [] k a b h = absurd (omega arith)
        other (x ∷ xs) zero a b h = refl
        other (x ∷ xs) (suc k) a b h = other xs k a b (omega arith)
