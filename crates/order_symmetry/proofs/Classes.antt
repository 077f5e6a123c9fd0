-- Numbers of ranked orders, sorted within classes, are the settled ones.
use Rattle.std.proofs.Common.{ℕ, zero, suc, ◌+◌, ◌<◌, ◌≤◌, ◌≡◌, true, false, cond, ◌&&◌, ◌||◌, not}
use Rattle.std.proofs.Common.{List, [], ◌∷◌, ◌++◌, map, length, get_or, take, ltb, leb, refl, sym}
use Rattle.std.proofs.Common.{ap, ◌∙◌, arith, inl, inr, subst, Some}
use Rattle.std.proofs.lemmas.Bool.Decides.{nat_tests}
use Rattle.std.proofs.lemmas.List.Sorted.{IsPermutation-map}
use Rattle.std.proofs.lemmas.List.{take_more, take_all}
use Rattle.std.specs.List.{slice_get}
use Rattle.std.specs.List.Sorted.{IsPermutation, IsSortedBy}
use Rattle.list_laws.specs.Sets.{times, SameTimes}
use Rattle.mill_model.specs.Rank.{Placed, is_before, same_order, rank, ranked_orders, precedes}
use Rattle.mill_model.specs.Rank.{same_placed}
use Rattle.mill_model.specs.declared.order.Order.{Order}
use Rattle.list_laws.proofs.Tests.{and-left, and-right, either}
use Rattle.list_laws.proofs.InOrder.{sorted-in-order, times-moved}
use Rattle.mill_laws.proofs.Ranking.{rank-rising, one-in-order, precedes-is-an-order}
use Rattle.mill_laws.specs.RankLaws.{Rising}
use Rattle.mill_laws.proofs.Settle.{put, settle, rises, settle-rises, settle-length, same_order-eq}
use Rattle.order_symmetry.specs.Numbered.{placed_of, stands_before}
use Rattle.order_symmetry.specs.Twins.{numbered_by, SortsWithinClasses}
use Rattle.order_symmetry.specs.declared.numbered.Numbered.{Numbered}
use Rattle.order_symmetry.proofs.Ranks.{sorted-map}

abbrev pub placed_by : List Order → List ℕ → List Placed
placed_by orders numbers = map placed_of (numbered_by orders numbers)

-- no order stands before the one ahead of it
abbrev pub Ordered : List Order → Type 0
Ordered [] = Unit {0}
Ordered (o ∷ []) = Unit {0}
Ordered (o ∷ p ∷ orders) = (is_before p o ≡ false) × Ordered (p ∷ orders)

not-back : (x y : Placed) → precedes x y ≡ true → is_before y.order x.order ≡ false
not-back x y h = grind (arith, nat_tests)

ordered-rising : (xs : List Placed) → Rising xs → Ordered (map (λ x. x.order) xs)
ordered-rising [] r = tt
ordered-rising (x ∷ []) r = tt
ordered-rising (x ∷ y ∷ xs) r = (not-back x y r.0.0, ordered-rising (y ∷ xs) r.1)

pub ranked-ordered : (orders : List Order) → Ordered (ranked_orders orders)
ranked-ordered orders = ordered-rising (rank orders) (rank-rising 0 orders)

-- each number goes in among those of its class, so the orders have the same numbers
put-times : (x : Placed) (a : ℕ) (orders : List Order) (more : List ℕ) →
    times same_placed x (placed_by orders (put a orders more)) ≡ times same_placed x
    (placed_by orders (a ∷ more))
put-times x a [] [] = refl
put-times x a (o ∷ orders) [] = refl
put-times x a [] (b ∷ more) = refl
put-times x a (o ∷ []) (b ∷ more) = refl
put-times x a (o ∷ p ∷ orders) (b ∷ more) = elim (either (same_order o p && ltb b a)) [
  | inl e ↦ (let same : o ≡ p = same_order-eq o p (and-left (same_order o p) (ltb b a) e) in
      let ih : times same_placed x (placed_by (p ∷ orders) (put a (p ∷ orders) more)) ≡ times
      same_placed x (placed_by (p ∷ orders) (a ∷ more)) = put-times x a (p ∷ orders) more in
      rw (e, same) (omega arith))
  | inr e ↦ rw e refl
]

settle-times : (orders : List Order) (numbers : List ℕ) →
    SameTimes same_placed (placed_by orders (settle orders numbers)) (placed_by orders numbers)
settle-times [] [] x = refl
settle-times (o ∷ orders) [] x = refl
settle-times [] (a ∷ more) x = refl
settle-times (o ∷ orders) (a ∷ more) x =
    put-times x a (o ∷ orders) (settle orders more)
    ∙ ap (λ n. cond (same_placed x (record { order = o; place = a })) 1 0 + n)
    (settle-times orders more x)

-- orders in rank whose numbers rise within classes are sorted
step : (o p : Order) (g h : ℕ) → is_before p o ≡ false → (not (same_order o p) || leb g h) ≡ true →
    precedes (record { order = p; place = h }) (record { order = o; place = g }) ≡ false
step o p g h e r = grind (arith, nat_tests)

sorted-cons : (x y : Placed) (xs : List Placed) → precedes y x ≡ false →
    IsSortedBy precedes (y ∷ xs) → IsSortedBy precedes (x ∷ y ∷ xs)
sorted-cons x y xs e up zero d l m = e
sorted-cons x y xs e up (suc k) d l m =
    let q : suc k + 1 ≡ suc (k + 1) = omega arith in
    rw q (up k d (omega arith) (omega arith))

sorted-one : (x : Placed) → IsSortedBy precedes (x ∷ [])
sorted-one x k d l m = absurd (omega arith)

sorted-none : IsSortedBy precedes []
sorted-none k d l m = absurd (omega arith)

rising-sorted : (orders : List Order) (numbers : List ℕ) → Ordered orders →
    rises orders numbers ≡ true → IsSortedBy precedes (placed_by orders numbers)
rising-sorted [] numbers o r = sorted-none
rising-sorted (a ∷ orders) [] o r = sorted-none
rising-sorted (a ∷ []) (g ∷ []) o r = sorted-one (record { order = a; place = g })
rising-sorted (a ∷ []) (g ∷ h ∷ more) o r = sorted-one (record { order = a; place = g })
rising-sorted (a ∷ b ∷ orders) (g ∷ []) o r = sorted-one (record { order = a; place = g })
rising-sorted (a ∷ b ∷ orders) (g ∷ h ∷ more) o r =
    sorted-cons (record { order = a; place = g }) (record { order = b; place = h })
    (placed_by orders more)
    (step a b g h o.0 (and-left (not (same_order a b) || leb g h) _ r))
    (rising-sorted (b ∷ orders) (h ∷ more) o.1 (and-right (not (same_order a b) || leb g h) _ r))

-- sorted, they are the settled ones
pub sorted-settled : (orders : List Order) (numbers : List ℕ) (items : List Numbered) →
    Ordered orders → IsPermutation (numbered_by orders numbers) items →
    IsSortedBy stands_before items → map placed_of items ≡ placed_by orders (settle orders numbers)
sorted-settled orders numbers items o p up =
    one-in-order (map placed_of items) (placed_by orders (settle orders numbers))
    (sorted-in-order precedes precedes-is-an-order (map placed_of items) (sorted-map items up))
    (sorted-in-order precedes precedes-is-an-order (placed_by orders (settle orders numbers))
    (rising-sorted orders (settle orders numbers) o (settle-rises orders numbers))) (λ x.
    times-moved same_placed x (placed_by orders numbers) (map placed_of items)
    (IsPermutation-map placed_of (numbered_by orders numbers) items p)
    ∙ sym (settle-times orders numbers x))

-- the numbers alone
numbers-back : (orders : List Order) (numbers : List ℕ) → length numbers ≤ length orders →
    map (λ x. x.place) (placed_by orders numbers) ≡ numbers
numbers-back [] [] l = refl
numbers-back [] (g ∷ numbers) l = absurd (omega arith)
numbers-back (o ∷ orders) [] l = refl
numbers-back (o ∷ orders) (g ∷ numbers) l =
    ap (λ xs. g ∷ xs) (numbers-back orders numbers (omega arith))

numbers-in : (items : List Numbered) →
    map (λ x. x.place) (map placed_of items) ≡ map (λ (n : Numbered). n.number) items
numbers-in [] = refl
numbers-in (x ∷ items) = ap (λ xs. x.number ∷ xs) (numbers-in items)

-- and back
abbrev numbered : Placed → Numbered
numbered x = record { order = x.order; number = x.place }

unplaced : (items : List Numbered) →
    map (λ (x : Placed). numbered x) (map placed_of items) ≡ items
unplaced [] = refl
unplaced (x ∷ items) = ap (λ xs. x ∷ xs) (unplaced items)

pub sorts : (orders : List Order) (numbers : List ℕ) (items : List Numbered) → Ordered orders →
    length numbers ≡ length orders → IsPermutation (numbered_by orders numbers) items →
    IsSortedBy stands_before items →
    SortsWithinClasses orders numbers (map (λ (n : Numbered). n.number) items)
sorts orders numbers items o e p up =
    let settled : List ℕ = settle orders numbers in
    let sorted : List ℕ = map (λ (n : Numbered). n.number) items in
    let placed : map placed_of items ≡ placed_by orders settled =
    sorted-settled orders numbers items o p up in
    let long : length settled ≡ length numbers = settle-length orders numbers in
    let is : sorted ≡ settled =
    sym (numbers-in items) ∙ ap (λ (xs : List Placed). map (λ x. x.place) xs) placed
    ∙ numbers-back orders settled (omega arith) in
    let same : items ≡ numbered_by orders sorted =
    sym (unplaced items) ∙ ap (λ (xs : List Placed). map numbered xs) placed
    ∙ unplaced (numbered_by orders settled) ∙ ap (numbered_by orders) (sym is) in
    record {
      long = rw is long;
      same = subst (λ xs. IsPermutation (numbered_by orders numbers) xs) same p;
      rise = subst (λ xs. IsSortedBy stands_before xs) same up;
    }

pub sorts-numbers : (orders : List Order) (numbers sorted : List ℕ) →
    length numbers ≡ length orders → SortsWithinClasses orders numbers sorted →
    IsPermutation numbers sorted
sorts-numbers orders numbers sorted e s =
    let long : length sorted ≡ length numbers = s.long in
    let from : map (λ (n : Numbered). n.number) (numbered_by orders numbers) ≡ numbers =
    sym (numbers-in (numbered_by orders numbers)) ∙ numbers-back orders numbers (omega arith) in
    let to : map (λ (n : Numbered). n.number) (numbered_by orders sorted) ≡ sorted =
    sym (numbers-in (numbered_by orders sorted)) ∙ numbers-back orders sorted (omega arith) in
    subst (λ xs. IsPermutation xs sorted) from (subst (λ ys. IsPermutation (map (λ (n : Numbered).
    n.number) (numbered_by orders numbers)) ys) to (IsPermutation-map (λ (n : Numbered). n.number)
    (numbered_by orders numbers) (numbered_by orders sorted) s.same))

pub sorts-settled : (orders : List Order) (numbers sorted : List ℕ) → Ordered orders →
    length numbers ≡ length orders → SortsWithinClasses orders numbers sorted →
    sorted ≡ settle orders numbers
sorts-settled orders numbers sorted o e s =
    let long : length sorted ≡ length numbers = s.long in
    let wide : length (settle orders numbers) ≡ length numbers = settle-length orders numbers in
    sym (numbers-back orders sorted (omega arith)) ∙ ap (λ (xs : List Placed).
    map (λ x. x.place) xs) (sorted-settled orders numbers (numbered_by orders sorted) o s.same
    s.rise)
    ∙ numbers-back orders (settle orders numbers) (omega arith)

-- one more order with its number
numbered-length : (orders : List Order) (numbers : List ℕ) → length numbers ≡ length orders →
    length (numbered_by orders numbers) ≡ length orders
numbered-length [] numbers e = refl
numbered-length (o ∷ orders) [] e = e
numbered-length (o ∷ orders) (g ∷ numbers) e =
    ap suc (numbered-length orders numbers (omega arith))

numbered-at : (orders : List Order) (numbers : List ℕ) (i : ℕ) (order : Order) (d : Numbered) →
    i < length numbers → slice_get orders i ≡ Some order →
    get_or (numbered_by orders numbers) i d ≡ record {
      order = order;
      number = get_or numbers i 0;
    }
numbered-at [] numbers i order d l e = absurd (cc)
numbered-at (o ∷ orders) [] i order d l e = absurd (omega arith)
numbered-at (o ∷ orders) (g ∷ numbers) zero order d l e =
    let same : o ≡ order = cc in λ t. record { order = same t; number = g }
numbered-at (o ∷ orders) (g ∷ numbers) (suc i) order d l e =
    numbered-at orders numbers i order d (omega arith) e

pub numbered-more : (orders : List Order) (numbers : List ℕ) (items : List Numbered) (i : ℕ)
    (order : Order) → length numbers ≡ length orders → i < length orders →
    slice_get orders i ≡ Some order → items ≡ take i (numbered_by orders numbers) →
    items ++ record { order = order; number = get_or numbers i 0 } ∷ [] ≡ take (i + 1)
    (numbered_by orders numbers)
numbered-more orders numbers items i order e l s h =
    let x : Numbered = record { order = order; number = get_or numbers i 0 } in
    let n : length (numbered_by orders numbers) ≡ length orders =
    numbered-length orders numbers e in
    let here : get_or (numbered_by orders numbers) i x ≡ x =
    numbered-at orders numbers i order x (omega arith) s in
    rw (take_more (numbered_by orders numbers) i x (omega arith), here) (ap (λ xs. xs ++ x ∷ []) h)

pub numbered-all : (orders : List Order) (numbers : List ℕ) (i : ℕ) →
    length numbers ≡ length orders →
    length orders ≤ i → take i (numbered_by orders numbers) ≡ numbered_by orders numbers
numbered-all orders numbers i e l =
    let n : length (numbered_by orders numbers) ≡ length orders =
    numbered-length orders numbers e in take_all i (numbered_by orders numbers) (omega arith)
