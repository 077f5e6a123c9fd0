-- The computed live key of a path is its live key, and there is no other.
use Rattle.std.proofs.Common.{ℕ, zero, suc, ◌+◌, ◌<◌, ◌≤◌, ◌≡◌, ◌≢◌, Bool, true, false, cond, ◌||◌}
use Rattle.std.proofs.Common.{List, [], ◌∷◌, length, map, eqb, ltb, get_or, refl, sym, ap}
use Rattle.std.proofs.Common.{◌∙◌, arith, inl, inr, ltb-true, ltb-false, eqb-true, eq-eqb}
use Rattle.std.proofs.Common.{false-eqb, Ordering, Less, Equal, Greater}
use Rattle.std.specs.Prelude.{Contains}
use Rattle.std.specs.Ordering.{ordering_reverse, is_lt}
use Rattle.std.specs.List.Sorted.{IsPermutation, IsSortedByKey, IsStrictlyIncreasing}
use Rattle.std.proofs.lemmas.List.Sorted.{IsPermutation-refl, IsPermutation-cons}
use Rattle.std.proofs.lemmas.List.Sorted.{IsPermutation-middle, IsPermutation-trans}
use Rattle.list_laws.specs.Sets.{holds}
use Rattle.list_laws.proofs.Tests.{either, clash, or-left, or-right, or-swap}
use Rattle.order_symmetry.specs.Ranked.{RankedOrders, IsRanked}
use Rattle.split_tree.specs.Node.{Node}
use Rattle.split_tree.specs.Keys.{Key, IsLiveKey, IsRisingListOf, group_order, rest_of}
use Rattle.split_tree.specs.KeyLaws.{group_total, key_equal, same-key-is-equal}
use Rattle.split_tree.specs.declared.live_key.KeyGroup.{KeyGroup}
use Rattle.split_tree.proofs.SameKeys.{equal-keys-are-same-live-keys}
use Rattle.core_machine.specs.Places.{put_rising, in_rise, put_group, sorted_groups, coming_at}
use Rattle.core_machine.specs.Places.{groups_at, live_key_at}

-- Rising numbers.

abbrev Rises : List ℕ → Type 0
Rises [] = Unit {0}
Rises (x ∷ []) = Unit {0}
Rises (x ∷ y ∷ ys) = (x < y) × Rises (y ∷ ys)

rises-each : (xs : List ℕ) → Rises xs → IsStrictlyIncreasing xs
rises-each [] h k l = absurd (omega arith)
rises-each (x ∷ []) h k l = absurd (omega arith)
rises-each (x ∷ y ∷ ys) h zero l = h.0
rises-each (x ∷ y ∷ ys) h (suc k) l =
    let e : suc k + 1 ≡ suc (k + 1) = omega arith in
    rw e (rises-each (y ∷ ys) h.1 k (omega arith))

put-rises : (x : ℕ) (xs : List ℕ) → Rises xs → Rises (put_rising x xs)
put-rises x [] h = tt
put-rises x (y ∷ []) h = go (ltb x y) refl (eqb x y) refl
  where
    go : (b : Bool) → ltb x y ≡ b → (s : Bool) → eqb x y ≡ s →
        Rises (cond b (x ∷ y ∷ []) (cond s (y ∷ []) (y ∷ x ∷ [])))
    go true e s q = (ltb-true x y e, tt)
    go false e true q = tt
    go false e false q =
        let a : y ≤ x = ltb-false x y e in
        let n : x ≢ y = false-eqb x y (sym q) in
        (omega arith, tt)
put-rises x (y ∷ z ∷ ys) h =
    go (ltb x y) refl (eqb x y) refl (ltb x z) (eqb x z) (put-rises x (z ∷ ys) h.1)
  where
    go : (b : Bool) → ltb x y ≡ b → (s : Bool) → eqb x y ≡ s → (c d : Bool) →
        Rises (cond c (x ∷ z ∷ ys) (cond d (z ∷ ys) (z ∷ put_rising x ys))) →
        Rises (cond b (x ∷ y ∷ z ∷ ys) (cond s (y ∷ z ∷ ys)
        (y ∷ cond c (x ∷ z ∷ ys) (cond d (z ∷ ys) (z ∷ put_rising x ys)))))
    go true e s q c d r = (ltb-true x y e, h)
    go false e true q c d r = h
    go false e false q true d r =
        let a : y ≤ x = ltb-false x y e in
        let n : x ≢ y = false-eqb x y (sym q) in
        (omega arith, r)
    go false e false q false true r = (h.0, r)
    go false e false q false false r = (h.0, r)

in-rise-rises : (xs : List ℕ) → Rises (in_rise xs)
in-rise-rises [] = tt
in-rise-rises (x ∷ xs) = put-rises x (in_rise xs) (in-rise-rises xs)

put-holds : (n x : ℕ) (xs : List ℕ) → holds n (put_rising x xs) ≡ (eqb n x || holds n xs)
put-holds n x [] = refl
put-holds n x (y ∷ ys) = go (ltb x y) (eqb x y) refl (put-holds n x ys)
  where
    twice : (a b : Bool) → (a || b) ≡ (a || (a || b))
    twice true b = refl
    twice false b = refl

    go : (b s : Bool) → eqb x y ≡ s → holds n (put_rising x ys) ≡ (eqb n x || holds n ys) →
        holds n (cond b (x ∷ y ∷ ys) (cond s (y ∷ ys) (y ∷ put_rising x ys)))
        ≡ (eqb n x || (eqb n y || holds n ys))
    go true s q ih = refl
    go false true q ih =
        ap (λ m. eqb n m || holds n ys) (sym (eqb-true x y q)) ∙ twice (eqb n x) (holds n ys)
        ∙ ap (λ m. eqb n x || (eqb n m || holds n ys)) (eqb-true x y q)
    go false false q ih =
        ap (λ b. eqb n y || b) ih ∙ or-swap (eqb n y) (eqb n x) (holds n ys)

in-rise-holds : (n : ℕ) (xs : List ℕ) → holds n (in_rise xs) ≡ holds n xs
in-rise-holds n [] = refl
in-rise-holds n (x ∷ xs) =
    put-holds n x (in_rise xs) ∙ ap (λ b. eqb n x || b) (in-rise-holds n xs)

contains-holds : (n : ℕ) (xs : List ℕ) (k : ℕ) → k < length xs → get_or xs k n ≡ n →
    holds n xs ≡ true
contains-holds n [] k l e = absurd (omega arith)
contains-holds n (y ∷ xs) zero l e = or-left (eqb n y) (holds n xs) (eq-eqb n y (sym e))
contains-holds n (y ∷ xs) (suc k) l e =
    or-right (eqb n y) (holds n xs) (contains-holds n xs k (omega arith) e)

holds-contains : (n : ℕ) (xs : List ℕ) → holds n xs ≡ true → Contains xs n
holds-contains n [] h = absurd (clash false h refl)
holds-contains n (y ∷ xs) h = elim (either (eqb n y)) [
  | inl e ↦ (zero, omega arith, sym (eqb-true n y e))
  | inr e ↦ (let k : holds n xs ≡ true = rw e at h in let c = holds-contains n xs k in
      (suc c.0, omega (arith, c.1), c.2))
]

pub in-rise-is : (xs : List ℕ) → IsRisingListOf xs (in_rise xs)
in-rise-is xs = record {
  rise = rises-each (in_rise xs) (in-rise-rises xs);
  kept = λ n c. holds-contains n (in_rise xs)
      (in-rise-holds n xs ∙ contains-holds n xs c.0 c.1 c.2);
  only = λ n c. holds-contains n xs
      (sym (in-rise-holds n xs) ∙ contains-holds n (in_rise xs) c.0 c.1 c.2);
}

-- Sorted groups.

abbrev below_group : KeyGroup → KeyGroup → Bool
below_group a b = is_lt (group_order a b)

not-both : (a b : KeyGroup) → below_group a b ≡ true → below_group b a ≡ false
not-both a b h = go (group_order a b) (group_order b a) (group_total.antisymm a b) h
  where
    go : (r s : Ordering) → r ≡ ordering_reverse s → is_lt r ≡ true → is_lt s ≡ false
    go Less Less e h = absurd (cc)
    go Less Equal e h = refl
    go Less Greater e h = refl
    go Equal s e h = absurd (clash false h refl)
    go Greater s e h = absurd (clash false h refl)

-- no group is below the one before it
abbrev Sorts : List KeyGroup → Type 0
Sorts [] = Unit {0}
Sorts (x ∷ []) = Unit {0}
Sorts (x ∷ y ∷ ys) = (below_group y x ≡ false) × Sorts (y ∷ ys)

sorts-each : (xs : List KeyGroup) → Sorts xs →
    IsSortedByKey (λ group. group) group_order xs
sorts-each [] h k d a l = absurd (omega arith)
sorts-each (x ∷ []) h k d a l = absurd (omega arith)
sorts-each (x ∷ y ∷ ys) h zero d a l = h.0
sorts-each (x ∷ y ∷ ys) h (suc k) d a l =
    let e : suc k + 1 ≡ suc (k + 1) = omega arith in
    rw e (sorts-each (y ∷ ys) h.1 k d (omega arith) (omega arith))

put-sorts : (new : KeyGroup) (xs : List KeyGroup) → Sorts xs → Sorts (put_group new xs)
put-sorts new [] h = tt
put-sorts new (x ∷ []) h = go (below_group x new) refl
  where
    go : (b : Bool) → below_group x new ≡ b → Sorts (cond b (x ∷ new ∷ []) (new ∷ x ∷ []))
    go true e = (not-both x new e, tt)
    go false e = (e, tt)
put-sorts new (x ∷ y ∷ ys) h =
    go (below_group x new) refl (below_group y new) (put-sorts new (y ∷ ys) h.1)
  where
    go : (b : Bool) → below_group x new ≡ b → (c : Bool) →
        Sorts (cond c (y ∷ put_group new ys) (new ∷ y ∷ ys)) →
        Sorts (cond b (x ∷ cond c (y ∷ put_group new ys) (new ∷ y ∷ ys)) (new ∷ x ∷ y ∷ ys))
    go true e true r = (h.0, r)
    go true e false r = (not-both x new e, r)
    go false e c r = (e, h)

sorted-sorts : (xs : List KeyGroup) → Sorts (sorted_groups xs)
sorted-sorts [] = tt
sorted-sorts (x ∷ xs) = put-sorts x (sorted_groups xs) (sorted-sorts xs)

put-moves : (new : KeyGroup) (xs : List KeyGroup) → IsPermutation (new ∷ xs) (put_group new xs)
put-moves new [] = IsPermutation-refl (new ∷ [])
put-moves new (x ∷ xs) = go (below_group x new) (put-moves new xs)
  where
    go : (b : Bool) → IsPermutation (new ∷ xs) (put_group new xs) →
        IsPermutation (new ∷ x ∷ xs) (cond b (x ∷ put_group new xs) (new ∷ x ∷ xs))
    go true ih =
        IsPermutation-trans (new ∷ x ∷ xs) (x ∷ new ∷ xs) (x ∷ put_group new xs)
        (IsPermutation-middle (new ∷ []) x xs)
        (IsPermutation-cons x (new ∷ xs) (put_group new xs) ih)
    go false ih = IsPermutation-refl (new ∷ x ∷ xs)

sorted-moves : (xs : List KeyGroup) → IsPermutation xs (sorted_groups xs)
sorted-moves [] = IsPermutation-refl []
sorted-moves (x ∷ xs) =
    IsPermutation-trans (x ∷ xs) (x ∷ sorted_groups xs) (sorted_groups (x ∷ xs))
    (IsPermutation-cons x xs (sorted_groups xs) (sorted-moves xs))
    (put-moves x (sorted_groups xs))

-- the computed key is a live key
pub live-key-is : (ranked : RankedOrders) (path : List ℕ) →
    IsLiveKey (record { ranked = ranked; path = path }) (live_key_at ranked path)
live-key-is ranked path =
    let node : Node = record { ranked = ranked; path = path } in
    record {
      depth = refl;
      coming = coming_at node;
      rising = in-rise-is (map (λ order. order.colour) (rest_of node));
      groups = sorted-moves (groups_at node);
      sorted = sorts-each (sorted_groups (groups_at node)) (sorted-sorts (groups_at node));
    }

-- and there is no other: both are the same as each live key of the path is as itself
pub live-key-one : (ranked : RankedOrders) (path : List ℕ) (key : Key) → IsRanked ranked →
    IsLiveKey (record { ranked = ranked; path = path }) key → key ≡ live_key_at ranked path
live-key-one ranked path key known is =
    same-key-is-equal key (live_key_at ranked path)
    (equal-keys-are-same-live-keys ranked path path key (live_key_at ranked path) known is
    (live-key-is ranked path)
    ∙ sym (equal-keys-are-same-live-keys ranked path path key key known is is)
    ∙ key_equal.refl key)
