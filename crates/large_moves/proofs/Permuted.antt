-- The same orders on the same slabs, in another order.
use Rattle.std.proofs.Common.{ℕ, zero, suc, ◌+◌, ◌≡◌, Bool, true, false, cond, ◌&&◌, ◌||◌, not}
use Rattle.std.proofs.Common.{List, [], ◌∷◌, ◌++◌, map, length, eqb, leb, ltb, refl, sym, ap, ap₂}
use Rattle.std.proofs.Common.{◌∙◌, arith, inl, inr, subst, sum_by, get_or, set}
use Rattle.std.specs.List.{list_any, swap}
use Rattle.std.specs.List.Sorted.{IsPermutation, apply_swaps, SwapsInRange}
use Rattle.std.proofs.lemmas.List.Sorted.{sum_by-IsPermutation, list_any-IsPermutation}
use Rattle.std.proofs.lemmas.List.Sorted.{IsPermutation-sym, length_permutation}
use Rattle.std.proofs.lemmas.List.Sums.{sum_by-cons}
use Rattle.std.proofs.lemmas.List.{map-set}
use Rattle.list_laws.specs.Sets.{chosen, holds, total, sets}
use Rattle.mill_model.specs.Slab.{Mill, load, colours, legal}
use Rattle.mill_model.specs.Plan.{slab, loss}
use Rattle.mill_model.specs.Pairs.{complement, not_bettered, closed_pair, one_of, pair_loss}
use Rattle.mill_model.specs.Pairs.{pairs_with, pairs_below, pairs_of}
use Rattle.mill_model.specs.declared.order.Order.{Order}
use Rattle.list_laws.proofs.Sums.{total-cong}
use Rattle.list_laws.proofs.Among.{Among, all-among, among-sets}
use Rattle.list_laws.proofs.Tests.{either}
use Rattle.list_laws.proofs.Different.{different-same}
use Rattle.pair_split.specs.Splits.{colours_in}
use Rattle.pair_split.proofs.CheapestSplit.{all-sets}

-- an order with its slab, and whether it is in a set
abbrev pub Lying : Type 0
Lying = Order × ℕ

abbrev pub Marked : Type 0
Marked = Lying × Bool

abbrev pub orders_of : List Lying → List Order
orders_of zs = map (λ z. z.0) zs

abbrev pub plan_of : List Lying → List ℕ
plan_of zs = map (λ z. z.1) zs

-- the marks of the orders of a kind
abbrev pub marks_of : (ℕ → Bool) → List Marked → List Bool
marks_of kind [] = []
marks_of kind (u ∷ us) = cond (kind u.0.1) (u.1 ∷ marks_of kind us) (marks_of kind us)

abbrev pub items_of : (ℕ → Bool) → List Lying → List Order
items_of kind zs = chosen (map kind (plan_of zs)) (orders_of zs)

abbrev pub lying : List Marked → List Lying
lying us = map (λ u. u.0) us

-- the load and the colours of the marked ones of a kind, by a test on the mark
abbrev pub flip_marks : (Bool → Bool) → List Bool → List Bool
flip_marks f marks = map f marks

marked-load : (f : Bool → Bool) (kind : ℕ → Bool) (us : List Marked) →
    load (chosen (map f (marks_of kind us)) (items_of kind (lying us)))
    ≡ sum_by (λ u. cond (kind u.0.1 && f u.1) u.0.0.weight 0) us
marked-load f kind [] = refl
marked-load f kind (u ∷ us) =
    go (kind u.0.1) (f u.1) refl (marked-load f kind us)
    ∙ sym (sum_by-cons (λ u. cond (kind u.0.1 && f u.1) u.0.0.weight 0) u us)
  where
    go : (k m : Bool) → f u.1 ≡ m →
        load (chosen (map f (marks_of kind us)) (items_of kind (lying us)))
        ≡ sum_by (λ u. cond (kind u.0.1 && f u.1) u.0.0.weight 0) us →
        load (chosen
        (map f (cond k (u.1 ∷ marks_of kind us) (marks_of kind us)))
        (cond k (u.0.0 ∷ items_of kind (lying us)) (items_of kind (lying us))))
        ≡ cond (k && m) u.0.0.weight 0 + sum_by (λ u. cond (kind u.0.1 && f u.1) u.0.0.weight 0) us
    go false m e ih = omega (arith, ih)
    go true true e ih = rw e (omega (arith, ih))
    go true false e ih = rw e (omega (arith, ih))

marked-holds : (f : Bool → Bool) (kind : ℕ → Bool) (c : ℕ) (us : List Marked) →
    holds c (colours_in (chosen (map f (marks_of kind us)) (items_of kind (lying us))))
    ≡ list_any (λ u. (kind u.0.1 && f u.1) && eqb c u.0.0.colour) us
marked-holds f kind c [] = refl
marked-holds f kind c (u ∷ us) = go (kind u.0.1) (f u.1) refl (marked-holds f kind c us)
  where
    go : (k m : Bool) → f u.1 ≡ m →
        holds c (colours_in (chosen (map f (marks_of kind us)) (items_of kind (lying us))))
        ≡ list_any (λ u. (kind u.0.1 && f u.1) && eqb c u.0.0.colour) us →
        holds c (colours_in (chosen
        (map f (cond k (u.1 ∷ marks_of kind us) (marks_of kind us)))
        (cond k (u.0.0 ∷ items_of kind (lying us)) (items_of kind (lying us)))))
        ≡ (((k && m) && eqb c u.0.0.colour)
        || list_any (λ u. (kind u.0.1 && f u.1) && eqb c u.0.0.colour) us)
    go false m e ih = ih
    go true true e ih = rw e (ap (λ b. eqb c u.0.0.colour || b) ih)
    go true false e ih = rw e ih

-- one part of marked orders weighs the same and has as many colours in another order
part-same : (f : Bool → Bool) (kind : ℕ → Bool) (us vs : List Marked) → IsPermutation us vs →
    (load (chosen (map f (marks_of kind us)) (items_of kind (lying us)))
    ≡ load (chosen (map f (marks_of kind vs)) (items_of kind (lying vs))))
    × (colours (chosen (map f (marks_of kind us)) (items_of kind (lying us)))
    ≡ colours (chosen (map f (marks_of kind vs)) (items_of kind (lying vs))))
part-same f kind us vs p = (
  marked-load f kind us
      ∙ sym (sum_by-IsPermutation (λ u. cond (kind u.0.1 && f u.1) u.0.0.weight 0) us vs p)
      ∙ sym (marked-load f kind vs),
  different-same (colours_in (chosen (map f (marks_of kind us)) (items_of kind (lying us))))
      (colours_in (chosen (map f (marks_of kind vs)) (items_of kind (lying vs))))
      (λ c. marked-holds f kind c us
      ∙ list_any-IsPermutation (λ u. (kind u.0.1 && f u.1) && eqb c u.0.0.colour) us vs p
      ∙ sym (marked-holds f kind c vs)),
)

complement-map : (marks : List Bool) → complement marks ≡ map not marks
complement-map [] = refl
complement-map (m ∷ marks) = ap (λ l. not m ∷ l) (complement-map marks)

same-map : (marks : List Bool) → marks ≡ map (λ m. m) marks
same-map [] = refl
same-map (m ∷ marks) = ap (λ l. m ∷ l) (same-map marks)

-- any set of the orders of a kind comes from marks of all
spread : (kind : ℕ → Bool) (zs : List Lying) (set : List Bool) →
    length set ≡ length (items_of kind zs) →
    (us : List Marked) × (lying us ≡ zs) × (marks_of kind us ≡ set)
spread kind [] [] e = ([], refl, refl)
spread kind [] (m ∷ set) e = absurd (omega arith)
spread kind (z ∷ zs) set e = elim (either (kind z.1)) [
  | inl k ↦ one set (rw k at e) k (λ set e. spread kind zs set e)
  | inr k ↦ (let r = spread kind zs set (rw k at e) in
      ((z, false) ∷ r.0, ap (λ l. z ∷ l) r.1, rw k r.2))
]
  where
    one : (set : List Bool) → length set ≡ suc (length (items_of kind zs)) → kind z.1 ≡ true →
        ((set : List Bool) → length set ≡ length (items_of kind zs) →
        (us : List Marked) × (lying us ≡ zs) × (marks_of kind us ≡ set)) →
        (us : List Marked) × (lying us ≡ z ∷ zs) × (marks_of kind us ≡ set)
    one [] e k ih = absurd (omega arith)
    one (m ∷ set) e k ih =
        let r = ih set (omega arith) in
        ((z, m) ∷ r.0, ap (λ l. z ∷ l) r.1, rw k (ap (λ l. m ∷ l) r.2))

marks-length : (kind : ℕ → Bool) (us : List Marked) →
    length (marks_of kind us) ≡ length (items_of kind (lying us))
marks-length kind [] = refl
marks-length kind (u ∷ us) =
    elim (either (kind u.0.1)) [
      | inl k ↦ rw k (ap suc (marks-length kind us))
      | inr k ↦ rw k (marks-length kind us)
    ]

-- without marks
lying-load : (kind : ℕ → Bool) (zs : List Lying) →
    load (items_of kind zs) ≡ sum_by (λ z. cond (kind z.1) z.0.weight 0) zs
lying-load kind [] = refl
lying-load kind (z ∷ zs) =
    go (kind z.1) (lying-load kind zs) ∙ sym (sum_by-cons (λ z. cond (kind z.1) z.0.weight 0) z zs)
  where
    go : (k : Bool) → load (items_of kind zs) ≡ sum_by (λ z. cond (kind z.1) z.0.weight 0) zs →
        load (cond k (z.0 ∷ items_of kind zs) (items_of kind zs))
        ≡ cond k z.0.weight 0 + sum_by (λ z. cond (kind z.1) z.0.weight 0) zs
    go false ih = omega (arith, ih)
    go true ih = omega (arith, ih)

lying-holds : (kind : ℕ → Bool) (c : ℕ) (zs : List Lying) →
    holds c (colours_in (items_of kind zs)) ≡ list_any (λ z. kind z.1 && eqb c z.0.colour) zs
lying-holds kind c [] = refl
lying-holds kind c (z ∷ zs) = go (kind z.1) (lying-holds kind c zs)
  where
    go : (k : Bool) →
        holds c (colours_in (items_of kind zs)) ≡ list_any (λ z. kind z.1 && eqb c z.0.colour) zs →
        holds c (colours_in (cond k (z.0 ∷ items_of kind zs) (items_of kind zs)))
        ≡ ((k && eqb c z.0.colour) || list_any (λ z. kind z.1 && eqb c z.0.colour) zs)
    go false ih = ih
    go true ih = ap (λ b. eqb c z.0.colour || b) ih

pub items-load : (kind : ℕ → Bool) (zs ys : List Lying) → IsPermutation zs ys →
    load (items_of kind zs) ≡ load (items_of kind ys)
items-load kind zs ys p =
    lying-load kind zs
    ∙ sym (sum_by-IsPermutation (λ z. cond (kind z.1) z.0.weight 0) zs ys p)
    ∙ sym (lying-load kind ys)

pub items-colours : (kind : ℕ → Bool) (zs ys : List Lying) → IsPermutation zs ys →
    colours (items_of kind zs) ≡ colours (items_of kind ys)
items-colours kind zs ys p =
    different-same (colours_in (items_of kind zs)) (colours_in (items_of kind ys))
    (λ c. lying-holds kind c zs
    ∙ list_any-IsPermutation (λ z. kind z.1 && eqb c z.0.colour) zs ys p
    ∙ sym (lying-holds kind c ys))

-- the same exchanges of marked ones
get-lying : (xs : List Marked) (i : ℕ) (d : Marked) → get_or (lying xs) i d.0 ≡ (get_or xs i d).0
get-lying [] i d = refl
get-lying (x ∷ xs) zero d = refl
get-lying (x ∷ xs) (suc i) d = get-lying xs i d

map-swap : (xs : List Marked) (i j : ℕ) → lying (swap xs i j) ≡ swap (lying xs) i j
map-swap [] i j = refl
map-swap (d ∷ ys) i j =
    map-set (λ u. u.0) (set (d ∷ ys) i (get_or (d ∷ ys) j d)) j (get_or (d ∷ ys) i d)
    ∙ (λ k. set ((map-set (λ (u : Marked). u.0) (d ∷ ys) i (get_or (d ∷ ys) j d)
    ∙ ap (set (lying (d ∷ ys)) i) (sym (get-lying (d ∷ ys) j d))) k) j
    (sym (get-lying (d ∷ ys) i d) k))

map-swaps : (xs : List Marked) (ps : List (ℕ × ℕ)) →
    lying (apply_swaps xs ps) ≡ apply_swaps (lying xs) ps
map-swaps xs [] = refl
map-swaps xs (p ∷ ps) =
    map-swap (apply_swaps xs ps) p.0 p.1 ∙ ap (λ l. swap l p.0 p.1) (map-swaps xs ps)

lying-length : (us : List Marked) → length (lying us) ≡ length us
lying-length [] = refl
lying-length (u ∷ us) = ap suc (lying-length us)

lift : (us : List Marked) (zs : List Lying) → IsPermutation (lying us) zs →
    (vs : List Marked) × IsPermutation us vs × (lying vs ≡ zs)
lift us zs p = (
  apply_swaps us p.moves,
  record {
    moves = p.moves;
    below = subst (λ n. SwapsInRange n p.moves) (lying-length us) p.below;
    is = refl;
  },
  map-swaps us p.moves ∙ sym p.is,
)

module _ (mill : Mill) (charge : ℕ → ℕ) where
  abbrev test : ℕ → List Order → List Bool → Bool
  test bound items set =
      not (legal mill (chosen set items) && legal mill (chosen (complement set) items))
      || leb bound
      (charge (load (chosen set items)) + charge (load (chosen (complement set) items)))

  test-same : (bound : ℕ) (kind : ℕ → Bool) (us vs : List Marked) → IsPermutation us vs →
      (not (legal mill (chosen (marks_of kind us) (items_of kind (lying us)))
      && legal mill (chosen (complement (marks_of kind us)) (items_of kind (lying us))))
      || leb bound (charge (load (chosen (marks_of kind us) (items_of kind (lying us))))
      + charge (load (chosen (complement (marks_of kind us)) (items_of kind (lying us))))))
      ≡ (not (legal mill (chosen (marks_of kind vs) (items_of kind (lying vs)))
      && legal mill (chosen (complement (marks_of kind vs)) (items_of kind (lying vs))))
      || leb bound (charge (load (chosen (marks_of kind vs) (items_of kind (lying vs))))
      + charge (load (chosen (complement (marks_of kind vs)) (items_of kind (lying vs))))))
  test-same bound kind us vs p =
      let a = part-same (λ m. m) kind us vs p in
      let b = part-same not kind us vs p in
      let la : load (chosen (marks_of kind us) (items_of kind (lying us)))
      ≡ load (chosen (marks_of kind vs) (items_of kind (lying vs))) =
      ap (λ m. load (chosen m (items_of kind (lying us)))) (same-map (marks_of kind us))
      ∙ a.0
      ∙ ap (λ m. load (chosen m (items_of kind (lying vs)))) (sym (same-map (marks_of kind vs))) in
      let ca : colours (chosen (marks_of kind us) (items_of kind (lying us)))
      ≡ colours (chosen (marks_of kind vs) (items_of kind (lying vs))) =
      ap (λ m. colours (chosen m (items_of kind (lying us)))) (same-map (marks_of kind us))
      ∙ a.1
      ∙ ap (λ m. colours (chosen m (items_of kind (lying vs))))
      (sym (same-map (marks_of kind vs))) in
      let lb : load (chosen (complement (marks_of kind us)) (items_of kind (lying us)))
      ≡ load (chosen (complement (marks_of kind vs)) (items_of kind (lying vs))) =
      ap (λ m. load (chosen m (items_of kind (lying us)))) (complement-map (marks_of kind us))
      ∙ b.0
      ∙ ap (λ m. load (chosen m (items_of kind (lying vs))))
      (sym (complement-map (marks_of kind vs))) in
      let cb : colours (chosen (complement (marks_of kind us)) (items_of kind (lying us)))
      ≡ colours (chosen (complement (marks_of kind vs)) (items_of kind (lying vs))) =
      ap (λ m. colours (chosen m (items_of kind (lying us)))) (complement-map (marks_of kind us))
      ∙ b.1
      ∙ ap (λ m. colours (chosen m (items_of kind (lying vs))))
      (sym (complement-map (marks_of kind vs))) in
      rw (la, ca, lb, cb) refl

  pub not-bettered-same : (bound : ℕ) (kind : ℕ → Bool) (zs ys : List Lying) →
      IsPermutation zs ys → not_bettered mill charge bound (items_of kind zs) ≡ true →
      not_bettered mill charge bound (items_of kind ys) ≡ true
  not-bettered-same bound kind zs ys p h =
      all-sets (length (items_of kind ys)) _ (λ set e. one set e)
    where
      one : (set : List Bool) → length set ≡ length (items_of kind ys) →
          (not (legal mill (chosen set (items_of kind ys))
          && legal mill (chosen (complement set) (items_of kind ys)))
          || leb bound (charge (load (chosen set (items_of kind ys)))
          + charge (load (chosen (complement set) (items_of kind ys))))) ≡ true
      one set e =
          let r = spread kind ys set e in
          let q : IsPermutation (lying r.0) zs =
          subst (λ l. IsPermutation l zs) (sym r.1) (IsPermutation-sym zs ys p) in
          let v = lift r.0 zs q in
          let n : length (marks_of kind v.0) ≡ length (items_of kind zs) =
          marks-length kind v.0 ∙ ap (λ l. length (items_of kind l)) v.2 in
          let there : test bound (items_of kind zs) (marks_of kind v.0) ≡ true =
          all-among _ (marks_of kind v.0) (sets (length (items_of kind zs))) h
          (subst (λ n. Among (marks_of kind v.0) (sets n)) n (among-sets (marks_of kind v.0))) in
          let there2 =
          subst (λ l. test bound (items_of kind l) (marks_of kind v.0) ≡ true) (sym v.2) there in
          let here = test-same bound kind r.0 v.0 v.1 ∙ there2 in
          subst (λ marks. test bound (items_of kind ys) marks ≡ true) r.2
          (subst (λ l. test bound (items_of kind l) (marks_of kind r.0) ≡ true) r.1 here)

  pub closed-same : (zs ys : List Lying) (a b : ℕ) → IsPermutation zs ys →
      closed_pair mill charge (orders_of zs) (plan_of zs) a b ≡ true →
      closed_pair mill charge (orders_of ys) (plan_of ys) a b ≡ true
  closed-same zs ys a b p h =
      let x : load (slab a (plan_of zs) (orders_of zs))
      ≡ load (slab a (plan_of ys) (orders_of ys)) =
      items-load (λ t. eqb a t) zs ys p in
      let y : load (slab b (plan_of zs) (orders_of zs))
      ≡ load (slab b (plan_of ys) (orders_of ys)) =
      items-load (λ t. eqb b t) zs ys p in
      let e : pair_loss charge (orders_of zs) (plan_of zs) a b
      ≡ pair_loss charge (orders_of ys) (plan_of ys) a b =
      ap₂ (λ m n. charge m + cond (ltb a b) (charge n) 0) x y in
      let g : not_bettered mill charge (pair_loss charge (orders_of ys) (plan_of ys) a b)
      (items_of (one_of a b) zs) ≡ true =
      subst (λ n. not_bettered mill charge n (items_of (one_of a b) zs) ≡ true) e h in
      not-bettered-same (pair_loss charge (orders_of ys) (plan_of ys) a b) (one_of a b) zs ys p g

  pub loss-same : (zs ys : List Lying) → IsPermutation zs ys →
      loss charge (plan_of zs) (orders_of zs) ≡ loss charge (plan_of ys) (orders_of ys)
  loss-same zs ys p =
      let n : length (orders_of zs) ≡ length (orders_of ys) = lengths zs ys p in
      ap (λ n. total n (λ s. charge (load (slab s (plan_of zs) (orders_of zs))))) n
      ∙ total-cong (length (orders_of ys)) _ _
      (λ s l. ap charge (items-load (λ t. eqb s t) zs ys p))
    where
      lengths : (zs ys : List Lying) → IsPermutation zs ys →
          length (orders_of zs) ≡ length (orders_of ys)
      lengths zs ys p = fst-length zs ∙ sym (length_permutation zs ys p) ∙ sym (fst-length ys)
        where
          fst-length : (zs : List Lying) → length (orders_of zs) ≡ length zs
          fst-length [] = refl
          fst-length (z ∷ zs) = ap suc (fst-length zs)

  pub slab-legal-same : (zs ys : List Lying) (s : ℕ) → IsPermutation zs ys →
      legal mill (slab s (plan_of zs) (orders_of zs))
      ≡ legal mill (slab s (plan_of ys) (orders_of ys))
  slab-legal-same zs ys s p =
      ap₂ (λ l c. leb l mill.largest && leb c mill.most_colours)
      (items-load (λ t. eqb s t) zs ys p) (items-colours (λ t. eqb s t) zs ys p)

-- the same pairs
holds-plan : (s : ℕ) (zs : List Lying) → holds s (plan_of zs) ≡ list_any (λ z. eqb s z.1) zs
holds-plan s [] = refl
holds-plan s (z ∷ zs) = ap (λ b. eqb s z.1 || b) (holds-plan s zs)

pub used-same : (s : ℕ) (zs ys : List Lying) → IsPermutation zs ys →
    holds s (plan_of zs) ≡ holds s (plan_of ys)
used-same s zs ys p =
    holds-plan s zs ∙ list_any-IsPermutation (λ z. eqb s z.1) zs ys p ∙ sym (holds-plan s ys)

with-same : (p q : List ℕ) → ((s : ℕ) → holds s p ≡ holds s q) → (a b : ℕ) →
    pairs_with p a b ≡ pairs_with q a b
with-same p q h a zero = refl
with-same p q h a (suc b) =
    ap₂ (λ x y. x ++ y) (with-same p q h a b)
    (ap₂ (λ x y. cond (leb a b && (x && y)) ((a, b) ∷ []) []) (h a) (h b))

below-same : (p q : List ℕ) → ((s : ℕ) → holds s p ≡ holds s q) → (n a : ℕ) →
    pairs_below p n a ≡ pairs_below q n a
below-same p q h n zero = refl
below-same p q h n (suc a) = ap₂ (λ x y. x ++ y) (below-same p q h n a) (with-same p q h a n)

pub pairs-same : (zs ys : List Lying) → IsPermutation zs ys →
    length (plan_of zs) ≡ length (plan_of ys) → pairs_of (plan_of zs) ≡ pairs_of (plan_of ys)
pairs-same zs ys p e =
    below-same (plan_of zs) (plan_of ys) (λ s. used-same s zs ys p) (length (plan_of zs))
    (length (plan_of zs))
    ∙ ap (λ n. pairs_below (plan_of ys) n n) e
