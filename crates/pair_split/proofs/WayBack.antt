-- The table of no orders, and one order back from a state.
use Rattle.std.proofs.Common.{ℕ, suc, ◌+◌, ◌*◌, ◌/◌, ◌%◌, ◌^◌, ◌<◌, ◌≤◌, ◌≡◌, Bool, true, false}
use Rattle.std.proofs.Common.{cond, List, [], ◌∷◌, ◌++◌, length, drop, eqb, refl, sym, ap, ◌∙◌}
use Rattle.std.proofs.Common.{arith, inl, inr, subst, get_or, set, get_or-set_same}
use Rattle.std.proofs.Common.{get_or-set_other, eq-eqb, eqb-true, take}
use Rattle.std.proofs.lemmas.Bool.{cases_eq}
use Rattle.std.proofs.lemmas.Nat.{row_fits}
use Rattle.std.proofs.lemmas.Nat.Bits.{bit_at-zero, bit_at-pow_other, shr_and_one}
use Rattle.std.specs.Prelude.{bit_and, ◌↔◌}
use Rattle.std.specs.Int.{bit_at}
use Rattle.std.proofs.Math.Seq.{drop-cons}
use Rattle.std.proofs.lemmas.List.{take_all, drop_all, append-nil}
use Rattle.mill_model.specs.Slab.{Mill}
use Rattle.mill_model.specs.declared.order.Order.{Order}
use Rattle.list_laws.proofs.Tests.{last-or-below}
use Rattle.pair_split.specs.Splits.{front, grouped}
use Rattle.pair_split.specs.States.{IsPart, IsWithin, loaded, row, state_of, with_order}
use Rattle.pair_split.specs.Tables.{Comes, IsTable, Marked, row_bit}
use Rattle.pair_split.specs.declared.state.State.{State}
use Rattle.pair_split.proofs.Front.{same, row-apart, state-order, part-less, part-more}
use Rattle.pair_split.proofs.OneMore.{nobody, whole-set}

pub marked-tests : (words : ℕ) (table : List ℕ) (s : State) (r : ℕ) → r ≡ row s →
    (eqb (bit_and (get_or table (r * words + s.load / 64) 0 / 2 ^ (s.load % 64)) 1) 1 ≡ true) ↔
    Marked words table s
unfolding row_bit
marked-tests words table s r e =
    subst (λ q. (eqb (bit_and (get_or table (r * words + s.load / 64) 0 / 2 ^ (s.load % 64)) 1) 1
    ≡ true) ↔ bit_at (get_or table (q * words + s.load / 64) 0) (s.load % 64) ≡ 1) e
    (rw shr_and_one (eqb-true _ 1, eq-eqb _ 1))

module _ (mill : Mill) (words : ℕ) (some : 0 < words) (none : List ℕ) (long : 0 < length none)
    (clear : (k : ℕ) → get_or none k 0 ≡ 0) where
  first-only : (r l : ℕ) → row_bit words (set none 0 1) r l ≡ 1 → (r ≡ 0) × (l ≡ 0)
  unfolding row_bit
  first-only r l h = elim (cases_eq (r * words + l / 64) 0) [
    | inr d ↦ (let e : bit_at (get_or (set none 0 1) (r * words + l / 64) 0) (l % 64) ≡ 0 =
        ap (λ w. bit_at w (l % 64))
        (get_or-set_other none 0 (r * words + l / 64) 1 0 d ∙ clear (r * words + l / 64))
        ∙ bit_at-zero (l % 64) in
        absurd (omega (arith, e, h)))
    | inl q ↦ (let e : bit_at (get_or (set none 0 1) (r * words + l / 64) 0) (l % 64)
        ≡ bit_at 1 (l % 64) =
        ap (λ w. bit_at w (l % 64))
        (ap (λ j. get_or (set none 0 1) j 0) q ∙ get_or-set_same none 0 1 0 long) in
        elim (cases_eq (l % 64) 0) [
          | inr d ↦ (let z = bit_at-pow_other 0 (l % 64) d in absurd (omega (arith, e, h, z)))
          | inl z ↦ elim (cases_eq r 0) [
            | inl y ↦ (y, omega (arith, q, z))
            | inr d ↦ (let f = row_fits 0 words r words (omega (arith, d)) (omega arith) in
                absurd (omega (arith, f, q, some)))
          ]
        ])
  ]

  empty-state : (s : State) → row s ≡ 0 → s.load ≡ 0 → state_of [] [] ≡ s
  empty-state s e l =
      let n = go s.first s.second s.on_first s.on_second e in
      same (state_of [] []) s (sym l) (sym n.0) (sym n.1) (sym n.2.0) (sym n.2.1)
    where
      go : (f g : ℕ) (x y : Bool) → f * 36 + g * 4 + cond x 2 0 + cond y 1 0 ≡ 0 →
          (f ≡ 0) × (g ≡ 0) × ((x ≡ false) × (y ≡ false))
      go f g true true e = absurd (omega arith)
      go f g true false e = absurd (omega arith)
      go f g false true e = absurd (omega arith)
      go f g false false e = (omega arith, omega arith, (refl, refl))

  first-marked : Marked words (set none 0 1) (state_of [] [])
  unfolding row_bit
  first-marked =
      let e : 0 * words + 0 / 64 ≡ 0 = omega arith in
      ap (λ w. bit_at w 0)
      (ap (λ j. get_or (set none 0 1) j 0) e ∙ get_or-set_same none 0 1 0 long)

  pub start-table : IsTable mill words [] (set none 0 1)
  start-table = record {
    found = λ s h m. (let f = first-only (row s) s.load m in
        let e = empty-state s f.0 f.1 in
        ([], record { whole = refl; within = subst (IsWithin mill) (sym e) h }, e));
    every = every;
  }
    where
      every : (marks : List Bool) → IsPart mill [] marks →
          Marked words (set none 0 1) (state_of [] marks)
      every [] h = first-marked
      every (m ∷ marks) h = let e : suc (length marks) ≡ 0 = h.whole in absurd (omega arith)

-- the layers that were tried
pub tried-more : (mill : Mill) (few : mill.most_colours ≤ 8) (words weight : ℕ) (same : Bool)
    (at layer : State) (table : List ℕ) (n : ℕ) → row layer ≡ n → layer.first ≤ 8 →
    layer.second ≤ 8 →
    ((s : State) → row s < n → IsWithin mill s → Marked words table s → (mark : Bool) →
    with_order mark weight same s ≡ at → ⊥) →
    ((l : ℕ) → IsWithin mill (loaded layer l) → Marked words table (loaded layer l) →
    (mark : Bool) → with_order mark weight same (loaded layer l) ≡ at → ⊥) →
    (s : State) → row s < n + 1 → IsWithin mill s → Marked words table s → (mark : Bool) →
    with_order mark weight same s ≡ at → ⊥
tried-more mill few words weight same at layer table n re lf ls before here s l h m mark e =
    elim (last-or-below (row s) n (omega arith)) [
      | inr b ↦ before s b h m mark e
      | inl q ↦ (let a : s.first ≤ mill.most_colours = h.few in
          let b : s.second ≤ mill.most_colours = h.few_others in
          let k : s ≡ loaded layer s.load =
          row-apart s layer (omega arith) (omega arith) lf ls (q ∙ sym re) in
          here s.load (subst (IsWithin mill) k h) (subst (Marked words table) k m) mark
          (subst (λ x. with_order mark weight same x ≡ at) k e))
    ]

-- some layer leads there
pub back-found : (mill : Mill) (few : mill.most_colours ≤ 8) (words weight : ℕ) (same : Bool)
    (at : State) (table : List ℕ) (n : ℕ) → 36 * (mill.most_colours + 1) ≤ n →
    ((s : State) → row s < n → IsWithin mill s → Marked words table s → (mark : Bool) →
    with_order mark weight same s ≡ at → ⊥) →
    Comes mill words weight same table at → ⊥
back-found mill few words weight same at table n big none c =
    none c.state
    (go c.state.first c.state.second c.state.on_first c.state.on_second mill.most_colours n
    c.within.few c.within.few_others few big) c.within c.marked c.mark c.to
  where
    go : (f s : ℕ) (x y : Bool) (p n : ℕ) → f ≤ p → s ≤ p → p ≤ 8 → 36 * (p + 1) ≤ n →
        f * 36 + s * 4 + cond x 2 0 + cond y 1 0 < n
    go f s true true p n a b h k = omega arith
    go f s true false p n a b h k = omega arith
    go f s false true p n a b h k = omega arith
    go f s false false p n a b h k = omega arith

-- what comes from the last order of a part
pub part-comes : (mill : Mill) (words : ℕ) (orders : List Order) (i : ℕ) → i < length orders →
    grouped (drop i orders) ≡ true → (table : List ℕ) →
    IsTable mill words (drop (suc i) orders) table → (at : State) →
    (set : List Bool) × IsPart mill (drop i orders) set × (state_of (drop i orders) set ≡ at) →
    Comes mill words (get_or orders i nobody).weight
    (eqb (get_or orders i nobody).colour (front (drop (suc i) orders))) table at
part-comes mill words orders i here g table t at r =
    let d = drop-cons orders i nobody here in
    go (get_or orders i nobody) (drop (suc i) orders) t (subst (λ l. grouped l ≡ true) d g)
    (subst (λ l. (set : List Bool) × IsPart mill l set × (state_of l set ≡ at)) d r)
  where
    go : (o : Order) (rest : List Order) → IsTable mill words rest table →
        grouped (o ∷ rest) ≡ true →
        (set : List Bool) × IsPart mill (o ∷ rest) set × (state_of (o ∷ rest) set ≡ at) →
        Comes mill words o.weight (eqb o.colour (front rest)) table at
    go o rest t g r =
        let w = whole-set mill o rest r.0 r.1 in
        let h : IsPart mill (o ∷ rest) (w.0 ∷ w.1) = subst (IsPart mill (o ∷ rest)) w.2 r.1 in
        let q = part-less mill w.0 o rest w.1 g h in
        record {
          mark = w.0;
          state = state_of rest w.1;
          within = q.within;
          marked = t.every w.1 q;
          to = sym (state-order w.0 o rest w.1 g) ∙ ap (state_of (o ∷ rest)) (sym w.2) ∙ r.2;
        }

append-one : (xs : List Bool) (m : Bool) (ys : List Bool) → (xs ++ m ∷ []) ++ ys ≡ xs ++ m ∷ ys
append-one [] m ys = refl
append-one (x ∷ xs) m ys = ap (λ l. x ∷ l) (append-one xs m ys)

-- a part with one more order
pub part-back : (mill : Mill) (orders : List Order) (i : ℕ) → i < length orders →
    grouped (drop i orders) ≡ true → (m : Bool) (before at : State) →
    with_order m (get_or orders i nobody).weight
    (eqb (get_or orders i nobody).colour (front (drop (suc i) orders))) before ≡ at →
    IsWithin mill at → (set : List Bool) → IsPart mill (drop (suc i) orders) set →
    state_of (drop (suc i) orders) set ≡ before →
    IsPart mill (drop i orders) (m ∷ set) × (state_of (drop i orders) (m ∷ set) ≡ at)
part-back mill orders i here g m before at e w set h q =
    let d = drop-cons orders i nobody here in
    let gg : grouped (get_or orders i nobody ∷ drop (suc i) orders) ≡ true =
    subst (λ l. grouped l ≡ true) d g in
    let k : with_order m (get_or orders i nobody).weight
    (eqb (get_or orders i nobody).colour (front (drop (suc i) orders)))
    (state_of (drop (suc i) orders) set) ≡ at =
    ap (with_order m (get_or orders i nobody).weight
    (eqb (get_or orders i nobody).colour (front (drop (suc i) orders)))) q
    ∙ e in
    subst (λ l. IsPart mill l (m ∷ set) × (state_of l (m ∷ set) ≡ at)) (sym d) (
      part-more mill m (get_or orders i nobody) (drop (suc i) orders) set gg h.whole
          (subst (IsWithin mill) (sym k) w),
      state-order m (get_or orders i nobody) (drop (suc i) orders) set gg ∙ k,
    )

-- a mark more of the set
pub leads-more : (mill : Mill) (orders : List Order) (items now : List Bool) (m : Bool)
    (at before target : State) (i : ℕ) → i < length orders → grouped (drop i orders) ≡ true →
    now ≡ items ++ m ∷ [] →
    with_order m (get_or orders i nobody).weight
    (eqb (get_or orders i nobody).colour (front (drop (suc i) orders))) before ≡ at →
    IsWithin mill at →
    ((set : List Bool) → IsPart mill (drop i orders) set → state_of (drop i orders) set ≡ at →
    IsPart mill orders (items ++ set) × (state_of orders (items ++ set) ≡ target)) →
    (set : List Bool) → IsPart mill (drop (i + 1) orders) set →
    state_of (drop (i + 1) orders) set ≡ before →
    IsPart mill orders (now ++ set) × (state_of orders (now ++ set) ≡ target)
leads-more mill orders items now m at before target i here g is e w leads set h q =
    let n : i + 1 ≡ suc i = omega arith in
    let b = part-back mill orders i here g m before at e w set
    (subst (λ n. IsPart mill (drop n orders) set) n h)
    (subst (λ n. state_of (drop n orders) set ≡ before) n q) in
    let l = leads (m ∷ set) b.0 b.1 in
    let a : now ++ set ≡ items ++ m ∷ set = ap (λ x. x ++ set) is ∙ append-one items m set in
    subst (λ s. IsPart mill orders s × (state_of orders s ≡ target)) (sym a) l

pub table-at : (mill : Mill) (words : ℕ) (orders : List Order) (i : ℕ) (table : List ℕ) →
    IsTable mill words (drop (i + 1) orders) table → IsTable mill words (drop (suc i) orders) table
table-at mill words orders i table t =
    let n : i + 1 ≡ suc i = omega arith in
    subst (λ n. IsTable mill words (drop n orders) table) n t

-- the same table by another name of its place
pub table-moved : (mill : Mill) (words : ℕ) (orders : List Order) (i j : ℕ) (table : List ℕ) →
    i ≡ j → IsTable mill words (drop i orders) table → IsTable mill words (drop j orders) table
table-moved mill words orders i j table e t =
    subst (λ n. IsTable mill words (drop n orders) table) e t

-- where all orders are gone through, the marks are the split
pub all-marked : (mill : Mill) (orders : List Order) (marks : List Bool) (i : ℕ)
    (at target : State) →
    length orders ≤ i → length marks ≡ length orders →
    (set : List Bool) × IsPart mill (drop i orders) set × (state_of (drop i orders) set ≡ at) →
    ((set : List Bool) → IsPart mill (drop i orders) set → state_of (drop i orders) set ≡ at →
    IsPart mill orders (take i marks ++ set)
    × (state_of orders (take i marks ++ set) ≡ target)) →
    IsPart mill orders marks × (state_of orders marks ≡ target)
all-marked mill orders marks i at target end whole reached leads =
    let rest : drop i orders ≡ [] = drop_all i orders end in
    let none : reached.0 ≡ [] = empty-marks reached.0
    (reached.1.whole ∙ ap length rest) in
    let all : take i marks ++ reached.0 ≡ marks =
    ap (λ s. take i marks ++ s) none ∙ append-nil (take i marks)
    ∙ take_all i marks (omega (arith, whole)) in
    subst (λ s. IsPart mill orders s × (state_of orders s ≡ target)) all
    (leads reached.0 reached.1 reached.2)
  where
    empty-marks : (marks : List Bool) → length marks ≡ 0 → marks ≡ []
    empty-marks [] e = refl
    empty-marks (m ∷ marks) e = absurd (omega (arith, e))
