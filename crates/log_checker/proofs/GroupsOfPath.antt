-- Groups of a path, one order at a time. What is seen of a group (its load, and each colour once)
-- is all that the rules ask: with one order more it is seen as `joined` says, whatever its orders
-- are. So the groups of the first i numbers of a path become those of the first i + 1 by one write,
-- and at the end they are those of the path; of a number that the path doesn't have nothing is
-- seen.
use Rattle.std.proofs.Common.{ℕ, zero, suc, ◌+◌, ◌<◌, ◌≤◌, ◌≡◌, ◌⊎◌, Bool, true, false, cond, ◌&&◌}
use Rattle.std.proofs.Common.{◌||◌, List, [], ◌∷◌, ◌++◌, map, length, take, get_or, eqb, leb, refl}
use Rattle.std.proofs.Common.{sym, ap, ap₂, ◌∙◌, subst, arith, inl, inr, length-append, eq-eqb}
use Rattle.std.proofs.Common.{eqb-true, set, get_or-set_same, get_or-set_other}
use Rattle.std.proofs.Common.{◌*◌, ◌≢◌, drop, ltb, leb-true}
use Rattle.std.specs.List.{list_all}
use Rattle.std.proofs.lemmas.List.{take_all, length-set, append-nil, get_or_past, map-append}
use Rattle.list_laws.specs.Sets.{holds, different}
use Rattle.mill_model.specs.Slab.{Mill, load, colours, legal}
use Rattle.mill_model.specs.Plan.{slab}
use Rattle.mill_model.specs.Tree.{next_new}
use Rattle.mill_model.specs.LiveKey.{has_colour}
use Rattle.mill_model.specs.declared.order.Order.{Order}
use Rattle.mill_model.proofs.Slabs.{load-append}
use Rattle.mill_laws.proofs.Groups.{next_new-le, slab-new}
use Rattle.std.proofs.Math.Seq.{take-append_seam}
use Rattle.list_laws.proofs.Tests.{either, and-left, and-right}
use Rattle.refute_log.specs.Fits.{path_fits}
use Rattle.list_laws.proofs.Different.{holds-append, different-push, holds-below}
use Rattle.log_checker.specs.Groups.{Seen, joined, may_be, IsSeen, nothing_seen, AreGroups}

colours-push : (orders : List Order) (o : Order) →
    colours (orders ++ o ∷ []) ≡ cond (has_colour orders o.colour) (colours orders)
    (suc (colours orders))
colours-push orders o =
    ap different (map-append (λ x. x.colour) orders (o ∷ []))
    ∙ different-push o.colour (map (λ x. x.colour) orders)

pub has-push : (orders : List Order) (o : Order) (c : ℕ) →
    has_colour (orders ++ o ∷ []) c ≡ (has_colour orders c || (eqb c o.colour || false))
has-push orders o c =
    ap (holds c) (map-append (λ x. x.colour) orders (o ∷ []))
    ∙ holds-append c (map (λ x. x.colour) orders) (o.colour ∷ [])

-- one more order
pub seen-push : (seen : Seen) (orders : List Order) (o : Order) → IsSeen seen orders →
    IsSeen (joined seen o) (orders ++ o ∷ [])
seen-push seen orders o s = record {
  weighs =
      let a : load (orders ++ o ∷ []) ≡ load orders + load (o ∷ []) =
      load-append orders (o ∷ []) in let b : seen.load ≡ load orders = s.weighs in omega arith;
  counts = rw colours-push (number (holds o.colour seen.colours) (s.has o.colour));
  has = λ c. rw has-push (same c (holds o.colour seen.colours) refl);
}
  where
    number : (b : Bool) → b ≡ has_colour orders o.colour →
        length (cond b seen.colours (seen.colours ++ o.colour ∷ [])) ≡ cond
        (has_colour orders o.colour) (colours orders) (suc (colours orders))
    number true e = rw (← e) s.counts
    number false e =
        rw (← e) (let a : length (seen.colours ++ o.colour ∷ []) ≡ length seen.colours + 1 =
        length-append seen.colours (o.colour ∷ []) in let b : length seen.colours ≡ colours orders =
        s.counts in omega arith)

    or-true : (b : Bool) → true ≡ (b || (true || false))
    or-true true = refl
    or-true false = refl

    or-false : (b : Bool) → b ≡ (b || (false || false))
    or-false true = refl
    or-false false = refl

    same : (c : ℕ) (b : Bool) → holds o.colour seen.colours ≡ b →
        holds c (cond b seen.colours (seen.colours ++ o.colour ∷ [])) ≡ (has_colour orders c
        || (eqb c o.colour || false))
    same c false e =
        holds-append c seen.colours (o.colour ∷ [])
        ∙ ap (λ b. b || (eqb c o.colour || false)) (s.has c)
    same c true e = elim (either (eqb c o.colour)) [
      | inl q ↦ (let k : c ≡ o.colour = eqb-true c o.colour q in
          rw (q, ap (λ z. holds z seen.colours) k, e) (or-true (has_colour orders c)))
      | inr q ↦ rw q (s.has c ∙ or-false (has_colour orders c))
    ]

pub seen-none : IsSeen (record { load = 0; colours = [] }) []
seen-none = record { weighs = refl; counts = refl; has = λ c. refl }

-- whether a group may take one more order
pub may_be-legal : (mill : Mill) (seen : Seen) (orders : List Order) → IsSeen seen orders →
    may_be mill seen ≡ legal mill orders
may_be-legal mill seen orders s =
    ap₂ (λ a b. leb a mill.largest && leb b mill.most_colours) s.weighs s.counts

-- an order that is put in front of both or of none
put-in-or-not : (o : Order) (b : Bool) (x y z : List Order) → x ≡ y ++ z →
    cond b (o ∷ x) x ≡ cond b (o ∷ y) y ++ z
put-in-or-not o true x y z e = ap (λ l. o ∷ l) e
put-in-or-not o false x y z e = e

-- one more order of the slabs
pub slab-more : (s i : ℕ) (plan : List ℕ) (orders : List Order) (d : Order) → i < length plan →
    i < length orders → slab s (take (suc i) plan) orders ≡ slab s (take i plan) orders
    ++ cond (eqb s (get_or plan i 0)) (get_or orders i d ∷ []) []
slab-more s i [] orders d h k = absurd (omega arith)
slab-more s i (t ∷ plan) [] d h k = absurd (omega arith)
slab-more s zero (t ∷ plan) (o ∷ orders) d h k = refl
slab-more s (suc i) (t ∷ plan) (o ∷ orders) d h k =
    let ih : slab s (take (suc i) plan) orders ≡ slab s (take i plan) orders
    ++ cond (eqb s (get_or plan i 0)) (get_or orders i d ∷ []) [] =
    slab-more s i plan orders d (omega arith) (omega arith) in
    put-in-or-not o (eqb s t) (slab s (take (suc i) plan) orders) (slab s (take i plan) orders)
    (cond (eqb s (get_or plan i 0)) (get_or orders i d ∷ []) []) ih

pub number-below : (i : ℕ) (path : List ℕ) → i < length path → get_or path i 0 < next_new path
number-below i [] h = absurd (omega arith)
number-below zero (g ∷ path) h = omega arith
number-below (suc i) (g ∷ path) h =
    let ih : get_or path i 0 < next_new path = number-below i path (omega arith) in omega arith

-- a path that fits so many orders has no more numbers than that, and names no more groups
pub path-within : (n : ℕ) (path : List ℕ) → path_fits n path ≡ true → length path ≤ n
path-within n path h = leb-true (length path) n (and-left _ (list_all (λ g. ltb g n) path) h)

pub numbers-few : (n : ℕ) (path : List ℕ) → path_fits n path ≡ true → next_new path ≤ n
numbers-few n path h =
    next_new-le n path (λ g k. holds-below n g path
    (and-right (leb (length path) n) (list_all (λ g. ltb g n) path) h) k)

-- groups that were filled in place are as many as there were empty ones
pub filled : (new old : List Seen) (path : List ℕ) (n : ℕ) (ranked : List Order) →
    AreGroups new path ranked → n ≡ next_new path →
    AreGroups (take n (new ++ drop (length new) old)) path ranked
filled new old path n ranked it e =
    let whole : take n (new ++ drop (length new) old) ≡ new =
    ap (λ k. take k (new ++ drop (length new) old)) (e ∙ sym it.count)
    ∙ take-append_seam new (drop (length new) old) in
    subst (λ gs. AreGroups gs path ranked) (sym whole) it

-- the groups of the first numbers of a path
pub record GroupsTo (groups : List Seen) (path : List ℕ) (ranked : List Order) (i : ℕ) : Type 0
  where
    pub count : length groups ≡ next_new path
    pub seen : (g : ℕ) → g < next_new path → IsSeen (get_or groups g nothing_seen)
        (slab g (take i path) ranked)
    pub light : (g : ℕ) → g < next_new path → (get_or groups g nothing_seen).load ≤ i * 1000000

pub groups-more : (groups : List Seen) (path : List ℕ) (ranked : List Order) (i : ℕ) (d : Order) →
    i < length path → i < length ranked → (get_or ranked i d).weight ≤ 1000000 →
    GroupsTo groups path ranked i →
    GroupsTo (set groups (get_or path i 0) (joined (get_or groups (get_or path i 0) nothing_seen)
    (get_or ranked i d))) path ranked (suc i)
groups-more groups path ranked i d h k w it = record {
  count = rw length-set it.count;
  seen = λ g l. rw (slab-more g i path ranked d h k) (elim (either (eqb g (get_or path i 0))) [
    | inl e ↦ (let q : g ≡ get_or path i 0 = eqb-true g (get_or path i 0) e in
        rw (e, q) (here g l q))
    | inr e ↦ (let q : g ≢ get_or path i 0 = differ g (get_or path i 0) e in
        rw (e, get_or-set_other) (rw append-none (it.seen g l)))
  ]);
  light = λ g l. elim (either (eqb g (get_or path i 0))) [
    | inl e ↦ (let q : g ≡ get_or path i 0 = eqb-true g (get_or path i 0) e in rw q (heavy g l q))
    | inr e ↦ (let q : g ≢ get_or path i 0 = differ g (get_or path i 0) e in
        rw get_or-set_other (let b : (get_or groups g nothing_seen).load ≤ i * 1000000 =
        it.light g l in omega arith))
  ];
}
  where
    differ : (a b : ℕ) → eqb a b ≡ false → a ≢ b
    differ a b e q = let z : eqb a b ≡ true = eq-eqb a b q in let y : true ≡ false = rw z at e in cc

    append-none : {xs : List Order} → xs ++ [] ≡ xs
    append-none {xs} = append-nil xs

    put : get_or (set groups (get_or path i 0) (joined (get_or groups (get_or path i 0)
        nothing_seen) (get_or ranked i d))) (get_or path i 0) nothing_seen ≡ joined
        (get_or groups (get_or path i 0) nothing_seen) (get_or ranked i d)
    put =
        get_or-set_same groups (get_or path i 0) (joined
        (get_or groups (get_or path i 0) nothing_seen) (get_or ranked i d)) nothing_seen
        (let a : get_or path i 0 < next_new path = number-below i path h in
        let b : length groups ≡ next_new path = it.count in omega arith)

    here : (g : ℕ) → g < next_new path → g ≡ get_or path i 0 →
        IsSeen (get_or (set groups (get_or path i 0) (joined
        (get_or groups (get_or path i 0) nothing_seen) (get_or ranked i d))) (get_or path i 0)
        nothing_seen) (slab (get_or path i 0) (take i path) ranked ++ get_or ranked i d ∷ [])
    here g l q =
        subst (λ x. IsSeen x (slab (get_or path i 0) (take i path) ranked
        ++ get_or ranked i d ∷ [])) (sym put) (seen-push
        (get_or groups (get_or path i 0) nothing_seen) (slab (get_or path i 0) (take i path) ranked)
        (get_or ranked i d) (it.seen (get_or path i 0) (number-below i path h)))

    heavy : (g : ℕ) → g < next_new path → g ≡ get_or path i 0 →
        (get_or (set groups (get_or path i 0) (joined (get_or groups (get_or path i 0) nothing_seen)
        (get_or ranked i d))) (get_or path i 0) nothing_seen).load ≤ suc i * 1000000
    heavy g l q =
        subst (λ (x : Seen). x.load ≤ suc i * 1000000) (sym put)
        (let b : (get_or groups (get_or path i 0) nothing_seen).load ≤ i * 1000000 =
        it.light (get_or path i 0) (number-below i path h) in omega arith)

below-or-not : (g n : ℕ) → (g < n) ⊎ (n ≤ g)
below-or-not g n = grind arith

-- all groups of a path, and the numbers that none has
pub groups-all : (groups : List Seen) (path : List ℕ) (ranked : List Order) (i : ℕ) →
    GroupsTo groups path ranked i → length path ≤ i → AreGroups groups path ranked
groups-all groups path ranked i it l = record {
  count = it.count;
  seen = λ g. elim (below-or-not g (next_new path)) [
    | inl h ↦ subst (λ p. IsSeen (get_or groups g nothing_seen) (slab g p ranked))
        (take_all i path l) (it.seen g h)
    | inr h ↦ rw (
      get_or_past groups g nothing_seen (rw it.count h),
      slab-new g path ranked h,
    ) seen-none
  ];
}

-- the slab of one more number
pub slab-next : (g : ℕ) (path : List ℕ) (ranked : List Order) (d : Order) →
    length path < length ranked → slab g (path ++ g ∷ []) ranked ≡ slab g path ranked
    ++ get_or ranked (length path) d ∷ []
slab-next g [] [] d h = absurd (omega arith)
slab-next g [] (o ∷ ranked) d h = let e : eqb g g ≡ true = eq-eqb g g refl in rw e refl
slab-next g (x ∷ path) [] d h = absurd (omega arith)
slab-next g (x ∷ path) (o ∷ ranked) d h =
    put-in-or-not o (eqb g x) (slab g (path ++ g ∷ []) ranked) (slab g path ranked)
    (get_or ranked (length path) d ∷ []) (slab-next g path ranked d (omega arith))
