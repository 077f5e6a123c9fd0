-- Live keys from what is seen of groups. Whether an order may join, and what the later orders see
-- of a group, depends on its load, its number of colours and which colours it has. So live groups,
-- their keys and the dead loss are the same by what is seen as by the orders themselves.
use Rattle.std.proofs.Common.{ℕ, suc, ◌+◌, ◌≡◌, Bool, true, cond, ◌&&◌, ◌||◌, List, [], ◌∷◌}
use Rattle.std.proofs.Common.{◌++◌, map, filter, length, drop, get_or, eqb, eq-eqb, refl, sym, ap}
use Rattle.std.proofs.Common.{ap₂, ◌∙◌, arith}
use Rattle.std.specs.List.{list_all}
use Rattle.std.proofs.lemmas.List.Folds.{list_all-append}
use Rattle.std.proofs.lemmas.List.Elements.{filter-append}
use Rattle.list_laws.specs.Sets.{below, times, same_times, total}
use Rattle.mill_model.specs.Slab.{Mill, load}
use Rattle.mill_model.specs.Plan.{slab}
use Rattle.mill_model.specs.Tree.{next_new}
use Rattle.mill_model.specs.LiveKey.{is_live, has_colour, LiveGroup, seen_from, same_group}
use Rattle.mill_model.specs.LiveKey.{live_groups, same_live_key, dead_loss}
use Rattle.mill_model.specs.declared.order.Order.{Order}
use Rattle.list_laws.proofs.Sums.{total-cong}
use Rattle.log_checker.specs.Groups.{Seen, joined, nothing_seen, IsSeen, AreGroups}
use Rattle.log_checker.specs.Live.{lives, marks, same_seen, picked, live_of, each_as_often}
use Rattle.log_checker.specs.Live.{same_live_seen}
use Rattle.log_checker.proofs.GroupsOfPath.{seen-push, may_be-legal}

pub below-push : (test : ℕ → Bool) (g : ℕ) → filter test (below (g + 1)) ≡ filter test (below g)
    ++ cond (test g) (g ∷ []) []
below-push test g =
    let e : g + 1 ≡ suc g = omega arith in rw e (filter-append test (below g) (g ∷ []))

pub lives-is : (mill : Mill) (rest : List Order) (seen : Seen) (orders : List Order) →
    IsSeen seen orders → lives mill rest seen ≡ is_live mill rest orders
lives-is mill [] seen orders it = refl
lives-is mill (o ∷ rest) seen orders it =
    ap₂ (λ a b. a || b) (may_be-legal mill (joined seen o) (orders
    ++ o ∷ []) (seen-push seen orders o it)) (lives-is mill rest seen orders it)

marks-is : (rest : List Order) (seen : Seen) (orders : List Order) → IsSeen seen orders →
    marks rest seen ≡ map (λ o. has_colour orders o.colour) rest
marks-is [] seen orders it = refl
marks-is (o ∷ rest) seen orders it =
    ap₂ (λ a b. a ∷ b) (it.has o.colour) (marks-is rest seen orders it)

pub same-is : (rest : List Order) (a b : Seen) (g h : List Order) → IsSeen a g → IsSeen b h →
    same_seen rest a b ≡ same_group (seen_from rest g) (seen_from rest h)
same-is rest a b g h x y =
    rw (x.weighs, y.weighs, x.counts, y.counts, marks-is rest a g x, marks-is rest b h y) refl

module _ (mill : Mill) (ranked rest : List Order) where
  live-is : (groups : List Seen) (path : List ℕ) → AreGroups groups path ranked →
      live_of mill rest groups ≡ filter (λ g. is_live mill rest (slab g path ranked))
      (below (next_new path))
  live-is groups path it =
      ap (λ n. filter (λ g. lives mill rest (get_or groups g nothing_seen)) (below n)) it.count
      ∙ cong (below (next_new path))
    where
      cong : (ns : List ℕ) → filter (λ g. lives mill rest (get_or groups g nothing_seen))
          ns ≡ filter (λ g. is_live mill rest (slab g path ranked)) ns
      cong [] = refl
      cong (n ∷ ns) =
          ap₂ (λ b l. cond b (n ∷ l) l) (lives-is mill rest (get_or groups n nothing_seen)
          (slab n path ranked) (it.seen n)) (cong ns)

  times-is : (x : Seen) (orders : List Order) (groups : List Seen) (path ns : List ℕ) →
      IsSeen x orders → AreGroups groups path ranked → times (same_seen rest) x
      (picked groups ns) ≡ times same_group (seen_from rest orders) (map (λ g.
      seen_from rest (slab g path ranked)) ns)
  times-is x orders groups path [] s it = refl
  times-is x orders groups path (n ∷ ns) s it =
      ap₂ (λ b m. cond b 1 0 + m) (same-is rest x (get_or groups n nothing_seen) orders
      (slab n path ranked) s (it.seen n)) (times-is x orders groups path ns s it)

  each-is : (groups : List Seen) (path ms : List ℕ) (first : List Seen) (q ns : List ℕ)
      (second : List Seen) (r os : List ℕ) → AreGroups groups path ranked →
      AreGroups first q ranked → AreGroups second r ranked →
      each_as_often rest (picked groups ms) (picked first ns) (picked second os) ≡ list_all (λ x.
      eqb (times same_group x (map (λ g. seen_from rest (slab g q ranked)) ns))
      (times same_group x (map (λ g. seen_from rest (slab g r ranked)) os))) (map (λ g.
      seen_from rest (slab g path ranked)) ms)
  each-is groups path [] first q ns second r os it a b = refl
  each-is groups path (m ∷ ms) first q ns second r os it a b =
      ap₂ (λ x y. x && y) (ap₂ (λ x y. eqb x y) (times-is (get_or groups m nothing_seen)
      (slab m path ranked) first q ns (it.seen m) a) (times-is (get_or groups m nothing_seen)
      (slab m path ranked) second r os (it.seen m) b)) (each-is groups path ms first q ns second r
      os it a b)

pub both-ways : {X : Type 0} (same : X → X → Bool) (xs ys : List X) →
    same_times same xs ys ≡ (list_all (λ x. eqb (times same x xs) (times same x ys)) xs
    && list_all (λ x. eqb (times same x xs) (times same x ys)) ys)
both-ways same xs ys = list_all-append (λ x. eqb (times same x xs) (times same x ys)) xs ys

-- the live groups of a path as the orders from a rank on see them
abbrev keyed : Mill → List Order → ℕ → List ℕ → List LiveGroup
keyed mill ranked n path =
    map (λ g. seen_from (drop n ranked) (slab g path ranked)) (filter (λ g.
    is_live mill (drop n ranked) (slab g path ranked)) (below (next_new path)))

-- the live keys of two paths of one length
pub key-is : (mill : Mill) (ranked : List Order) (first second : List Seen) (q r : List ℕ) →
    AreGroups first q ranked → AreGroups second r ranked → length q ≡ length r →
    same_live_seen mill (drop (length q) ranked) first second ≡ same_times same_group
    (live_groups mill ranked q) (live_groups mill ranked r)
key-is mill ranked first second q r a b e =
    let n =
    filter (λ g. is_live mill (drop (length q) ranked) (slab g q ranked))
    (below (next_new q)) in
    let m =
    filter (λ g. is_live mill (drop (length q) ranked) (slab g r ranked))
    (below (next_new r)) in
    let x : same_live_seen mill (drop (length q) ranked) first
    second ≡ (each_as_often (drop (length q) ranked) (picked first n) (picked first n)
    (picked second m) && each_as_often (drop (length q) ranked) (picked second m)
    (picked first n) (picked second m)) = ap₂ (λ u v.
    each_as_often (drop (length q) ranked) (picked first u) (picked first u) (picked second v)
    && each_as_often (drop (length q) ranked) (picked second v) (picked first u)
    (picked second v)) (live-is mill ranked (drop (length q) ranked) first q a)
    (live-is mill ranked (drop (length q) ranked) second r b) in
    let y =
    ap₂ (λ u v. u && v) (each-is mill ranked (drop (length q) ranked) first q n first q n second
    r m a a b) (each-is mill ranked (drop (length q) ranked) second r m first q n second r m b a
    b) in
    x ∙ y ∙ sym (both-ways same_group (keyed mill ranked (length q) q)
    (keyed mill ranked (length q) r)) ∙ ap (λ k. same_times same_group
    (keyed mill ranked (length q) q) (keyed mill ranked k r)) e

-- the dead loss of a path of length k
pub dead-is : (mill : Mill) (charge : ℕ → ℕ) (ranked : List Order) (groups : List Seen)
    (path : List ℕ) (k : ℕ) → AreGroups groups path ranked → length path ≡ k →
    total (length groups) (λ g. cond (lives mill (drop k ranked) (get_or groups g nothing_seen)) 0
    (charge (get_or groups g nothing_seen).load)) ≡ dead_loss mill charge ranked path
dead-is mill charge ranked groups path k it e =
    rw (← e, it.count) (total-cong (next_new path) (λ g. cond (lives mill (drop (length path)
    ranked)
    (get_or groups g nothing_seen)) 0 (charge (get_or groups g nothing_seen).load)) (λ g.
    cond (is_live mill (drop (length path) ranked) (slab g path ranked)) 0
    (charge (load (slab g path ranked)))) (λ g l. ap₂ (λ b n.
    cond b 0 (charge n)) (lives-is mill (drop (length path) ranked) (get_or groups g nothing_seen)
    (slab g path ranked) (it.seen g)) (it.seen g).weighs))

-- the live keys of two paths of one length, by what is seen of their live groups
pub key-seen : (mill : Mill) (ranked : List Order) (first second : List Seen) (q r : List ℕ) →
    AreGroups first q ranked → AreGroups second r ranked → length r ≡ length q →
    same_live_seen mill (drop (length q) ranked) first second ≡ same_live_key mill ranked q r
key-seen mill ranked first second q r a b e =
    let k : eqb (length q) (length r) ≡ true = eq-eqb (length q) (length r) (sym e) in
    key-is mill ranked first second q r a b (sym e)
    ∙ ap (λ t. t && same_times same_group (live_groups mill ranked q)
    (live_groups mill ranked r)) (sym k)
