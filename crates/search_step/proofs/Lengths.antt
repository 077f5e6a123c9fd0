-- A verdict on a path of the tree has the lengths of a record.
use Rattle.std.proofs.Common.{ℕ, ◌+◌, ◌≤◌, ◌≡◌, Bool, true, false, cond, ◌&&◌, leb, ltb, List}
use Rattle.std.proofs.Common.{[], ◌∷◌, length, drop, Option, Some, None, refl, sym, ◌∙◌, subst}
use Rattle.std.proofs.Common.{arith}
use Rattle.std.proofs.Common.{le-leb, eq-eqb, length-drop}
use Rattle.std.proofs.lemmas.List.{length-map}
use Rattle.std.specs.List.{AllByRecursion}
use Rattle.std.proofs.Common.{Ordering, Less, Equal, Greater}
use Rattle.std.proofs.lemmas.Map.Lookups.{exact_unsigned}
use Rattle.std.specs.Cmp.Lexicographic.{slice_cmp}
use Rattle.std.specs.Ordering.{nat_cmp, ordering_then, is_eq}
use Rattle.list_laws.proofs.Tests.{and-left, and-right, clash}
use Rattle.mill_model.specs.Charges.{ChargeTable, charge_of}
use Rattle.mill_model.specs.Tree.{next_new}
use Rattle.mill_laws.proofs.Ascent.{ascent-length}
use Rattle.mill_laws.proofs.Sweep.{sweep-length}
use Rattle.mill_laws.proofs.Groups.{numbers-below}
use Rattle.mill_laws.proofs.Paths.{tree-bound, tree-length}
use Rattle.order_symmetry.specs.Ranked.{RankedOrders, orders_of}
use Rattle.refute_log.specs.Fits.{path_fits}
use Rattle.split_tree.specs.Keys.{Key, IsLiveKey, same_key, group_order}
use Rattle.nogood_store.specs.Entries.{Stored, found, lesser, path_of}
use Rattle.nogood_store.specs.declared.store.Entry.{Entry as Noted}
use Rattle.search_step.specs.Decided.{Decides}
use Rattle.search_step.specs.Moves.{closes, dead_loss_at, exceeds, first_prices, found_at}
use Rattle.search_step.specs.Moves.{has_lengths, is_leaf, loss_at, second_prices, starts}
use Rattle.search_step.specs.Moves.{verdict_inner, verdict_leaf, verdict_open}
use Rattle.search_step.specs.Serving.{IsPathOf}
use Rattle.search_step.specs.Steps.{IsNotedOf, task_at}
use Rattle.search_step.specs.declared.parts.Verdict.{Verdict}
use Rattle.search_step.specs.declared.parts.Verdict.TheVariants.{Better, Plain, ByPrices}

-- what is found has the key, at most the dead loss, and what each entry has
pub record IsFound (P : Noted → Type 0) (key : Key) (dead : ℕ) (e : Noted) : Type 0 where
  pub has : P e
  pub same : same_key key e.key ≡ true
  pub low : leb e.dead dead ≡ true

pub found-facts : (P : Noted → Type 0) (entries : List Noted) (key : Key) (dead : ℕ) (e : Noted) →
    AllByRecursion P entries → found entries key dead ≡ Some e → IsFound P key dead e
found-facts P [] key dead e all q = absurd (none-some q)
  where
    none-some : None ≡ Some e → ⊥
    none-some q = cc
found-facts P (x ∷ entries) key dead e all q =
    go (same_key key x.key && leb x.dead dead) refl (found entries key dead)
    (λ f r. found-facts P entries key dead f all.1 r) refl q
  where
    first : (same_key key x.key && leb x.dead dead) ≡ true → IsFound P key dead x
    first t = record {
      has = all.0;
      same = and-left (same_key key x.key) _ t;
      low = and-right (same_key key x.key) _ t;
    }

    some-same : (a b : Noted) → Some a ≡ Some b → a ≡ b
    some-same a b r = cc

    none-some : None ≡ Some e → ⊥
    none-some r = cc

    pick : (b : Bool) (f : Noted) → IsFound P key dead x → IsFound P key dead f →
        IsFound P key dead (cond b x f)
    pick true f a c = a
    pick false f a c = c

    chosen : (r : Option Noted) → ((f : Noted) → r ≡ Some f → IsFound P key dead f) →
        IsFound P key dead x → lesser x r ≡ Some e → IsFound P key dead e
    chosen None ih a k = subst (IsFound P key dead) (some-same x e k) a
    chosen (Some f) ih a k =
        subst (IsFound P key dead) (some-same (cond (leb x.dead f.dead) x f) e k)
        (pick (leb x.dead f.dead) f a (ih f refl))

    go : (b : Bool) → (same_key key x.key && leb x.dead dead) ≡ b → (r : Option Noted) →
        ((f : Noted) → found entries key dead ≡ Some f → IsFound P key dead f) →
        found entries key dead ≡ r → cond b (lesser x r) r ≡ Some e → IsFound P key dead e
    go true t r ih s k = chosen r (λ f u. ih f (s ∙ u)) (first t) k
    go false t None ih s k = absurd (none-some k)
    go false t (Some f) ih s k = subst (IsFound P key dead) (some-same f e k) (ih f s)

-- the lengths and numbers of a path of the tree
pub tree-fits-path : (ranked : RankedOrders) (path : List ℕ) → IsPathOf ranked path →
    path_fits (length ranked.placed) path ≡ true
tree-fits-path ranked path tree =
    let long : length (orders_of ranked) ≡ length ranked.placed =
    length-map ranked.placed (λ x. x.order) in
    let short : length path ≤ length (orders_of ranked) =
    tree-length ranked.mill (orders_of ranked) path tree.is in
    let bound : next_new path ≤ length path =
    tree-bound ranked.mill (orders_of ranked) path tree.is in
    rw (le-leb (length path) (length ranked.placed) (omega arith))
    (numbers-below (length ranked.placed) path (omega arith))

-- keys that are the same have one depth
pub same-depth : (a b : Key) → same_key a b ≡ true → a.depth ≡ b.depth
same-depth a b e =
    exact_unsigned a.depth b.depth (first (nat_cmp a.depth b.depth) (slice_cmp group_order a.groups
    b.groups) e)
  where
    first : (o r : Ordering) → is_eq (ordering_then o r) ≡ true → o ≡ Equal
    first Equal r h = refl
    first Less r h = absurd (clash false h refl)
    first Greater r h = absurd (clash false h refl)

pub other-found : (ranked : RankedOrders) (charges : ChargeTable) (path : List ℕ) (store : Stored)
    (key : Key) (other : List ℕ) → AllByRecursion (IsNotedOf ranked charges) store.entries →
    IsLiveKey (record { ranked = ranked; path = path }) key →
    path_of (found store.entries key (dead_loss_at (task_at ranked charges) path)) ≡ Some other →
    IsPathOf ranked other × (length other ≡ length path)
other-found ranked charges path store key other all is e =
    go (found store.entries key (dead_loss_at (task_at ranked charges) path)) refl e
  where
    go : (r : Option Noted) →
        found store.entries key (dead_loss_at (task_at ranked charges) path) ≡ r →
        path_of r ≡ Some other → IsPathOf ranked other × (length other ≡ length path)
    go None q k = absurd (none-some k)
      where
        none-some : None ≡ Some other → ⊥
        none-some k = cc
    go (Some n) q k =
        let f = found-facts (IsNotedOf ranked charges) store.entries key
        (dead_loss_at (task_at ranked charges) path) n all q in
        let there : n.path ≡ other = some-same k in
        subst (λ p. IsPathOf ranked p × (length p ≡ length path)) there
        (f.has.tree, sym f.has.key.depth ∙ sym (same-depth key n.key f.same) ∙ is.depth)
      where
        some-same : Some n.path ≡ Some other → n.path ≡ other
        some-same k = cc

module _ (ranked : RankedOrders) (charges : ChargeTable) (path : List ℕ)
    (tree : IsPathOf ranked path) where
  long : length (orders_of ranked) ≡ length ranked.placed
  long = length-map ranked.placed (λ x. x.order)

  short : length path ≤ length (orders_of ranked)
  short = tree-length ranked.mill (orders_of ranked) path tree.is

  pub path-fits : path_fits (length ranked.placed) path ≡ true
  path-fits = tree-fits-path ranked path tree

  first-long : length path + length (first_prices (task_at ranked charges) path)
      ≡ length ranked.placed
  first-long =
      let a : length (first_prices (task_at ranked charges) path)
      ≡ length (drop (length path) (orders_of ranked)) =
      ascent-length ranked.mill (charge_of charges) (orders_of ranked) path
      (length (drop (length path) (orders_of ranked))) in
      let b = length-drop (length path) (orders_of ranked) in
      let l = long in let s = short in omega arith

  second-long : length path + length (second_prices (task_at ranked charges) path)
      ≡ length ranked.placed
  second-long =
      let first = first_prices (task_at ranked charges) path in
      let a : length (second_prices (task_at ranked charges) path) ≡ length first =
      sweep-length ranked.mill (charge_of charges) (orders_of ranked) path first (length first) in
      let f = first-long in omega arith

  and-both : (a b : Bool) → a ≡ true → b ≡ true → (a && b) ≡ true
  and-both a b p q = rw (p, q) refl

  pub verdict-lengths : (known : ℕ) (store : Stored) (v : Verdict) →
      AllByRecursion (IsNotedOf ranked charges) store.entries →
      Decides ranked charges known store path v →
      has_lengths (length ranked.placed) path v ≡ true
  verdict-lengths known store v all d =
      subst (λ u. has_lengths (length ranked.placed) path u ≡ true) (sym d.is)
      (leaf-or-not (is_leaf (task_at ranked charges) path) refl)
    where
      leaf : (b : Bool) → has_lengths (length ranked.placed) path
          (cond b (Better (record { plan = d.plan; loss = loss_at (task_at ranked charges) path }))
          Plain) ≡ true
      leaf true = path-fits
      leaf false = path-fits

      opened : (r : Option (List ℕ)) → ((other : List ℕ) → r ≡ Some other →
          IsPathOf ranked other × (length other ≡ length path)) →
          has_lengths (length ranked.placed) path
          (verdict_open (task_at ranked charges) d.key path r) ≡ true
      opened None h = path-fits
      opened (Some other) h =
          and-both _ _ path-fits (and-both _ _ (path-fits-of other (h other refl).0)
          (eq-eqb _ _ (h other refl).1))
        where
          path-fits-of : (p : List ℕ) → IsPathOf ranked p →
              path_fits (length ranked.placed) p ≡ true
          path-fits-of p t = tree-fits-path ranked p t

      found-other : is_leaf (task_at ranked charges) path ≡ false →
          closes (task_at ranked charges) known path ≡ false → (other : List ℕ) →
          found_at (task_at ranked charges) store d.key path ≡ Some other →
          IsPathOf ranked other × (length other ≡ length path)
      found-other l c other e = start (starts (task_at ranked charges) path) refl e
        where
          start : (b : Bool) → starts (task_at ranked charges) path ≡ b →
              cond b (path_of (found store.entries d.key
              (dead_loss_at (task_at ranked charges) path))) None ≡ Some other →
              IsPathOf ranked other × (length other ≡ length path)
          start true s k =
              other-found ranked charges path store d.key other all
              (d.are.asked (rw (l, c, s) refl)) k
          start false s k = absurd (none-some k)
            where
              none-some : None ≡ Some other → ⊥
              none-some k = cc

      inner : is_leaf (task_at ranked charges) path ≡ false → (first second : Bool) →
          exceeds (task_at ranked charges) known path
          (first_prices (task_at ranked charges) path) ≡ first →
          exceeds (task_at ranked charges) known path
          (second_prices (task_at ranked charges) path) ≡ second →
          has_lengths (length ranked.placed) path
          (cond first (ByPrices (first_prices (task_at ranked charges) path))
          (cond second (ByPrices (second_prices (task_at ranked charges) path))
          (verdict_open (task_at ranked charges) d.key path
          (found_at (task_at ranked charges) store d.key path)))) ≡ true
      inner l true second e f = and-both _ _ path-fits (eq-eqb _ _ first-long)
      inner l false true e f = and-both _ _ path-fits (eq-eqb _ _ second-long)
      inner l false false e f =
          opened (found_at (task_at ranked charges) store d.key path)
          (found-other l (rw (e, f) refl))

      leaf-or-not : (b : Bool) → is_leaf (task_at ranked charges) path ≡ b →
          has_lengths (length ranked.placed) path
          (cond b (verdict_leaf (task_at ranked charges) known d.plan path)
          (verdict_inner (task_at ranked charges) known store d.key path)) ≡ true
      leaf-or-not true l = leaf (ltb (loss_at (task_at ranked charges) path) known)
      leaf-or-not false l = inner l _ _ refl refl
