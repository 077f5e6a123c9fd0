-- A run that splits only where a test passes has at most as many paths as the tree of that test.
--
-- The run's paths, recorded and unclosed, are the empty path and the children of the split ones, no
-- path twice. So each path on the way to one of them was split, and the next one is its child.
-- Count the run's paths under a path p of the tree, with d orders to come. If p passes the test,
-- they are p, at most once, and those under its children; if it doesn't, it wasn't split, and they
-- are p at most. By d, they are at most as many as the tree of the test has from p on.
use Rattle.std.proofs.Common.{ℕ, zero, suc, ◌+◌, ◌<◌, ◌≤◌, ◌≡◌, ◌⊎◌, Bool, true, cond}
use Rattle.std.proofs.Common.{List, [], ◌∷◌, ◌++◌, map, filter, length, refl, sym, ap}
use Rattle.std.proofs.Common.{◌∙◌, arith, inl, inr, subst, length-append}
use Rattle.std.proofs.Common.{append_assoc, append-nil}
use Rattle.list_laws.specs.Sets.{same_list, below, times, SameTimes}
use Rattle.mill_model.specs.Tree.{next_new, may_go_on, children}
use Rattle.mill_model.specs.Log.{Task, recorded, left_open, split_children}
use Rattle.mill_model.specs.Size.{size, sum_list}
use Rattle.mill_model.specs.declared.closing.Entry.{Entry}
use Rattle.mill_model.specs.declared.closing.Closing.{Closing}
use Rattle.mill_model.specs.declared.closing.Closing.TheVariants.{Split, Leaf, Priced, Dominated}
use Rattle.list_laws.proofs.Tests.{either}
use Rattle.list_laws.proofs.Among.{Among, Among-append_left, Among-unmap, Among-unappend}
use Rattle.list_laws.proofs.Times.{times-pos, times-among, same_list-refl, same_list-eq}
use Rattle.mill_laws.proofs.Law.{Has, recorded-has}
use Rattle.mill_laws.proofs.RecordedOnce.{ends, conserved-once}
use Rattle.list_laws.proofs.Lists.{is_prefix, prefix-append, prefix-rest}
use Rattle.list_laws.proofs.Times.{push-inj}

-- Prefixes.

-- How many paths of a list go through p, and through some paths.

abbrev pub under : List ℕ → List (List ℕ) → ℕ
under p [] = 0
under p (x ∷ xs) = cond (is_prefix p x) 1 0 + under p xs

pub under-all : (xs : List (List ℕ)) → under [] xs ≡ length xs
under-all [] = refl
under-all (x ∷ xs) = omega (arith, under-all xs)

abbrev pub under_each : List (List ℕ) → List (List ℕ) → ℕ
under_each [] xs = 0
under_each (c ∷ cs) xs = under c xs + under_each cs xs

-- through how many of some paths one goes
abbrev pub hits : List (List ℕ) → List ℕ → ℕ
hits [] x = 0
hits (c ∷ cs) x = cond (is_prefix c x) 1 0 + hits cs x

pub under_each-cons : (cs : List (List ℕ)) (x : List ℕ) (xs : List (List ℕ)) →
    under_each cs (x ∷ xs) ≡ hits cs x + under_each cs xs
under_each-cons [] x xs = omega arith
under_each-cons (c ∷ cs) x xs = omega (arith, under_each-cons cs x xs)

pub hits-pos : (c : List ℕ) (cs : List (List ℕ)) (x : List ℕ) → Among c cs → is_prefix c x ≡ true →
    0 < hits cs x
hits-pos c [] x h e = absurd h
hits-pos c (d ∷ cs) x (inl q) e = rw (rw q at e) (omega arith)
hits-pos c (d ∷ cs) x (inr h) e = omega (arith, hits-pos c cs x h e)

-- where each path that goes through p is p or goes through one of some paths
pub under-split : (p : List ℕ) (cs xs : List (List ℕ)) →
    ((x : List ℕ) → Among x xs → is_prefix p x ≡ true → (p ≡ x) ⊎ (0 < hits cs x)) →
    under p xs ≤ times same_list p xs + under_each cs xs
under-split p cs [] h = omega arith
under-split p cs (x ∷ xs) h =
    let later = under-split p cs xs (λ y i k. h y (inr i) k) in
    elim (either (is_prefix p x)) [
      | inl t ↦ elim (h x (inl refl) t) [
        | inl q ↦ (let same : same_list p x ≡ true = rw (← q) (same_list-refl p) in
            rw (t, same) (omega (arith, later, under_each-cons cs x xs)))
        | inr q ↦ rw t (omega (arith, later, under_each-cons cs x xs))
      ]
      | inr f ↦ rw f (omega (arith, later, under_each-cons cs x xs))
    ]

-- a child of a split path has a parent that is recorded as split
pub open-from : (task : Task) (x : List ℕ) (log : List Entry) → Among x (split_children task log) →
    (p : List ℕ) × Has p Split log × Among x (children task.mill task.ranked p)
open-from task x [] h = absurd h
open-from task x (e ∷ log) h =
    elim (Among-unappend x (left_open task e.path e.closing) (split_children task log) h) [
      | inl a ↦ here e.closing refl a
      | inr b ↦ (let r = open-from task x log b in (r.0, inr r.1, r.2))
    ]
  where
    here : (c : Closing) → c ≡ e.closing → Among x (left_open task e.path c) →
        (p : List ℕ) × Has p Split (e ∷ log) × Among x (children task.mill task.ranked p)
    here Split q a = (e.path, inl (refl, q), a)
    here Leaf q a = absurd a
    here (Priced prices) q a = absurd a
    here (Dominated other) q a = absurd a

module _ (task : Task) (log : List Entry) (unclosed : List (List ℕ))
    (conserved : SameTimes same_list (recorded log ++ unclosed) ([] ∷ split_children task log))
  where
    abbrev pub paths : List (List ℕ)
    paths = recorded log ++ unclosed

    pub once : (p : List ℕ) → times same_list p paths ≤ 1
    once p = conserved-once task log unclosed conserved (length p) p (omega arith)

    -- A path on the way to a path of the run was split.

    pub wanted : (x : ℕ) (path : List ℕ) → Among (x ∷ path) paths →
        Among (x ∷ path) (split_children task log)
    wanted x path h =
        let counted = times-pos same_list same_list-refl (x ∷ path) paths h in
        not-empty (times-among same_list same_list-eq (x ∷ path) ([] ∷ split_children task log)
        (rw (← conserved (x ∷ path)) counted))
      where
        not-empty : Among (x ∷ path) ([] ∷ split_children task log) →
            Among (x ∷ path) (split_children task log)
        not-empty (inl e) = absurd (cc)
        not-empty (inr i) = i

    -- its parent
    pub parent-of : (p : List ℕ) (g : ℕ) → Among (p ++ g ∷ []) paths →
        Has p Split log × Among (p ++ g ∷ []) (children task.mill task.ranked p)
    parent-of p g h = cases (p ++ g ∷ []) refl h
      where
        not-empty : (p : List ℕ) → ◌≡◌ {A = List ℕ} [] (p ++ g ∷ []) → ⊥
        not-empty [] e = cc
        not-empty (x ∷ p) e = cc

        cases : (x : List ℕ) → x ≡ p ++ g ∷ [] → Among x paths →
            Has p Split log × Among (p ++ g ∷ []) (children task.mill task.ranked p)
        cases [] e i = absurd (not-empty p e)
        cases (x ∷ path) e i =
            let r = open-from task (x ∷ path) log (wanted x path i) in
            let u = Among-unmap (λ h. r.0 ++ h ∷ []) (x ∷ path)
            (filter (may_go_on task.mill task.ranked r.0) (below (suc (next_new r.0)))) r.2 in
            let parent : p ≡ r.0 = (push-inj p r.0 g u.0 (sym e ∙ u.2)).0 in (
              rw parent r.1,
              subst (λ child. Among child (children task.mill task.ranked p)) e (rw parent r.2),
            )

    pub on-the-way : (n : ℕ) (p : List ℕ) (g : ℕ) (more : List ℕ) → length more ≤ n →
        Among (p ++ g ∷ more) paths →
        Has p Split log × Among (p ++ g ∷ []) (children task.mill task.ranked p)
    on-the-way n p g [] l h = parent-of p g h
    on-the-way zero p g (h ∷ more) l a = absurd (omega arith)
    on-the-way (suc n) p g (h ∷ more) l a =
        let r = ends h more in
        let pushed : p ++ g ∷ h ∷ more ≡ (p ++ g ∷ r.0) ++ r.1 ∷ [] =
        ap (λ y. p ++ g ∷ y) r.2 ∙ sym (append_assoc p (g ∷ r.0) (r.1 ∷ [])) in
        let parent = parent-of (p ++ g ∷ r.0) r.1 (subst (λ x. Among x paths) pushed a) in
        on-the-way n p g r.0 (omega (arith, ap length r.2, length-append r.0 (r.1 ∷ [])))
        (Among-append_left (p ++ g ∷ r.0) (recorded log) unclosed
        (recorded-has (p ++ g ∷ r.0) Split log parent.0))

    module _ (test : List ℕ → Bool) (thrifty : (p : List ℕ) → Has p Split log →
        (test p ≡ true) × (length p < length task.ranked)) where
      -- The run's paths under p.

      -- if p was not split: p at most
      pub ends-here : (p : List ℕ) → (Has p Split log → ⊥) → under p paths ≤ 1
      ends-here p unsplit =
          omega (
            arith,
            under-split p [] paths (λ x i k. let r = prefix-rest p x k in at x r.0 r.1 i),
            once p,
          )
        where
          at : (x more : List ℕ) → x ≡ p ++ more → Among x paths → (p ≡ x) ⊎ (0 < hits [] x)
          at x [] e i = inl (sym (e ∙ append-nil p))
          at x (g ∷ more) e i =
              absurd (unsplit (on-the-way (length more) p g more (omega arith)
              (subst (λ y. Among y paths) e i)).0)

      -- always: p at most, and those under its children
      pub and-below : (p : List ℕ) →
          under p paths ≤ suc (under_each (children task.mill task.ranked p) paths)
      and-below p =
          omega (
            arith,
            under-split p (children task.mill task.ranked p) paths
                (λ x i k. let r = prefix-rest p x k in at x r.0 r.1 i),
            once p,
          )
        where
          at : (x more : List ℕ) → x ≡ p ++ more → Among x paths →
              (p ≡ x) ⊎ (0 < hits (children task.mill task.ranked p) x)
          at x [] e i = inl (sym (e ∙ append-nil p))
          at x (g ∷ more) e i =
              let way = on-the-way (length more) p g more (omega arith)
              (subst (λ y. Among y paths) e i) in
              let q : x ≡ (p ++ g ∷ []) ++ more = e ∙ sym (append_assoc p (g ∷ []) more) in
              inr (hits-pos (p ++ g ∷ []) (children task.mill task.ranked p) x way.1
              (rw q (prefix-append (p ++ g ∷ []) more)))

      pub each-child : (d : ℕ) (cs : List (List ℕ)) →
          ((c : List ℕ) → Among c cs → under c paths ≤ size task test d c) →
          under_each cs paths ≤ sum_list (map (size task test d) cs)
      each-child d [] h = omega arith
      each-child d (c ∷ cs) h = omega (arith, h c (inl refl), each-child d cs (λ e i. h e (inr i)))

      pub child-length : (p c : List ℕ) → Among c (children task.mill task.ranked p) →
          length c ≡ suc (length p)
      child-length p c h =
          let u = Among-unmap (λ h. p ++ h ∷ []) c (filter (may_go_on task.mill task.ranked p)
          (below (suc (next_new p)))) h in
          ap length u.2 ∙ omega (arith, length-append p (u.0 ∷ []))

      pub bounded : (d : ℕ) (p : List ℕ) → length p + d ≡ length task.ranked →
          under p paths ≤ size task test d p
      unfolding size
      bounded zero p l = ends-here p (λ h. omega (arith, (thrifty p h).1))
      bounded (suc d) p l = elim (either (test p)) [
        | inl t ↦ rw t (omega (
          arith,
          and-below p,
          each-child d (children task.mill task.ranked p)
              (λ c i. bounded d c (omega (arith, child-length p c i))),
        ))
        | inr f ↦ rw f (ends-here p (λ h. grind (arith, (thrifty p h).0)))
      ]

      -- the paths of the run are at most those of the tree
      pub run-size : length (recorded log ++ unclosed) ≤ size task test (length task.ranked) []
      run-size = omega (arith, bounded (length task.ranked) [] (omega arith), under-all paths)
