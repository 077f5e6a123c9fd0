-- One pass over a rising log, with the paths that are still to come. `IsAt` says where a pass
-- stands: what the records so far want is what they record, and what is to come, each path as
-- often; all of them hold up; and they come before all that is to come, whose paths part. So at a
-- record that stands at another path, or doesn't hold up, all before that path is right, and that
-- path is wrong. Where both lists end, the equation of counts is that of a complete log.
use Rattle.std.proofs.Common.{ℕ, suc, ◌+◌, ◌<◌, ◌≡◌, ◌⊎◌, Bool, true, false, not, cond, ◌&&◌, ◌||◌}
use Rattle.std.proofs.Common.{List, [], ◌∷◌, ◌++◌, refl, sym, ap, ◌∙◌, subst, arith, inl, inr}
use Rattle.std.proofs.Common.{append_assoc}
use Rattle.std.specs.List.{list_all, AllByRecursion}
use Rattle.list_laws.specs.Sets.{same_list, times}
use Rattle.mill_model.specs.Tree.{next_new, may_go_on}
use Rattle.mill_model.specs.Log.{Task, sound, recorded, left_open, split_children, names_settled}
use Rattle.mill_model.proofs.Records.{recorded-append, split-append}
use Rattle.mill_model.specs.declared.closing.Entry.{Entry}
use Rattle.mill_model.specs.declared.closing.Closing.{Closing}
use Rattle.mill_model.specs.declared.closing.Closing.TheVariants.{Split, Leaf, Priced, Dominated}
use Rattle.list_laws.proofs.Times.{same_list-refl, same_list-eq, times-append, times-pos}
use Rattle.list_laws.proofs.Tests.{and-left, and-right, either}
use Rattle.list_laws.proofs.Among.{Among, all-among, Among-append_right, Among-unappend}
use Rattle.mill_laws.proofs.Paths.{left-open-goes-on}
use Rattle.refute_log.specs.Rising.{comes_before, rises}
use Rattle.refute_log.proofs.Order.{before-trans, before-differs, before-total, before-child}
use Rattle.log_checker.proofs.PathsPart.{parts-before, parts-longer, AllPart, AllPart-append}
use Rattle.log_checker.proofs.PathsPart.{children-part}
use Rattle.log_checker.specs.Verdict.{holds_up, verdict_from, IsVerdict}
use Rattle.log_checker.proofs.Counted.{records_at, wants_of, each_holds_up, IsRight, RightBefore}
use Rattle.log_checker.proofs.Counted.{IsMissing, IsStray, IsUnsound, IsFound, found-is}

-- where a pass stands: what is done, what is to come
pub record IsAt (task : Task) (bound : ℕ) (log done : List Entry) (paths : List (List ℕ))
    (rest : List Entry) : Type 0 where
  pub whole : log ≡ done ++ rest
  pub counts : (p : List ℕ) → times same_list p ([] ∷ split_children task done) ≡ times same_list p
      (recorded done) + times same_list p paths
  pub upheld : (e : Entry) → Among e done → holds_up task bound log e ≡ true
  pub part : AllPart paths
  pub behind : (e : Entry) (p : List ℕ) → Among e done → Among p paths →
      comes_before e.path p ≡ true

-- counts over what is done and the rest
records-apart : (xs ys : List Entry) (p : List ℕ) →
    records_at (xs ++ ys) p ≡ records_at xs p + records_at ys p
records-apart xs ys p = rw recorded-append (times-append same_list p (recorded xs) (recorded ys))

wants-apart : (task : Task) (xs ys : List Entry) (p : List ℕ) →
    wants_of task (xs ++ ys) p ≡ wants_of task xs p + times same_list p (split_children task ys)
wants-apart task xs ys p =
    ap (λ l. times same_list p ([] ∷ l)) (split-append task xs ys)
    ∙ times-append same_list p ([] ∷ split_children task xs) (split_children task ys)

-- a path that differs from each of a list does not stand in it
times-none : (p : List ℕ) (qs : List (List ℕ)) →
    ((q : List ℕ) → Among q qs → same_list p q ≡ false) → times same_list p qs ≡ 0
times-none p [] h = refl
times-none p (q ∷ qs) h =
    let e : same_list p q ≡ false =
    h q (inl refl) in let k : times same_list p qs ≡ 0 =
    times-none p qs (λ r m. h r (inr m)) in rw e (omega arith)

among-recorded : (q : List ℕ) (log : List Entry) → Among q (recorded log) → (e : Entry)
    × Among e log × (q ≡ e.path)
among-recorded q [] m = absurd m
among-recorded q (e ∷ log) (inl k) = (e, inl refl, k)
among-recorded q (e ∷ log) (inr m) = let r = among-recorded q log m in (r.0, inr r.1, r.2)

recorded-among : (e : Entry) (log : List Entry) → Among e log → Among e.path (recorded log)
recorded-among e [] m = absurd m
recorded-among e (f ∷ log) (inl k) = inl (ap (λ (x : Entry). x.path) k)
recorded-among e (f ∷ log) (inr m) = inr (recorded-among e log m)

open-part : (task : Task) (path : List ℕ) (c : Closing) → AllPart (left_open task path c)
open-part task path Split =
    children-part path (may_go_on task.mill task.ranked path) (suc (next_new path))
open-part task path Leaf = tt
open-part task path (Priced prices) = tt
open-part task path (Dominated other) = tt

-- a path up to which no record of a list stands is no child of its split paths
split-none : (task : Task) (p : List ℕ) (log : List Entry) →
    ((e : Entry) → Among e log → (e.path ≡ p) ⊎ (comes_before p e.path ≡ true)) →
    times same_list p (split_children task log) ≡ 0
split-none task p [] h = refl
split-none task p (e ∷ log) h =
    let a : times same_list p (left_open task e.path e.closing
    ++ split_children task log) ≡ times same_list p (left_open task e.path e.closing) + times
    same_list p (split_children task log) =
    times-append same_list p (left_open task e.path e.closing) (split_children task log) in
    let b : times same_list p (left_open task e.path e.closing) ≡ 0 =
    times-none p (left_open task e.path e.closing) (λ q m. let r =
    left-open-goes-on task e.path q e.closing m in
    rw r.1 (before-differs p (e.path ++ r.0 ∷ []) (ahead r.0 (h e (inl refl))))) in
    let k : times same_list p (split_children task log) ≡ 0 =
    split-none task p log (λ f m. h f (inr m)) in
    omega arith
  where
    ahead : (g : ℕ) → (e.path ≡ p) ⊎ (comes_before p e.path ≡ true) →
        comes_before p (e.path ++ g ∷ []) ≡ true
    ahead g (inl q) =
        subst (λ x. comes_before x (e.path ++ g ∷ []) ≡ true) q (before-child e.path g)
    ahead g (inr q) = before-trans p e.path (e.path ++ g ∷ []) q (before-child e.path g)

-- where each record at a path holds up
upheld-all : (task : Task) (bound : ℕ) (log : List Entry) (p : List ℕ) (es : List Entry) →
    ((e : Entry) → Among e es → (same_list p e.path ≡ false) ⊎ (holds_up task bound log e ≡ true)) →
    each_holds_up task bound log p es ≡ true
upheld-all task bound log p [] h = refl
upheld-all task bound log p (e ∷ es) h =
    let ih : each_holds_up task bound log p es ≡ true =
    upheld-all task bound log p es (λ f m. h f (inr m)) in
    one (h e (inl refl)) ih
  where
    one : (same_list p e.path ≡ false) ⊎ (holds_up task bound log e ≡ true) →
        each_holds_up task bound log p es ≡ true →
        ((not (same_list p e.path) || holds_up task bound log e)
        && each_holds_up task bound log p es) ≡ true
    one (inl k) ih = rw (k, ih) refl
    one (inr k) ih =
        elim (either (same_list p e.path)) [ inl s ↦ rw (s, k, ih) refl | inr s ↦ rw (s, ih) refl ]

-- and where one does not
refused-one : (task : Task) (bound : ℕ) (log : List Entry) (e : Entry) (es : List Entry) →
    Among e es → holds_up task bound log e ≡ false → each_holds_up task bound log e.path es ≡ false
refused-one task bound log e [] m h = absurd m
refused-one task bound log e (f ∷ es) (inl q) h =
    let s : same_list e.path f.path ≡ true =
    subst (λ (x : Entry). same_list e.path x.path ≡ true) q (same_list-refl e.path) in
    let k : holds_up task bound log f ≡ false =
    subst (λ x. holds_up task bound log x ≡ false) q h in
    rw (s, k) refl
refused-one task bound log e (f ∷ es) (inr m) h =
    rw (refused-one task bound log e es m h) (and-false _)
  where
    and-false : (b : Bool) → (b && false) ≡ false
    and-false true = refl
    and-false false = refl

-- in a rising log what is done comes before the rest
rises-tail : (done : List Entry) (e : Entry) (rest : List Entry) →
    rises (recorded (done ++ e ∷ rest)) ≡ true → (f : Entry) → Among f rest →
    comes_before e.path f.path ≡ true
rises-tail [] e rest h f m =
    all-among (comes_before e.path) f.path (recorded rest)
    (and-left (list_all (comes_before e.path) (recorded rest)) (rises (recorded rest)) h)
    (recorded-among f rest m)
rises-tail (d ∷ done) e rest h f m =
    rises-tail done e rest (and-right (list_all (comes_before d.path) (recorded (done ++ e ∷ rest)))
    _ h) f m

rises-done : (done : List Entry) (e : Entry) (rest : List Entry) →
    rises (recorded (done ++ e ∷ rest)) ≡ true → (d : Entry) → Among d done →
    comes_before d.path e.path ≡ true
rises-done [] e rest h d m = absurd m
rises-done (x ∷ done) e rest h d (inl q) =
    subst (λ (z : Entry). comes_before z.path e.path ≡ true) (sym q)
    (all-among (comes_before x.path) e.path (recorded (done
    ++ e ∷ rest)) (and-left (list_all (comes_before x.path) (recorded (done ++ e ∷ rest))) _ h)
    (recorded-among e (done ++ e ∷ rest) (Among-append_right e done (e ∷ rest) (inl refl))))
rises-done (x ∷ done) e rest h d (inr m) =
    rises-done done e rest (and-right (list_all (comes_before x.path) (recorded (done ++ e ∷ rest)))
    _ h) d m

module _ (task : Task) (bound : ℕ) (log done : List Entry) (paths : List (List ℕ))
    (rest : List Entry) (it : IsAt task bound log done paths rest) where
  records-log : (p : List ℕ) → records_at log p ≡ records_at done p + records_at rest p
  records-log p = rw it.whole (records-apart done rest p)

  wants-log : (p : List ℕ) → wants_of task log p ≡ records_at done p + times same_list p paths
      + times same_list p (split_children task rest)
  wants-log p =
      let a : wants_of task (done ++ rest) p ≡ wants_of task done p + times same_list p
      (split_children task rest) =
      wants-apart task done rest p in let b : wants_of task done p ≡ records_at done p + times
      same_list p paths = it.counts p in rw it.whole (omega arith)

  -- all is right at a path that comes before all that is to come
  right-at : (q : List ℕ) → ((e : Entry) → Among e rest → comes_before q e.path ≡ true) →
      ((p : List ℕ) → Among p paths → comes_before q p ≡ true) → IsRight task bound log q
  right-at q h k = record {
    wanted =
        let a : records_at rest q ≡ 0 =
        times-none q (recorded rest) (λ r m. let x =
        among-recorded r rest m in rw x.2 (before-differs q x.0.path (h x.0 x.1))) in
        let b : times same_list q paths ≡ 0 =
        times-none q paths (λ r m. before-differs q r (k r m)) in
        let c : times same_list q (split_children task rest) ≡ 0 =
        split-none task q rest (λ e m. inr (h e m)) in
        let d : records_at log q ≡ records_at done q + records_at rest q = records-log q in
        let f : wants_of task log q ≡ records_at done q + times same_list q paths + times same_list
        q (split_children task rest) = wants-log q in
        omega arith;
    upheld =
        upheld-all task bound log q log (λ e m. place e
        (Among-unappend e done rest (subst (λ l. Among e l) it.whole m)));
  }
    where
      place : (e : Entry) → Among e done ⊎ Among e rest → (same_list q e.path ≡ false)
          ⊎ (holds_up task bound log e ≡ true)
      place e (inl m) = inr (it.upheld e m)
      place e (inr m) = inl (before-differs q e.path (h e m))

  -- a path to come is wanted
  wanted-next : (p : List ℕ) → Among p paths → 0 < wants_of task log p
  wanted-next p m =
      let a : 0 < times same_list p paths = times-pos same_list same_list-refl p paths m in
      let f : wants_of task log p ≡ records_at done p + times same_list p paths + times same_list p
      (split_children task rest) = wants-log p in
      omega arith

  -- and has no record so far
  fresh : (p : List ℕ) → ((e : Entry) → Among e done → comes_before e.path p ≡ true) →
      records_at done p ≡ 0
  fresh p h =
      times-none p (recorded done) (λ r m. let x = among-recorded r done m in
      rw x.2 (differs x.0.path (h x.0 x.1)))
    where
      differs : (r : List ℕ) → comes_before r p ≡ true → same_list p r ≡ false
      differs r b = elim (either (same_list p r)) [
        | inl s ↦ absurd (let e : p ≡ r = same_list-eq p r s in let k : same_list r p ≡ false =
            before-differs r p b in let z : same_list r p ≡ true =
            subst (λ x. same_list r x ≡ true) (sym e) (same_list-refl r) in grind arith)
        | inr s ↦ s
      ]

-- the next place of a pass, past a record that is expected and holds up
record-passed : (task : Task) (bound : ℕ) (log done : List Entry) (path : List ℕ)
    (paths : List (List ℕ)) (e : Entry) (rest : List Entry) → rises (recorded log) ≡ true →
    IsAt task bound log done (path ∷ paths) (e ∷ rest) → path ≡ e.path →
    holds_up task bound log e ≡ true →
    IsAt task bound log (done ++ e ∷ []) (left_open task e.path e.closing ++ paths) rest
record-passed task bound log done path paths e rest up it q h = record {
  whole = it.whole ∙ sym (append_assoc done (e ∷ []) rest);
  counts = λ p.
      let a : wants_of task (done ++ e ∷ []) p ≡ wants_of task done p + times same_list p
      (left_open task e.path e.closing ++ []) = wants-apart task done (e ∷ []) p in
      let a2 : times same_list p (left_open task e.path e.closing
      ++ []) ≡ times same_list p (left_open task e.path e.closing) + times same_list p [] =
      times-append same_list p (left_open task e.path e.closing) [] in
      let b : records_at (done ++ e ∷ []) p ≡ records_at done p + records_at (e ∷ []) p =
      records-apart done (e ∷ []) p in
      let c : times same_list p (left_open task e.path e.closing
      ++ paths) ≡ times same_list p (left_open task e.path e.closing) + times same_list p
      paths = times-append same_list p (left_open task e.path e.closing) paths in
      let d : wants_of task done p ≡ records_at done p + times same_list p (path ∷ paths) =
      it.counts p in
      let d2 : wants_of task done p ≡ records_at done p + times same_list p (e.path ∷ paths) =
      subst (λ x. wants_of task done p ≡ records_at done p + times same_list p (x ∷ paths)) q
      d in
      sums (wants_of task (done ++ e ∷ []) p) (wants_of task done p)
      (times same_list p (left_open task e.path e.closing
      ++ [])) (times same_list p (left_open task e.path e.closing)) (records_at (done
      ++ e ∷ []) p) (records_at done p) (cond (same_list p e.path) 1 0)
      (times same_list p (left_open task e.path e.closing
      ++ paths)) (times same_list p paths) a a2 b c d2;
  upheld =
      λ f m. elim (Among-unappend f done (e ∷ []) m) [
        | inl k ↦ it.upheld f k
        | inr k ↦ (elim k [ inl s ↦ rw s h | inr s ↦ absurd s ])
      ];
  part = AllPart-append (left_open task e.path e.closing) paths (open-part task e.path e.closing)
      it.part.1 (λ a b x y. let r = left-open-goes-on task e.path a e.closing x in
      rw r.1 (parts-longer e.path b (r.0 ∷ []) (rw (← q) (it.part.0 b y))));
  behind = λ f p m n. elim (Among-unappend p (left_open task e.path e.closing) paths n) [
    | inl k ↦ (let r = left-open-goes-on task e.path p e.closing k in
        let c : comes_before e.path p ≡ true = rw r.1 (before-child e.path r.0) in upto f p c m)
    | inr k ↦ (let c : comes_before e.path p ≡ true = rw (← q)
        (parts-before path p (it.part.0 p k)) in upto f p c m)
  ];
}
  where
    sums : (w x y z u v r s t : ℕ) → w ≡ x + y → y ≡ z + 0 → u ≡ v + (r + 0) → s ≡ z + t →
        x ≡ v + (r + t) → w ≡ u + s
    sums w x y z u v r s t a b c d e = omega arith

    upto : (f : Entry) (p : List ℕ) → comes_before e.path p ≡ true → Among f (done ++ e ∷ []) →
        comes_before f.path p ≡ true
    upto f p c m = elim (Among-unappend f done (e ∷ []) m) [
      | inl k ↦ before-trans f.path e.path p (rises-done done e rest (subst (λ l.
          rises (recorded l) ≡ true) it.whole up) f k) c
      | inr k ↦ (elim k [
        | inl s ↦ subst (λ (x : Entry). comes_before x.path p ≡ true) (sym s) c
        | inr s ↦ absurd s
      ])
    ]

all-by : (P : Entry → Type 0) (es : List Entry) → ((e : Entry) → Among e es → P e) →
    AllByRecursion P es
all-by P [] h = tt
all-by P (e ∷ es) h = (h e (inl refl), all-by P es (λ f m. h f (inr m)))

all-done : (task : Task) (bound : ℕ) (log done : List Entry) (paths : List (List ℕ)) →
    IsAt task bound log done paths [] → (e : Entry) → Among e log → holds_up task bound log e ≡ true
all-done task bound log done paths it e m =
    elim (Among-unappend e done [] (subst (λ l. Among e l) it.whole m)) [
      | inl k ↦ it.upheld e k
      | inr k ↦ absurd k
    ]

-- a path that comes before the next one to come comes before all that are
before-coming : (path : List ℕ) (paths : List (List ℕ)) → AllPart (path ∷ paths) → (q : List ℕ) →
    comes_before q path ≡ true → (p : List ℕ) → Among p (path ∷ paths) → comes_before q p ≡ true
before-coming path paths a q h p (inl e) = subst (λ x. comes_before q x ≡ true) (sym e) h
before-coming path paths a q h p (inr m) = before-trans q path p h (parts-before path p (a.0 p m))

-- and one that comes before the next record comes before the rest
before-rest : (task : Task) (log done : List Entry) (e : Entry) (rest : List Entry) →
    rises (recorded log) ≡ true → log ≡ done ++ e ∷ rest → (q : List ℕ) →
    comes_before q e.path ≡ true → (f : Entry) → Among f (e ∷ rest) → comes_before q f.path ≡ true
before-rest task log done e rest up w q h f (inl k) =
    subst (λ (x : Entry). comes_before q x.path ≡ true) (sym k) h
before-rest task log done e rest up w q h f (inr m) =
    before-trans q e.path f.path h (rises-tail done e rest (subst (λ l.
    rises (recorded l) ≡ true) w up) f m)

-- what is to come, where the next record stands later or there is none
missing-here : (task : Task) (bound : ℕ) (log done : List Entry) (path : List ℕ)
    (paths : List (List ℕ)) (rest : List Entry) → IsAt task bound log done (path ∷ paths) rest →
    ((f : Entry) → Among f rest → comes_before path f.path ≡ true) → IsMissing task log path
    × RightBefore task bound log path
missing-here task bound log done path paths rest it later = (
  record {
    wanted = wanted-next task bound log done (path ∷ paths) rest it path (inl refl);
    absent =
        let a : records_at log path ≡ records_at done path + records_at rest path =
        records-log task bound log done (path ∷ paths) rest it path in
        let b : records_at done path ≡ 0 =
        fresh task bound log done (path ∷ paths) rest it path (λ e m.
        it.behind e path m (inl refl)) in
        let c : records_at rest path ≡ 0 =
        times-none path (recorded rest) (λ r m. let x =
        among-recorded r rest m in rw x.2 (before-differs path x.0.path (later x.0 x.1))) in
        omega arith;
  },
  λ q h. right-at task bound log done (path ∷ paths) rest it q (λ e m.
      before-trans q path e.path h (later e m)) (before-coming path paths it.part q h),
)

-- the next record, where what is to come stands later
stray-here : (task : Task) (bound : ℕ) (log done : List Entry) (paths : List (List ℕ)) (e : Entry)
    (rest : List Entry) → rises (recorded log) ≡ true → IsAt task bound log done paths (e ∷ rest) →
    ((p : List ℕ) → Among p paths → comes_before e.path p ≡ true) → IsStray task log e.path
    × RightBefore task bound log e.path
stray-here task bound log done paths e rest up it later =
    let r : rises (recorded (done ++ e ∷ rest)) ≡ true =
    subst (λ l. rises (recorded l) ≡ true) it.whole up in (
      record {
        present =
            let a : records_at log e.path ≡ records_at done e.path + records_at (e ∷ rest) e.path =
            records-log task bound log done paths (e ∷ rest) it e.path in
            let b : 0 < records_at (e ∷ rest) e.path =
            times-pos same_list same_list-refl e.path (recorded (e ∷ rest)) (inl refl) in
            omega arith;
        unwanted =
            let a : wants_of task log e.path ≡ records_at done e.path + times same_list e.path paths
            + times same_list e.path (split_children task (e ∷ rest)) =
            wants-log task bound log done paths (e ∷ rest) it e.path in
            let b : records_at done e.path ≡ 0 =
            fresh task bound log done paths (e ∷ rest) it e.path (rises-done done e rest r) in
            let c : times same_list e.path paths ≡ 0 =
            times-none e.path paths (λ p m. before-differs e.path p (later p m)) in
            let d : times same_list e.path (split_children task (e ∷ rest)) ≡ 0 =
            split-none task e.path (e ∷ rest) (λ f m.
            elim m [
              | inl k ↦ inl (ap (λ (x : Entry). x.path) k)
              | inr k ↦ inr (rises-tail done e rest r f k)
            ]) in
            omega arith;
      },
      λ q h. right-at task bound log done paths (e ∷ rest) it q
          (before-rest task log done e rest up it.whole q h) (λ p m.
          before-trans q e.path p h (later p m)),
    )

-- the next record, where it is expected and does not hold up
unsound-here : (task : Task) (bound : ℕ) (log done : List Entry) (path : List ℕ)
    (paths : List (List ℕ)) (e : Entry) (rest : List Entry) → rises (recorded log) ≡ true →
    IsAt task bound log done (path ∷ paths) (e ∷ rest) → path ≡ e.path →
    holds_up task bound log e ≡ false → IsUnsound task bound log path
    × RightBefore task bound log path
unsound-here task bound log done path paths e rest up it q no-good = (
  record {
    wanted = wanted-next task bound log done (path ∷ paths) (e ∷ rest) it path (inl refl);
    present =
        let a : records_at log path ≡ records_at done path + records_at (e ∷ rest) path =
        records-log task bound log done (path ∷ paths) (e ∷ rest) it path in
        let b : 0 < records_at (e ∷ rest) path =
        times-pos same_list same_list-refl path (recorded (e ∷ rest)) (inl q) in
        omega arith;
    refused =
        rw q (refused-one task bound log e log (subst (λ l.
        Among e l) (sym it.whole) (Among-append_right e done (e ∷ rest) (inl refl))) no-good);
  },
  λ p h. right-at task bound log done (path ∷ paths) (e ∷ rest) it p
      (before-rest task log done e rest up it.whole p (rw (← q) h))
      (before-coming path paths it.part p h),
)

-- a pass finds what is first wrong
pub pass-finds : (task : Task) (bound : ℕ) (log done : List Entry) (paths : List (List ℕ))
    (rest : List Entry) → rises (recorded log) ≡ true → IsAt task bound log done paths rest →
    IsFound task bound log (verdict_from task bound log paths rest)
pass-finds task bound log done [] [] up it = record {
  complete = λ p.
      let a : records_at log p ≡ records_at done p + 0 =
      records-log task bound log done [] [] it p in
      let b : wants_of task log p ≡ records_at done p + 0 + 0 =
      wants-log task bound log done [] [] it p in
      omega arith;
  each_sound =
      all-by (λ entry. sound task bound entry.path entry.closing ≡ true) log (λ e m.
      and-left (sound task bound e.path e.closing) (names_settled log e.closing)
      (all-done task bound log done [] it e m));
  each_named =
      all-by (λ entry. names_settled log entry.closing ≡ true) log (λ e m.
      and-right (sound task bound e.path e.closing) (names_settled log e.closing)
      (all-done task bound log done [] it e m));
}
pass-finds task bound log done (path ∷ paths) [] up it =
    missing-here task bound log done path paths [] it (λ f m. absurd m)
pass-finds task bound log done [] (e ∷ rest) up it =
    stray-here task bound log done [] e rest up it (λ p m. absurd m)
pass-finds task bound log done (path ∷ paths) (e ∷ rest) up it =
    elim (either (same_list path e.path)) [
      | inl s ↦ (let q : path ≡ e.path = same_list-eq path e.path s in
          elim (either (holds_up task bound log e)) [
            | inl h ↦ rw (s, h) (pass-finds task bound log (done
                ++ e ∷ []) (left_open task e.path e.closing
                ++ paths) rest up (record-passed task bound log done path paths e rest up it q h))
            | inr h ↦ rw (s, h) (unsound-here task bound log done path paths e rest up it q h)
          ])
      | inr s ↦ elim (either (comes_before path e.path)) [
        | inl b ↦ rw (s, b) (missing-here task bound log done path paths (e ∷ rest) it
            (before-rest task log done e rest up it.whole path b))
        | inr b ↦ rw (s, b) (stray-here task bound log done (path ∷ paths) e rest up it
            (before-coming path paths it.part e.path (before-total path e.path s b)))
      ]
    ]

-- a whole pass
pub pass-verdict : (task : Task) (bound : ℕ) (log : List Entry) → rises (recorded log) ≡ true →
    IsVerdict task bound log (verdict_from task bound log ([] ∷ []) log)
pass-verdict task bound log up =
    found-is task bound log (verdict_from task bound log ([] ∷ []) log)
    (pass-finds task bound log [] ([] ∷ []) log up (record {
      whole = refl;
      counts = λ p. omega arith;
      upheld = λ e m. absurd m;
      part = (λ q m. absurd m, tt);
      behind = λ e p m n. absurd m;
    }))
