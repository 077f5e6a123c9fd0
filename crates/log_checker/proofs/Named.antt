-- The record that a dominated one names. In a rising log a path has at most one record, and a
-- search by halves finds it: what stands before the middle comes before, what stands behind it
-- after. So the one record decides whether the path is settled; where nothing is left between the
-- halves there is none.
use Rattle.std.proofs.Common.{ℕ, zero, suc, ◌+◌, ◌<◌, ◌≤◌, ◌≡◌, ◌⊎◌, Bool, true, false, not, ◌||◌}
use Rattle.std.proofs.Common.{List, [], ◌∷◌, length, get_or, refl, sym, ap, ◌∙◌, subst, arith, inl}
use Rattle.std.proofs.Common.{inr}
use Rattle.std.specs.List.{list_all}
use Rattle.list_laws.specs.Sets.{same_list}
use Rattle.mill_model.specs.Log.{recorded, is_settled, is_dominated}
use Rattle.mill_model.proofs.Records.{recorded-length}
use Rattle.mill_model.specs.declared.closing.Entry.{Entry}
use Rattle.list_laws.proofs.Times.{same_list-refl, same_list-eq}
use Rattle.list_laws.proofs.Tests.{and-left, and-right}
use Rattle.list_laws.proofs.Among.{Among, all-among}
use Rattle.refute_log.specs.Rising.{comes_before, rises}
use Rattle.refute_log.proofs.Order.{before-trans, before-differs, after-differs}

among-at : (ps : List (List ℕ)) (i : ℕ) → i < length ps → Among (get_or ps i []) ps
among-at [] i h = absurd (omega arith)
among-at (p ∷ ps) zero h = inl refl
among-at (p ∷ ps) (suc i) h = inr (among-at ps i (omega arith))

-- in a rising list of paths an earlier one comes before a later one
pub rises-at : (ps : List (List ℕ)) (i j : ℕ) → rises ps ≡ true → i < j → j < length ps →
    comes_before (get_or ps i []) (get_or ps j []) ≡ true
rises-at [] i j r h l = absurd (omega arith)
rises-at (p ∷ ps) zero zero r h l = absurd (omega arith)
rises-at (p ∷ ps) zero (suc j) r h l =
    all-among (comes_before p) (get_or ps j []) ps (and-left (list_all (comes_before p) ps)
    (rises ps) r) (among-at ps j (omega arith))
rises-at (p ∷ ps) (suc i) zero r h l = absurd (omega arith)
rises-at (p ∷ ps) (suc i) (suc j) r h l =
    rises-at ps i j (and-right (list_all (comes_before p) ps) (rises ps) r) (omega arith)
    (omega arith)

-- a path that differs from each recorded one is not settled
pub settled-none : (log : List Entry) (path : List ℕ) →
    ((i : ℕ) → i < length log → same_list path (get_or (recorded log) i []) ≡ false) →
    is_settled log path ≡ false
settled-none [] path h = refl
settled-none (e ∷ log) path h =
    let a : same_list path e.path ≡ false = h 0 (omega arith) in
    let ih : is_settled log path ≡ false = settled-none log path (λ i l. h (suc i) (omega arith)) in
    rw (a, ih) refl

-- the one record of a path says whether it is settled
pub settled-at : (log : List Entry) (path : List ℕ) (m : ℕ) (e : Entry) →
    rises (recorded log) ≡ true → m < length log → e ≡ get_or log m e →
    same_list path e.path ≡ true → is_settled log path ≡ not (is_dominated e.closing)
settled-at [] path m e r h q s = absurd (omega arith)
settled-at (x ∷ log) path zero e r h q s =
    let p : path ≡ e.path = same_list-eq path e.path s in
    let k : is_settled log path ≡ false =
    settled-none log path (λ i l. let b : comes_before x.path
    (get_or (recorded log) i []) ≡ true =
    rises-at (x.path ∷ recorded log) 0 (suc i) r (omega arith)
    (let n : length (recorded log) ≡ length log = recorded-length log in omega arith) in
    rw (p, ap (λ (z : Entry). z.path) q) (before-differs x.path (get_or (recorded log) i []) b))
    in
    let t : same_list path x.path ≡ true =
    subst (λ (z : Entry). same_list path z.path ≡ true) q s in
    rw (t, k) (end (not (is_dominated x.closing)) (not (is_dominated e.closing)) (ap (λ (z : Entry).
    not (is_dominated z.closing)) (sym q)))
  where
    end : (a b : Bool) → a ≡ b → (a || false) ≡ b
    end true b e = e
    end false b e = e
settled-at (x ∷ log) path (suc m) e r h q s =
    let p : path ≡ e.path = same_list-eq path e.path s in
    let b : comes_before x.path (get_or (recorded log) m []) ≡ true =
    rises-at (x.path ∷ recorded log) 0 (suc m) r (omega arith)
    (let n : length (recorded log) ≡ length log = recorded-length log in omega arith) in
    let f : get_or (recorded log) m [] ≡ e.path =
    path-at log m e (omega arith) ∙ ap (λ (z : Entry). z.path) (sym q) in
    let d : same_list path x.path ≡ false = rw p (after-differs x.path e.path (rw (← f) b)) in
    rw d (settled-at log path m e (and-right (list_all (comes_before x.path) (recorded log))
    (rises (recorded log)) r) (omega arith) q s)
  where
    path-at : (log : List Entry) (i : ℕ) (d : Entry) → i < length log →
        get_or (recorded log) i [] ≡ (get_or log i d).path
    path-at [] i d h = absurd (omega arith)
    path-at (x ∷ log) zero d h = refl
    path-at (x ∷ log) (suc i) d h = path-at log i d (omega arith)

lt-or-eq : (i m : ℕ) → i < m + 1 → (i < m) ⊎ (i ≡ m)
lt-or-eq i m h = grind arith

eq-or-gt : (i m : ℕ) → m ≤ i → (m < i) ⊎ (i ≡ m)
eq-or-gt i m h = grind arith

-- all up to a record that comes before a path do, and all from one on that comes after it
pub all-before : (log : List Entry) (path : List ℕ) (m : ℕ) (e : Entry) →
    rises (recorded log) ≡ true → m < length log → get_or (recorded log) m [] ≡ e.path →
    comes_before e.path path ≡ true → (i : ℕ) → i < m + 1 →
    comes_before (get_or (recorded log) i []) path ≡ true
all-before log path m e r h q b i l =
    let n : length (recorded log) ≡ length log = recorded-length log in
    elim (lt-or-eq i m l) [
      | inl k ↦ before-trans (get_or (recorded log) i []) e.path path (subst (λ p.
          comes_before (get_or (recorded log) i []) p ≡ true) q
          (rises-at (recorded log) i m r k (omega arith))) b
      | inr k ↦ rw (k, q) b
    ]

pub all-after : (log : List Entry) (path : List ℕ) (m : ℕ) (e : Entry) →
    rises (recorded log) ≡ true → get_or (recorded log) m [] ≡ e.path →
    comes_before path e.path ≡ true → (i : ℕ) → m ≤ i → i < length log →
    comes_before path (get_or (recorded log) i []) ≡ true
all-after log path m e r q b i l h =
    let n : length (recorded log) ≡ length log = recorded-length log in
    elim (eq-or-gt i m l) [
      | inl k ↦ before-trans path e.path (get_or (recorded log) i []) b (subst (λ p.
          comes_before p (get_or (recorded log) i []) ≡ true) q
          (rises-at (recorded log) m i r k (omega arith)))
      | inr k ↦ rw (k, q) b
    ]

-- a path round which all records stand is not recorded
pub settled-between : (log : List Entry) (path : List ℕ) (low high : ℕ) → high ≤ low →
    ((i : ℕ) → i < low → comes_before (get_or (recorded log) i []) path ≡ true) →
    ((i : ℕ) → high ≤ i → i < length log → comes_before path (get_or (recorded log) i []) ≡ true) →
    is_settled log path ≡ false
settled-between log path low high h b a =
    settled-none log path (λ i l. elim (low-or-high i low) [
      | inl k ↦
          after-differs (get_or (recorded log) i []) path (b i k)
      | inr k ↦ before-differs path (get_or (recorded log) i []) (a i (omega arith) l)
    ])
  where
    low-or-high : (i low : ℕ) → (i < low) ⊎ (low ≤ i)
    low-or-high i low = grind arith

pub same-sym' : (p q : List ℕ) → same_list q p ≡ true → same_list p q ≡ true
same-sym' p q h = let e : q ≡ p = same_list-eq q p h in rw (← e) (same_list-refl q)
