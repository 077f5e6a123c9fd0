-- A walk through the tree from node to next node takes the records by rising path, each once.
use Rattle.std.proofs.Common.{ℕ, zero, suc, ◌+◌, ◌<◌, ◌≤◌, ◌≡◌, ◌≢◌, Bool, true, false, cond, List}
use Rattle.std.proofs.Common.{[], ◌∷◌, ◌++◌, length, set, Option, Some, None, refl, sym, ap, ◌∙◌}
use Rattle.std.proofs.Common.{arith, subst, inl, inr, append_assoc, append-nil, eqb, eqb-true}
use Rattle.std.proofs.Common.{false-eqb, get_or}
use Rattle.std.specs.Prelude.{option_to_list}
use Rattle.std.specs.List.{list_all}
use Rattle.std.specs.List.Sorted.{IsPermutation}
use Rattle.std.proofs.lemmas.Bool.{and_from, and_parts, cases_Bool}
use Rattle.std.proofs.lemmas.List.{get_or-set_other, get_or-set_same, length-set, set-get_or}
use Rattle.std.proofs.lemmas.List.Sorted.{IsPermutation-append_right, IsPermutation-refl}
use Rattle.std.proofs.lemmas.List.Sorted.{IsPermutation-trans}
use Rattle.list_laws.specs.Sets.{same_list, total}
use Rattle.list_laws.proofs.Sums.{total-zero}
use Rattle.list_laws.proofs.Tests.{either, last-or-below}
use Rattle.list_laws.proofs.Times.{same_list-eq}
use Rattle.mill_model.specs.Log.{recorded}
use Rattle.mill_model.specs.declared.closing.Entry.{Entry}
use Rattle.index_links.specs.Forest.{Forest, nodes_of}
use Rattle.refute_log.specs.Rising.{comes_before, rises}
use Rattle.refute_log.proofs.Order.{before-irrefl, before-not, before-total, before-trans, same-sym}
use Rattle.piece_merge.specs.Paths.{IsNextNode, IsRooted, path_of}
use Rattle.piece_merge.specs.RecordTree.{IsRecordTree, present, record_at}
use Rattle.piece_merge.proofs.Placing.{present-taken, record-within}
use Rattle.piece_merge.proofs.TreePaths.{root-path, same-path}

-- Paths that rise.

-- nodes whose paths don't come before that of the next one
abbrev pub nodes_left : Forest → Option ℕ → ℕ
nodes_left f None = 0
nodes_left f (Some x) =
    total (nodes_of f) (λ z. cond (comes_before (path_of f z) (path_of f x)) 0 1)

total-most : (n : ℕ) (f g : ℕ → ℕ) → ((s : ℕ) → s < n → f s ≤ g s) → total n f ≤ total n g
total-most zero f g each = omega arith
total-most (suc n) f g each =
    let rest = total-most n f g (λ s b. each s (omega (arith, b))) in
    let here = each n (omega arith) in omega (arith, here, rest)

total-less : (n t : ℕ) (f g : ℕ → ℕ) → t < n → ((s : ℕ) → s < n → f s ≤ g s) → f t < g t →
    total n f < total n g
total-less zero t f g l each less = absurd (omega arith)
total-less (suc n) t f g l each less = elim (last-or-below t n l) [
  | inl e ↦ (
      let here : f n < g n = subst (λ s. f s < g s) e less in
      let rest = total-most n f g (λ s b. each s (omega (arith, b))) in
      omega (arith, here, rest))
  | inr b ↦ (
      let rest = total-less n t f g b (λ s c. each s (omega (arith, c))) less in
      let here = each n (omega arith) in omega (arith, here, rest))
]

-- a step to the next node leaves fewer
pub nodes-fall : (f : Forest) (x : ℕ) (next : Option ℕ) → x < nodes_of f → IsNextNode f x next →
    nodes_left f next < nodes_left f (Some x)
nodes-fall f x None low is =
    let more = total-less (nodes_of f) x (λ z. 0)
    (λ z. cond (comes_before (path_of f z) (path_of f x)) 0 1) low (λ s b. omega arith)
    (let no = before-irrefl (path_of f x) in rw no (omega arith)) in
    omega (arith, more, total-zero (nodes_of f))
nodes-fall f x (Some y) low is =
    total-less (nodes_of f) x
    (λ z. cond (comes_before (path_of f z) (path_of f y)) 0 1)
    (λ z. cond (comes_before (path_of f z) (path_of f x)) 0 1) low
    (λ s b. each (path_of f s) (comes_before (path_of f s) (path_of f x)) refl)
    (let no = before-irrefl (path_of f x) in rw (no, is.1) (omega arith))
  where
    each : (q : List ℕ) (b : Bool) → comes_before q (path_of f x) ≡ b →
        cond (comes_before q (path_of f y)) 0 1 ≤ cond (comes_before q (path_of f x)) 0 1
    each q true e =
        let further : comes_before q (path_of f y) ≡ true =
        before-trans q (path_of f x) (path_of f y) e is.1 in
        rw (further, e) (omega arith)
    each q false e = rw e (at-most (comes_before q (path_of f y)))
      where
        at-most : (b : Bool) → cond b 0 1 ≤ 1
        at-most true = omega arith
        at-most false = omega arith

-- What stands before and what is left.

-- the records that were taken come before the next node, and those that are left don't
abbrev pub IsBetween : Forest → List (Option Entry) → List Entry → Option ℕ → Type 0
IsBetween f records entries None =
    (z : ℕ) (e : Entry) → record_at records z ≡ Some e → ⊥
IsBetween f records entries (Some x) =
    (x < nodes_of f)
    × (list_all (λ p. comes_before p (path_of f x)) (recorded entries) ≡ true)
    × ((z : ℕ) (e : Entry) → record_at records z ≡ Some e →
    comes_before (path_of f z) (path_of f x) ≡ false)

pub record IsOnTheWalk (f : Forest) (first records : List (Option Entry)) (entries : List Entry)
    (next : Option ℕ) : Type 0 where
  pub tree : IsRecordTree f records
  pub same : IsPermutation (present first) (entries ++ present records)
  pub risen : rises (recorded entries) ≡ true
  pub between : IsBetween f records entries next

list-further : (ps : List (List ℕ)) (q r : List ℕ) → comes_before q r ≡ true →
    list_all (λ p. comes_before p q) ps ≡ true → list_all (λ p. comes_before p r) ps ≡ true
list-further [] q r b all = refl
list-further (p ∷ ps) q r b all =
    let parts = and_parts (comes_before p q) (list_all (λ p. comes_before p q) ps) all in
    and_from (comes_before p r) (list_all (λ p. comes_before p r) ps)
    (before-trans p q r parts.0 b) (list-further ps q r b parts.1)

list-push : (test : List ℕ → Bool) (ps : List (List ℕ)) (q : List ℕ) →
    list_all test ps ≡ true → test q ≡ true → list_all test (ps ++ q ∷ []) ≡ true
list-push test [] q all here = and_from (test q) true here refl
list-push test (p ∷ ps) q all here =
    let parts = and_parts (test p) (list_all test ps) all in
    and_from (test p) (list_all test (ps ++ q ∷ [])) parts.0
    (list-push test ps q parts.1 here)

rises-push : (ps : List (List ℕ)) (q : List ℕ) → rises ps ≡ true →
    list_all (λ p. comes_before p q) ps ≡ true → rises (ps ++ q ∷ []) ≡ true
rises-push [] q risen all = refl
rises-push (p ∷ ps) q risen all =
    let parts = and_parts (list_all (comes_before p) ps) (rises ps) risen in
    let tests = and_parts (comes_before p q) (list_all (λ p. comes_before p q) ps) all in
    and_from (list_all (comes_before p) (ps ++ q ∷ [])) (rises (ps ++ q ∷ []))
    (list-push (comes_before p) ps q parts.0 tests.0) (rises-push ps q parts.1 tests.1)

recorded-push : (entries : List Entry) (e : Entry) →
    recorded (entries ++ e ∷ []) ≡ recorded entries ++ e.path ∷ []
recorded-push [] e = refl
recorded-push (d ∷ entries) e = ap (λ ps. d.path ∷ ps) (recorded-push entries e)

-- no record has come before the walk begins
pub walk-begins : (f : Forest) (records : List (Option Entry)) → IsRecordTree f records →
    IsOnTheWalk f records records [] (Some 0)
walk-begins f records is = record {
  tree = is;
  same = IsPermutation-refl (present records);
  risen = refl;
  between = (
    is.tree.begun,
    refl,
    λ z e some. subst (λ q. comes_before (path_of f z) q ≡ false) (sym root) (none (path_of f z)),
  );
}
  where
    root : path_of f 0 ≡ []
    root = refl

    none : (q : List ℕ) → comes_before q [] ≡ false
    none [] = refl
    none (g ∷ q) = refl

nothing-left : (records : List (Option Entry)) →
    ((z : ℕ) (e : Entry) → record_at records z ≡ Some e → ⊥) → present records ≡ []
nothing-left [] none = refl
nothing-left (None ∷ records) none = nothing-left records (λ z e. none (suc z) e)
nothing-left (Some d ∷ records) none = absurd (none 0 d refl)

-- at its end all records have come
pub walk-ends : (f : Forest) (first records : List (Option Entry)) (entries : List Entry) →
    IsOnTheWalk f first records entries None → IsPermutation (present first) entries
walk-ends f first records entries is =
    subst (IsPermutation (present first))
    (ap (λ es. entries ++ es) (nothing-left records is.between) ∙ append-nil entries) is.same

-- One step: the record of the node, if it has one, is taken.
module _ (f : Forest) (first records : List (Option Entry)) (entries : List Entry) (x : ℕ)
    (is : IsOnTheWalk f first records entries (Some x)) where
  low : x < nodes_of f
  low = is.between.0

  pub step-within : x < length records
  step-within = omega (arith, low, is.tree.beside)

  -- another node's record is left as it was
  still : (z : ℕ) (e : Entry) → record_at (set records x None) z ≡ Some e →
      (z ≢ x) × (record_at records z ≡ Some e)
  still z e some = elim (either (eqb z x)) [
    | inl s ↦ absurd (
        let here : z ≡ x = eqb-true z x s in
        let none : None ≡ Some e =
        sym (get_or-set_same records x None None step-within)
        ∙ ap (record_at (set records x None)) (sym here) ∙ some in cc)
    | inr g ↦ (
      false-eqb z x (sym g),
      sym (get_or-set_other records x z None None (false-eqb z x (sym g))) ∙ some,
    )
  ]

  -- what is left comes after the node
  later : (z : ℕ) (e : Entry) → record_at (set records x None) z ≡ Some e →
      (z < nodes_of f) × (comes_before (path_of f x) (path_of f z) ≡ true)
  later z e some =
      let s = still z e some in
      let within = record-within records z e s.1 in
      let high : z < nodes_of f = omega (arith, within, is.tree.beside) in (
        high,
        elim (cases_Bool (same_list (path_of f z) (path_of f x))) [
          | inl same ↦ absurd (s.0 (same-path f is.tree.tree z x high low
              (same_list-eq (path_of f z) (path_of f x) same)))
          | inr other ↦ before-total (path_of f z) (path_of f x) other
              (is.between.2 z e s.1)
        ],
      )

  left-tree : IsRecordTree f (set records x None)
  left-tree = record {
    tree = is.tree.tree;
    beside = length-set records x None ∙ is.tree.beside;
    at_path = λ z e some. is.tree.at_path z e (still z e some).1;
  }

  between-more : (more : List Entry) (next : Option ℕ) → IsNextNode f x next →
      ((q : List ℕ) → comes_before (path_of f x) q ≡ true →
      list_all (λ p. comes_before p q) (recorded more) ≡ true) →
      IsBetween f (set records x None) more next
  between-more more None is_next all =
      λ z e some. (let l = later z e some in
      absurd (let none : false ≡ true = sym (is_next z l.0) ∙ l.1 in cc))
  between-more more (Some y) is_next all = (
    is_next.0,
    all (path_of f y) is_next.1,
    λ z e some. (let l = later z e some in is_next.2 z l.0 l.1),
  )

  pub step : (next : Option ℕ) (r : Option Entry) → record_at records x ≡ r →
      IsNextNode f x next →
      IsOnTheWalk f first (set records x None) (entries ++ option_to_list r) next
  step next None e is_next = record {
    tree = left-tree;
    same = subst (λ (rs : List (Option Entry)).
        IsPermutation (present first) ((entries ++ []) ++ present rs))
        (sym unchanged)
        (subst (λ es. IsPermutation (present first) (es ++ present records))
        (sym (append-nil entries)) is.same);
    risen = subst (λ es. rises (recorded es) ≡ true) (sym (append-nil entries)) is.risen;
    between = subst (λ es. IsBetween f (set records x None) es next) (sym (append-nil entries))
        (between-more entries next is_next (λ q b.
        list-further (recorded entries) (path_of f x) q b is.between.1));
  }
    where
      unchanged : set records x None ≡ records
      unchanged = ap (set records x) (sym e) ∙ set-get_or records x None
  step next (Some d) e is_next = record {
    tree = left-tree;
    same = IsPermutation-trans (present first) (entries ++ present records)
        ((entries ++ d ∷ []) ++ present (set records x None)) is.same
        (subst (IsPermutation (entries ++ present records))
        (sym (append_assoc entries (d ∷ []) (present (set records x None))))
        (IsPermutation-append_right entries (present records)
        (d ∷ present (set records x None)) (present-taken records x d step-within e)));
    risen = subst (λ ps. rises ps ≡ true) (sym (recorded-push entries d))
        (rises-push (recorded entries) d.path is.risen before-d);
    between = between-more (entries ++ d ∷ []) next is_next (λ q b.
        subst (λ ps. list_all (λ p. comes_before p q) ps ≡ true) (sym (recorded-push entries d))
        (list-push (λ p. comes_before p q) (recorded entries) d.path
        (list-further (recorded entries) (path_of f x) q b is.between.1)
        (subst (λ p. comes_before p q ≡ true) (sym at) b)));
  }
    where
      at : d.path ≡ path_of f x
      at = is.tree.at_path x d e

      before-d : list_all (λ p. comes_before p d.path) (recorded entries) ≡ true
      before-d = subst (λ q. list_all (λ p. comes_before p q) (recorded entries) ≡ true) (sym at)
          is.between.1
