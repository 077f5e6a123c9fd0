-- A tree of records that grows: a child that is found or made, and a record put beside its node.
use Rattle.std.proofs.Common.{ℕ, zero, suc, ◌+◌, ◌<◌, ◌≤◌, ◌≡◌, ◌⊎◌, Bool, true, false, cond, List}
use Rattle.std.proofs.Common.{◌∷◌, ◌++◌, length, set, take, drop, Option, Some, None, refl, sym, ap}
use Rattle.std.proofs.Common.{[], ◌∙◌, arith, subst, inl, inr, eqb, eqb-true, false-eqb, get_or}
use Rattle.std.specs.List.Sorted.{IsPermutation}
use Rattle.std.proofs.lemmas.List.{get_or-set_other, get_or-set_same, length-set, length_push}
use Rattle.std.proofs.lemmas.List.{get_or_default, take-append-drop}
use Rattle.std.proofs.lemmas.List.Sorted.{IsPermutation-cons, IsPermutation-middle}
use Rattle.std.proofs.lemmas.List.Sorted.{IsPermutation-refl, IsPermutation-sym}
use Rattle.std.proofs.lemmas.List.Sorted.{IsPermutation-trans}
use Rattle.std.proofs.Math.Seq.{take-suc}
use Rattle.list_laws.specs.Sets.{same_list, times}
use Rattle.list_laws.proofs.Tests.{either, last-or-below}
use Rattle.list_laws.proofs.Times.{same_list-refl}
use Rattle.mill_model.specs.Log.{recorded}
use Rattle.mill_model.specs.declared.closing.Entry.{Entry}
use Rattle.index_links.specs.Forest.{Forest, IsForest, children_of, label_of, nodes_of, parent_of}
use Rattle.index_links.specs.Forest.{with_node}
use Rattle.index_links.proofs.WithNode.{count-with, label-new, parent-new, parent-old}
use Rattle.piece_merge.specs.Paths.{GrewAlong, IsRooted, path_of}
use Rattle.piece_merge.specs.RecordTree.{HasGrown, IsRecordTree, IsWithoutPath, present, record_at}
use Rattle.piece_merge.proofs.TreePaths.{child-path, path-stays}

-- The records, by node.

pub record-push : (records : List (Option Entry)) (x : ℕ) →
    record_at (records ++ None ∷ []) x ≡ record_at records x
record-push [] zero = refl
record-push [] (suc x) = refl
record-push (r ∷ records) zero = refl
record-push (r ∷ records) (suc x) = record-push records x

pub present-push : (records : List (Option Entry)) →
    present (records ++ None ∷ []) ≡ present records
present-push [] = refl
present-push (None ∷ records) = present-push records
present-push (Some e ∷ records) = ap (λ es. e ∷ es) (present-push records)

-- a record that is put where there was none
pub present-set : (records : List (Option Entry)) (x : ℕ) (e : Entry) → x < length records →
    record_at records x ≡ None →
    IsPermutation (e ∷ present records) (present (set records x (Some e)))
present-set [] x e low none = absurd (omega arith)
present-set (None ∷ records) zero e low none = IsPermutation-refl (e ∷ present records)
present-set (Some d ∷ records) zero e low none = absurd (cc)
present-set (None ∷ records) (suc x) e low none = present-set records x e (omega arith) none
present-set (Some d ∷ records) (suc x) e low none =
    IsPermutation-trans (e ∷ d ∷ present records) (d ∷ e ∷ present records)
    (d ∷ present (set records x (Some e)))
    (IsPermutation-sym (d ∷ e ∷ present records) (e ∷ d ∷ present records)
    (IsPermutation-middle (d ∷ []) e (present records)))
    (IsPermutation-cons d (e ∷ present records) (present (set records x (Some e)))
    (present-set records x e (omega arith) none))

-- a record that is taken
pub present-taken : (records : List (Option Entry)) (x : ℕ) (e : Entry) → x < length records →
    record_at records x ≡ Some e →
    IsPermutation (present records) (e ∷ present (set records x None))
present-taken [] x e low some = absurd (omega arith)
present-taken (None ∷ records) zero e low some = absurd (cc)
present-taken (Some d ∷ records) zero e low some =
    let same : d ≡ e = cc in
    subst (λ z. IsPermutation (d ∷ present records) (z ∷ present records)) same
    (IsPermutation-refl (d ∷ present records))
present-taken (None ∷ records) (suc x) e low some = present-taken records x e (omega arith) some
present-taken (Some d ∷ records) (suc x) e low some =
    IsPermutation-trans (d ∷ present records) (d ∷ e ∷ present (set records x None))
    (e ∷ d ∷ present (set records x None))
    (IsPermutation-cons d (present records) (e ∷ present (set records x None))
    (present-taken records x e (omega arith) some))
    (IsPermutation-middle (d ∷ []) e (present (set records x None)))

-- a record at a node has come
pub present-times : (records : List (Option Entry)) (x : ℕ) (e : Entry) →
    record_at records x ≡ Some e → 0 < times same_list e.path (recorded (present records))
present-times [] x e some = absurd (cc)
present-times (None ∷ records) zero e some = absurd (cc)
present-times (None ∷ records) (suc x) e some = present-times records x e some
present-times (Some d ∷ records) zero e some =
    let same : d ≡ e = cc in
    subst (λ z. 0 < times same_list z.path (recorded (d ∷ present records))) same
    (let k = same_list-refl d.path in rw k (omega arith))
present-times (Some d ∷ records) (suc x) e some =
    let behind = present-times records x e some in
    omega (arith, behind)

pub record-within : (records : List (Option Entry)) (x : ℕ) (e : Entry) →
    record_at records x ≡ Some e → x < length records
record-within [] x e some = absurd (cc)
record-within (r ∷ records) zero e some = omega arith
record-within (r ∷ records) (suc x) e some =
    let behind = record-within records x e some in omega (arith, behind)

-- A child that is found.
module _ (f : Forest) (records : List (Option Entry)) (is : IsRecordTree f records)
    (node label : ℕ) (low : node < nodes_of f) where
  pub found-path : (child : ℕ) → child < nodes_of f → parent_of f child ≡ Some node →
      label_of f child ≡ label → path_of f child ≡ path_of f node ++ label ∷ []
  found-path child high up e =
      child-path f is.tree.forest child node high up ∙ ap (λ l. path_of f node ++ l ∷ []) e

  pub grown-none : (child : ℕ) → HasGrown child f f
  grown-none child = record {
    kept = λ x l. (l, refl);
    few = omega arith;
    only = λ x l. inl l;
  }

  -- A child that is made.
  abbrev more : Forest
  more = with_node f (Some node) label

  count : nodes_of more ≡ nodes_of f + 1
  count = count-with f is.tree.forest (Some node) label

  module _ (forest : IsForest more) where
    pub made-path : (nodes_of f < nodes_of more)
        × (path_of more (nodes_of f) ≡ path_of f node ++ label ∷ [])
    made-path = (
      omega (arith, count),
      child-path more forest (nodes_of f) node (omega (arith, count))
          (parent-new f is.tree.forest (Some node) label)
          ∙ ap (λ l. path_of more node ++ l ∷ []) (label-new f is.tree.forest (Some node) label)
          ∙ ap (λ q. q ++ label ∷ []) (path-stays f is.tree.forest (Some node) label node low),
    )

    pub made-grown : HasGrown (nodes_of f) f more
    made-grown = record {
      kept = λ x l. (
        omega (arith, l, count),
        path-stays f is.tree.forest (Some node) label x l,
      );
      few = omega (arith, count);
      only = λ x l. elim (last-or-below x (nodes_of f) (omega (arith, l, count))) [
        | inl e ↦ inr e
        | inr b ↦ inl b
      ];
    }

    pub made-tree : IsRecordTree more (records ++ None ∷ [])
    made-tree = record {
      tree = record {
        forest = forest;
        begun = omega (arith, count);
        root = λ x l e. elim (last-or-below x (nodes_of f) (omega (arith, l, count))) [
          | inl s ↦ absurd (
              let none : None ≡ Some node =
              sym e ∙ ap (parent_of more) s ∙ parent-new f is.tree.forest (Some node) label in cc)
          | inr b ↦ is.tree.root x b
              (sym (parent-old f is.tree.forest (Some node) label x b) ∙ e)
        ];
      };
      beside = length_push records None ∙ omega (arith, is.beside, count);
      at_path = λ x e some. (
          let there : record_at records x ≡ Some e = sym (record-push records x) ∙ some in
          let within = record-within records x e there in
          is.at_path x e there
          ∙ sym (path-stays f is.tree.forest (Some node) label x
          (omega (arith, within, is.beside))));
    }

-- A tree grows along a path, node by node.

-- the front of a path with one number more
pub longer : (path : List ℕ) (k label : ℕ) → k < length path → label ≡ get_or path k label →
    take (k + 1) path ≡ take k path ++ label ∷ []
longer path k label low here =
    let next : k + 1 ≡ suc k = omega arith in
    ap (λ m. take m path) next ∙ take-suc path k label low
    ∙ ap (λ l. take k path ++ l ∷ []) (sym here)

pub grew-none : (path : List ℕ) (f : Forest) → GrewAlong path f f
grew-none path f = record { kept = λ x l. (l, refl); fronts = λ x l. inl l }

pub grew-more : (path : List ℕ) (before now next : Forest) (child k label : ℕ) →
    GrewAlong path before now → HasGrown child now next → k < length path →
    label ≡ get_or path k label → path_of next child ≡ take k path ++ label ∷ [] →
    GrewAlong path before next
grew-more path before now next child k label grew grown low here at = record {
  kept = λ x l. (
      let a = grew.kept x l in let b = grown.kept x a.0 in (b.0, b.1 ∙ a.1));
  fronts = λ x l. elim (grown.only x l) [
    | inl old ↦ elim (grew.fronts x old) [
      | inl older ↦ inl older
      | inr r ↦ inr (r.0, r.1 ∙ ap (λ q. q ++ r.0) (sym (grown.kept x old).1))
    ]
    | inr new ↦ inr (
      drop (k + 1) path,
      sym (take-append-drop (k + 1) path)
          ∙ ap (λ q. q ++ drop (k + 1) path)
          (longer path k label low here ∙ sym at ∙ ap (path_of next) (sym new)),
    )
  ];
}

-- one step of the walk along a path
pub node-more : (path : List ℕ) (before now next : Forest) (node child k label : ℕ) →
    GrewAlong path before now → HasGrown child now next → k < length path →
    path_of now node ≡ take k path → path_of next child ≡ path_of now node ++ label ∷ [] →
    label ≡ get_or path k 0 →
    GrewAlong path before next × (path_of next child ≡ take (k + 1) path)
node-more path before now next node child k label grew grown low at at_child here =
    let same : label ≡ get_or path k label =
    here ∙ sym (get_or_default path k label 0 low) in
    let front : path_of next child ≡ take k path ++ label ∷ [] =
    at_child ∙ ap (λ q. q ++ label ∷ []) at in (
      grew-more path before now next child k label grew grown low same front,
      front ∙ sym (longer path k label low same),
    )

-- A record that is put beside its node.
module _ (f : Forest) (records : List (Option Entry)) (is : IsRecordTree f records)
    (node : ℕ) (entry : Entry) (low : node < nodes_of f) (at : path_of f node ≡ entry.path)
    (apart : IsWithoutPath entry.path (present records)) where
  pub empty : record_at records node ≡ None
  empty = go (record_at records node) refl
    where
      go : (r : Option Entry) → record_at records node ≡ r → r ≡ None
      go None e = refl
      go (Some other) e =
          let same : other.path ≡ entry.path = is.at_path node other e ∙ at in
          let some = present-times records node other e in
          absurd (omega (
            arith,
            apart,
            subst (λ q. 0 < times same_list q
                (recorded (present records))) same some,
          ))

  pub placed : IsPermutation (entry ∷ present records) (present (set records node (Some entry)))
  placed = present-set records node entry (omega (arith, low, is.beside)) empty

  pub placed-tree : IsRecordTree f (set records node (Some entry))
  placed-tree = record {
    tree = is.tree;
    beside = length-set records node (Some entry) ∙ is.beside;
    at_path = λ x e some. elim (either (eqb x node)) [
      | inl s ↦ (
          let here : x ≡ node = eqb-true x node s in
          let same : entry ≡ e =
          (let both : Some entry ≡ Some e =
          sym (get_or-set_same records node (Some entry) None (omega (arith, low, is.beside)))
          ∙ ap (λ y. record_at (set records node (Some entry)) y) (sym here) ∙ some in cc) in
          ap (λ (d : Entry). d.path) (sym same) ∙ sym at ∙ ap (path_of f) (sym here))
      | inr g ↦ is.at_path x e
          (sym (get_or-set_other records node x (Some entry) None (false-eqb x node (sym g)))
          ∙ some)
    ];
  }

-- the first tree: the root alone
pub first-tree : (f : Forest) → IsForest f → nodes_of f ≡ 1 →
    IsRecordTree f (None ∷ [])
first-tree f forest one = record {
  tree = record {
    forest = forest;
    begun = omega (arith, one);
    root = λ x l e. omega (arith, l, one);
  };
  beside = sym one;
  at_path = λ x e some. absurd (
      let within = record-within (None ∷ []) x e some in
      let first : x ≡ 0 = omega (arith, within) in
      let none : None ≡ Some e = subst (λ y. record_at (None ∷ []) y ≡ Some e) first some in cc);
}
