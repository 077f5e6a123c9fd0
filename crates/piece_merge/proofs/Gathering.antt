-- The records of a whole run, put into one tree one after another: none has the path of another,
-- and each front of a path is a path of the run, so the tree has no more nodes than the run has
-- records, the root aside.
use Rattle.std.proofs.Common.{ℕ, ◌+◌, ◌<◌, ◌≤◌, ◌-◌, ◌^◌, ◌≡◌, ◌⊎◌, true, cond, All, List, [], ◌∷◌}
use Rattle.std.proofs.Common.{◌++◌, length, refl, sym, ap, ◌∙◌, arith, subst, inl, inr, append-nil}
use Rattle.std.proofs.Common.{Option, leb, ltb}
use Rattle.std.proofs.lemmas.Bool.{leb-true}
use Rattle.std.specs.List.Sorted.{IsPermutation}
use Rattle.std.proofs.lemmas.List.Elements.{All-from_recursion, recursion_from_All}
use Rattle.std.specs.List.{list_all}
use Rattle.std.proofs.lemmas.List.Sorted.{All-permutation, IsPermutation-append_right}
use Rattle.std.proofs.lemmas.List.Sorted.{IsPermutation-middle, IsPermutation-refl}
use Rattle.std.proofs.lemmas.List.Sorted.{IsPermutation-sym, IsPermutation-trans}
use Rattle.list_laws.specs.Sets.{same_list, times}
use Rattle.list_laws.proofs.Among.{Among, each-weaker}
use Rattle.list_laws.proofs.Tests.{and-left}
use Rattle.list_laws.proofs.Times.{same_list-eq, same_list-refl, times-among, times-pos}
use Rattle.mill_model.specs.Conserved.{joined}
use Rattle.mill_model.specs.Log.{recorded}
use Rattle.mill_model.specs.declared.closing.Entry.{Entry}
use Rattle.mill_model.specs.declared.closing.Closing.TheVariants.{Split}
use Rattle.mill_model.specs.declared.limits.TheConstants.{MAX_NODES}
use Rattle.mill_laws.proofs.Law.{recorded-has}
use Rattle.mill_laws.proofs.Thrift.{on-the-way}
use Rattle.index_links.specs.Forest.{Forest, nodes_of}
use Rattle.refute_log.specs.Fits.{closing_fits, fits, path_fits}
use Rattle.piece_merge.specs.Merging.{AreOfAWholeRun, HasAllFronts, IsRecordedOnce}
use Rattle.piece_merge.specs.Paths.{GrewAlong, path_of}
use Rattle.piece_merge.specs.RecordTree.{IsRecordTree, IsWithoutPath, present}
use Rattle.piece_merge.proofs.FewNodes.{few-nodes}
use Rattle.piece_merge.proofs.Reordered.{recorded-moved}
use Rattle.piece_merge.proofs.TreePaths.{root-path}

recorded-length : (log : List Entry) → length (recorded log) ≡ length log
recorded-length [] = refl
recorded-length (e ∷ log) = let rest = recorded-length log in omega (arith, rest)

times-behind : (p : List ℕ) (xs ys : List Entry) →
    times same_list p (recorded ys) ≤ times same_list p (recorded (xs ++ ys))
times-behind p [] ys = omega arith
times-behind p (x ∷ xs) ys = let rest = times-behind p xs ys in omega (arith, rest)

-- paths that fit so many orders are short
pub short-paths : (orders : ℕ) (log : List Entry) → orders < 2 ^ 16 →
    All (λ entry. fits orders entry ≡ true) log → All (λ entry. length entry.path < 2 ^ 16) log
short-paths orders log few fit =
    All-from_recursion (λ entry. length entry.path < 2 ^ 16) log
    (each-weaker (λ entry. fits orders entry ≡ true) (λ entry. length entry.path < 2 ^ 16) log
    short (recursion_from_All (λ entry. fits orders entry ≡ true) log fit))
  where
    short : (e : Entry) → fits orders e ≡ true → length e.path < 2 ^ 16
    short e h =
        let path = and-left (path_fits orders e.path)
        (closing_fits orders (length e.path) e.closing) h in
        let most = leb-true (length e.path) orders
        (and-left (leb (length e.path) orders) (list_all (λ g. ltb g orders) e.path) path) in
        omega (arith, few, most)

-- each front of a path of a whole run is a path of the run
pub whole-fronts : (pieces : List (List Entry)) → AreOfAWholeRun pieces →
    HasAllFronts (joined pieces)
whole-fronts pieces whole path [] h =
    subst (λ q. 0 < times same_list q (recorded (joined pieces))) (append-nil path) h
whole-fronts pieces whole path (g ∷ rest) h =
    times-pos same_list same_list-refl path (recorded (joined pieces))
    (recorded-has path Split (joined pieces)
    (on-the-way whole.task (joined pieces) [] whole.conserved.paths (length rest) path g rest
    (omega arith)
    (subst (Among (path ++ g ∷ rest)) (sym (append-nil (recorded (joined pieces))))
    (times-among same_list same_list-eq (path ++ g ∷ rest) (recorded (joined pieces)) h))).0)

-- the records that are still to come and those in the tree are all
pub record HasGathered (all rest : List Entry) (f : Forest) (records : List (Option Entry))
    : Type 0 where
  pub tree : IsRecordTree f records
  pub same : IsPermutation all (rest ++ present records)
  pub within : (x : ℕ) → x < nodes_of f →
      (path_of f x ≡ []) ⊎ (0 < times same_list (path_of f x) (recorded all))

pub gathered-none : (all : List Entry) (f : Forest) (records : List (Option Entry)) →
    IsRecordTree f records → present records ≡ [] → nodes_of f ≡ 1 →
    HasGathered all all f records
gathered-none all f records tree none one = record {
  tree = tree;
  same = subst (IsPermutation all) (sym (append-nil all) ∙ ap (λ es. all ++ es) (sym none))
      (IsPermutation-refl all);
  within = λ x l. inl (let first : x ≡ 0 = omega (arith, l, one) in ap (path_of f) first);
}

pub gathered-all : (all : List Entry) (f : Forest) (records : List (Option Entry)) →
    HasGathered all [] f records → IsPermutation all (present records)
gathered-all all f records is = is.same

module _ (all rest : List Entry) (entry : Entry) (f : Forest) (records : List (Option Entry))
    (is : HasGathered all (entry ∷ rest) f records) (once : IsRecordedOnce all) where
  counted : times same_list entry.path (recorded (entry ∷ rest ++ present records))
      ≡ times same_list entry.path (recorded all)
  counted = recorded-moved all (entry ∷ rest ++ present records) is.same entry.path

  -- no record in the tree has its path
  pub still-apart : IsWithoutPath entry.path (present records)
  still-apart =
      let itself = same_list-refl entry.path in
      let sum : cond (same_list entry.path entry.path) 1 0
      + times same_list entry.path (recorded (rest ++ present records))
      ≡ times same_list entry.path (recorded all) = counted in
      let more : 1 + times same_list entry.path (recorded (rest ++ present records))
      ≡ times same_list entry.path (recorded all) = rw itself at sum in
      omega (arith, more, once entry.path, times-behind entry.path rest (present records))

  there : 0 < times same_list entry.path (recorded all)
  there =
      let itself = same_list-refl entry.path in
      let sum : cond (same_list entry.path entry.path) 1 0
      + times same_list entry.path (recorded (rest ++ present records))
      ≡ times same_list entry.path (recorded all) = counted in
      let more : 1 + times same_list entry.path (recorded (rest ++ present records))
      ≡ times same_list entry.path (recorded all) = rw itself at sum in
      omega (arith, more)

  -- the numbers of nodes suffice
  pub still-few : length all ≤ MAX_NODES → All (λ e. length e.path < 2 ^ 16) all →
      nodes_of f + length entry.path < 2 ^ 32 - 1
  still-few few short =
      let nodes = few-nodes f is.tree.tree (recorded all) is.within in
      let one : length entry.path < 2 ^ 16 =
      (recursion_from_All (λ e. length e.path < 2 ^ 16) (entry ∷ rest ++ present records)
      (All-permutation (λ e. length e.path < 2 ^ 16) all (entry ∷ rest ++ present records)
      is.same short)).0 in
      omega (arith, nodes, one, few, recorded-length all)

  pub gathered-more : (now : Forest) (put : List (Option Entry)) → HasAllFronts all →
      IsRecordTree now put → IsPermutation (entry ∷ present records) (present put) →
      GrewAlong entry.path f now → HasGathered all rest now put
  gathered-more now put fronts tree moved grew = record {
    tree = tree;
    same = IsPermutation-trans all (entry ∷ rest ++ present records) (rest ++ present put) is.same
        (IsPermutation-trans (entry ∷ rest ++ present records)
        (rest ++ entry ∷ present records) (rest ++ present put)
        (IsPermutation-sym (rest ++ entry ∷ present records) (entry ∷ rest ++ present records)
        (IsPermutation-middle rest entry (present records)))
        (IsPermutation-append_right rest (entry ∷ present records) (present put) moved));
    within = λ x l. elim (grew.fronts x l) [
      | inl old ↦ subst (λ q. (q ≡ []) ⊎ (0 < times same_list q (recorded all)))
          (sym (grew.kept x old).1) (is.within x old)
      | inr r ↦ inr (fronts (path_of now x) r.0
          (subst (λ q. 0 < times same_list q (recorded all)) r.1 there))
    ];
  }
