-- What reordered records keep: how often a path is recorded, what they leave open, and which paths
-- are settled.
use Rattle.std.proofs.Common.{ℕ, ◌+◌, ◌≡◌, Bool, true, false, not, ◌&&◌, ◌||◌, cond, ltb}
use Rattle.std.proofs.Common.{List, [], ◌∷◌, refl, sym, ap, ◌∙◌, arith}
use Rattle.std.specs.List.{sum_by}
use Rattle.std.specs.List.Sorted.{IsPermutation}
use Rattle.std.proofs.lemmas.Bool.Decides.{nat_tests}
use Rattle.std.proofs.lemmas.List.Elements.{All-from_recursion, recursion_from_All}
use Rattle.std.proofs.lemmas.List.Sorted.{sum_by-IsPermutation, All-permutation}
use Rattle.std.proofs.lemmas.List.Sums.{sum_by-cons}
use Rattle.list_laws.specs.Sets.{same_list, times}
use Rattle.list_laws.proofs.Times.{times-append}
use Rattle.list_laws.proofs.Among.{each-weaker}
use Rattle.mill_model.specs.Log.{Task, recorded, left_open, split_children, is_dominated}
use Rattle.mill_model.specs.Log.{is_settled, names_settled, IsComplete}
use Rattle.mill_model.specs.declared.closing.Entry.{Entry}
use Rattle.mill_model.specs.declared.closing.Closing.{Closing}
use Rattle.mill_model.specs.declared.closing.Closing.TheVariants.{Split, Leaf, Priced, Dominated}
use Rattle.piece_merge.specs.Merging.{IsRecordedOnce, NamesSettledPaths}

-- Each is a sum over the records.

recorded-sum : (p : List ℕ) (log : List Entry) →
    times same_list p (recorded log) ≡ sum_by (λ e. cond (same_list p e.path) 1 0) log
recorded-sum p [] = refl
recorded-sum p (e ∷ log) =
    rw sum_by-cons (ap (λ n. cond (same_list p e.path) 1 0 + n) (recorded-sum p log))

children-sum : (task : Task) (p : List ℕ) (log : List Entry) →
    times same_list p (split_children task log)
    ≡ sum_by (λ e. times same_list p (left_open task e.path e.closing)) log
children-sum task p [] = refl
children-sum task p (e ∷ log) =
    rw sum_by-cons
    (times-append same_list p (left_open task e.path e.closing) (split_children task log)
    ∙ ap (λ n. times same_list p (left_open task e.path e.closing) + n) (children-sum task p log))

abbrev settles : List ℕ → Entry → Bool
settles p e = same_list p e.path && not (is_dominated e.closing)

settled-sum : (p : List ℕ) (log : List Entry) →
    is_settled log p ≡ ltb 0 (sum_by (λ e. cond (settles p e) 1 0) log)
settled-sum p [] = refl
settled-sum p (e ∷ log) = rw sum_by-cons (more (settles p e) _ _ (settled-sum p log))
  where
    more : (b rest : Bool) (n : ℕ) → rest ≡ ltb 0 n → (b || rest) ≡ ltb 0 (cond b 1 0 + n)
    more true rest n e = grind (arith, nat_tests)
    more false rest n e = grind (arith, nat_tests, e)

module _ (log moved : List Entry) (same : IsPermutation log moved) where
  pub recorded-moved : (p : List ℕ) →
      times same_list p (recorded moved) ≡ times same_list p (recorded log)
  recorded-moved p =
      let each : Entry → ℕ = λ e. cond (same_list p e.path) 1 0 in
      recorded-sum p moved ∙ sum_by-IsPermutation each log moved same ∙ sym (recorded-sum p log)

  pub once-moved : IsRecordedOnce log → IsRecordedOnce moved
  once-moved once p = omega (arith, recorded-moved p, once p)

  children-moved : (task : Task) (p : List ℕ) →
      times same_list p (split_children task moved) ≡ times same_list p (split_children task log)
  children-moved task p =
      let each : Entry → ℕ = λ e. times same_list p (left_open task e.path e.closing) in
      children-sum task p moved ∙ sum_by-IsPermutation each log moved same
      ∙ sym (children-sum task p log)

  pub complete-moved : (task : Task) → IsComplete task log → IsComplete task moved
  complete-moved task complete p =
      recorded-moved p ∙ complete p
      ∙ ap (λ n. cond (same_list p []) 1 0 + n) (sym (children-moved task p))

  settled-moved : (p : List ℕ) → is_settled moved p ≡ is_settled log p
  settled-moved p =
      settled-sum p moved
      ∙ ap (λ n. ltb 0 n) (sum_by-IsPermutation (λ e. cond (settles p e) 1 0) log moved same)
      ∙ sym (settled-sum p log)

  names-moved : (c : Closing) → names_settled log c ≡ true → names_settled moved c ≡ true
  names-moved Split h = refl
  names-moved Leaf h = refl
  names-moved (Priced prices) h = refl
  names-moved (Dominated other) h = settled-moved other ∙ h

  pub named-moved : NamesSettledPaths log → NamesSettledPaths moved
  named-moved named =
      let in-moved : Entry → Type 0 = λ e. names_settled moved e.closing ≡ true in
      recursion_from_All in-moved moved
      (All-permutation in-moved log moved same
      (All-from_recursion in-moved log
      (each-weaker (λ e. names_settled log e.closing ≡ true) in-moved log
      (λ e h. names-moved e.closing h) named)))
