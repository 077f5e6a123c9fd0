-- The account of one step.
use Rattle.std.proofs.Common.{◌≡◌, ℕ, ◌+◌, List, [], ◌∷◌, ◌++◌, Some, None, option_to_list, refl}
use Rattle.std.proofs.Common.{ap, ◌∙◌, arith, append-nil}
use Rattle.list_laws.specs.Sets.{times, same_list}
use Rattle.mill_model.specs.Log.{Task, recorded, split_children, left_open}
use Rattle.mill_model.specs.declared.closing.Entry.{Entry}
use Rattle.mill_model.specs.declared.closing.Closing.{Closing}
use Rattle.mill_model.proofs.Records.{recorded-append, split-append}
use Rattle.list_laws.proofs.Times.{times-append}
use Rattle.search_step.specs.Parts.{Parts}
use Rattle.search_step.specs.Accounts.{own_paths}

abbrev count : List ℕ → List (List ℕ) → ℕ
count x l = times same_list x l

pub own-times : (w : Parts) (x : List ℕ) →
    times same_list x (own_paths w) ≡ times same_list x (recorded w.piece) + times same_list x
    (option_to_list w.held) + times same_list x w.waiting
own-times w x =
    let a : count x (own_paths w) ≡ count x (recorded w.piece) + count x
    (option_to_list w.held ++ w.waiting) =
    times-append same_list x (recorded w.piece) (option_to_list w.held ++ w.waiting) in
    let b : count x (option_to_list w.held ++ w.waiting)
    ≡ count x (option_to_list w.held) + count x w.waiting =
    times-append same_list x (option_to_list w.held) w.waiting in
    omega arith

module _ (task : Task) (w w' : Parts) (x : List ℕ) where
  pub same-account : w'.piece ≡ w.piece → w'.held ≡ w.held → w'.waiting ≡ w.waiting →
      count x (own_paths w') + count x (split_children task w.piece) + count x []
      ≡ count x (own_paths w) + count x (split_children task w'.piece) + count x []
  same-account ep eh ew =
      let a = own-times w x in
      let b = own-times w' x in
      let p : count x (recorded w'.piece) ≡ count x (recorded w.piece) =
      ap (λ l. count x (recorded l)) ep in
      let s : count x (split_children task w'.piece) ≡ count x (split_children task w.piece) =
      ap (λ l. count x (split_children task l)) ep in
      let h : count x (option_to_list w'.held) ≡ count x (option_to_list w.held) =
      ap (λ o. count x (option_to_list o)) eh in
      let v : count x w'.waiting ≡ count x w.waiting = ap (count x) ew in
      omega arith

  pub held-account : (path : List ℕ) → w'.piece ≡ w.piece → w.held ≡ None → w'.held ≡ Some path →
      w'.waiting ≡ w.waiting → count x (own_paths w') + count x
      (split_children task w.piece) + count x []
      ≡ count x (own_paths w) + count x (split_children task w'.piece) + count x (path ∷ [])
  held-account path ep en eh ew =
      let a = own-times w x in
      let b = own-times w' x in
      let p : count x (recorded w'.piece) ≡ count x (recorded w.piece) =
      ap (λ l. count x (recorded l)) ep in
      let s : count x (split_children task w'.piece) ≡ count x (split_children task w.piece) =
      ap (λ l. count x (split_children task l)) ep in
      let h : count x (option_to_list w'.held) ≡ count x (path ∷ []) =
      ap (λ o. count x (option_to_list o)) eh in
      let n : count x (option_to_list w.held) ≡ 0 = ap (λ o. count x (option_to_list o)) en in
      let v : count x w'.waiting ≡ count x w.waiting = ap (count x) ew in
      let z : count x [] ≡ 0 = refl in
      omega arith

  pub pushed-account : (path : List ℕ) → w'.piece ≡ w.piece → w'.held ≡ w.held →
      w.waiting ≡ w'.waiting ++ path ∷ [] →
      count x (own_paths w') + count x (split_children task w.piece) + count x (path ∷ [])
      ≡ count x (own_paths w) + count x (split_children task w'.piece) + count x []
  pushed-account path ep eh ew =
      let a = own-times w x in
      let b = own-times w' x in
      let p : count x (recorded w'.piece) ≡ count x (recorded w.piece) =
      ap (λ l. count x (recorded l)) ep in
      let s : count x (split_children task w'.piece) ≡ count x (split_children task w.piece) =
      ap (λ l. count x (split_children task l)) ep in
      let h : count x (option_to_list w'.held) ≡ count x (option_to_list w.held) =
      ap (λ o. count x (option_to_list o)) eh in
      let v : count x w.waiting ≡ count x w'.waiting + count x (path ∷ []) = ap (count x) ew
      ∙ times-append same_list x w'.waiting (path ∷ []) in
      let z : count x [] ≡ 0 = refl in
      omega arith

  pub record-account : (path : List ℕ) (closing : Closing) →
      w'.piece ≡ w.piece ++ record { path = path; closing = closing } ∷ [] → w.held ≡ Some path →
      w.waiting ≡ [] → w'.held ≡ None → w'.waiting ≡ left_open task path closing →
      count x (own_paths w') + count x (split_children task w.piece) + count x []
      ≡ count x (own_paths w) + count x (split_children task w'.piece) + count x []
  record-account path closing ep eh ew eh' ew' =
      let entry : Entry = record { path = path; closing = closing } in
      let a = own-times w x in
      let b = own-times w' x in
      let p : count x (recorded w'.piece) ≡ count x (recorded w.piece) + count x (path ∷ []) =
      ap (λ l. count x (recorded l)) ep ∙ ap (count x) (recorded-append w.piece (entry ∷ []))
      ∙ times-append same_list x (recorded w.piece) (path ∷ []) in
      let s : count x (split_children task w'.piece)
      ≡ count x (split_children task w.piece) + count x (left_open task path closing) =
      ap (λ l. count x (split_children task l)) ep
      ∙ ap (count x) (split-append task w.piece (entry ∷ []))
      ∙ times-append same_list x (split_children task w.piece)
      (left_open task path closing ++ [])
      ∙ ap (λ l. count x (split_children task w.piece) + count x l)
      (append-nil (left_open task path closing)) in
      let h : count x (option_to_list w.held) ≡ count x (path ∷ []) =
      ap (λ o. count x (option_to_list o)) eh in
      let n : count x (option_to_list w'.held) ≡ 0 = ap (λ o. count x (option_to_list o)) eh' in
      let v : count x w.waiting ≡ 0 = ap (count x) ew in
      let v' : count x w'.waiting ≡ count x (left_open task path closing) = ap (count x) ew' in
      omega arith
