-- One record of a pass. The last waiting path is the first that is still to come. Where the record
-- stands at it and holds up, what it leaves open takes its place, and the verdict from here on
-- stays what it was; else the verdict is known. At the end of the log, what still waits is missing.
use Rattle.std.proofs.Common.{ℕ, zero, suc, ◌+◌, ◌<◌, ◌≤◌, ◌≡◌, Bool, true, false, cond, List, []}
use Rattle.std.proofs.Common.{◌∷◌, ◌++◌, length, drop, get_or, map, refl, sym, ap, ◌∙◌, subst}
use Rattle.std.proofs.Common.{arith, filter, ltb, lt-ltb, ◌-◌}
use Rattle.std.proofs.lemmas.List.{drop_more, reverse-append, append-nil, drop_all}
use Rattle.std.specs.List.{list_all}
use Rattle.std.proofs.lemmas.List.Folds.{list_all-append}
use Rattle.list_laws.specs.Sets.{same_list, below}
use Rattle.mill_model.specs.Tree.{next_new, may_go_on}
use Rattle.mill_model.specs.Log.{Task, recorded, left_open}
use Rattle.mill_model.specs.declared.closing.Entry.{Entry}
use Rattle.list_laws.proofs.Tests.{and-left}
use Rattle.refute_log.specs.Rising.{rises}
use Rattle.log_checker.specs.Verdict.{holds_up, verdict_from, IsVerdict}
use Rattle.log_checker.specs.Agenda.{wanted_path, to_come, is_within, opened, opened_from}
use Rattle.log_checker.proofs.WaitingPaths.{opened-come}
use Rattle.log_checker.proofs.Pass.{pass-verdict}
use Rattle.mill_model.specs.Slab.{Mill}
use Rattle.mill_model.specs.declared.order.Order.{Order}
use Rattle.mill_model.specs.declared.closing.Closing.{Closing}
use Rattle.mill_model.specs.declared.closing.Closing.TheVariants.{Split, Leaf, Priced, Dominated}
use Rattle.log_checker.specs.declared.agenda.Wanted.TheVariants.{Child}
use Rattle.log_checker.specs.declared.agenda.Wanted.{Wanted}
use Rattle.log_checker.specs.declared.verdict.LogVerdict.{LogVerdict}
use Rattle.log_checker.specs.declared.verdict.LogVerdict.TheVariants as verdicts

pub recorded-at : (log : List Entry) (i : ℕ) (e : Entry) → i < length log → e ≡ get_or log i e →
    get_or (recorded log) i [] ≡ e.path
recorded-at log i e h q = at log i e h ∙ ap (λ (x : Entry). x.path) (sym q)
  where
    at : (log : List Entry) (i : ℕ) (d : Entry) → i < length log →
        get_or (recorded log) i [] ≡ (get_or log i d).path
    at [] i d h = absurd (omega arith)
    at (x ∷ log) zero d h = refl
    at (x ∷ log) (suc i) d h = at log i d (omega arith)

pub rest-from : (log : List Entry) (i : ℕ) (e : Entry) → i < length log → e ≡ get_or log i e →
    drop i log ≡ e ∷ drop (i + 1) log
rest-from log i e h q = drop_more log i e h ∙ ap (λ x. x ∷ drop (i + 1) log) (sym q)

-- what is to come, before and after the last waiting one is taken
pub come-push : (log : List Entry) (old new : List Wanted) (w : Wanted) → old ≡ new
    ++ w ∷ [] → to_come log old ≡ wanted_path log w ∷ to_come log new
come-push log old new w e = rw (e, reverse-append) refl

pub within-left : (n : ℕ) (xs ys : List Wanted) → list_all (is_within n) (xs ++ ys) ≡ true →
    list_all (is_within n) xs ≡ true
within-left n xs ys h =
    and-left (list_all (is_within n) xs) (list_all (is_within n) ys)
    (sym (list_all-append (is_within n) xs ys) ∙ h)

pub within-both : (n : ℕ) (xs ys : List Wanted) → list_all (is_within n) xs ≡ true →
    list_all (is_within n) ys ≡ true → list_all (is_within n) (xs ++ ys) ≡ true
within-both n xs ys a b = list_all-append (is_within n) xs ys ∙ rw (a, b) refl

module _ (task : Task) (bound : ℕ) (log : List Entry) (path : List ℕ) (paths : List (List ℕ))
    (e : Entry) (rest : List Entry) where
  pub verdict-unsound : same_list path e.path ≡ true → holds_up task bound log e ≡ false →
      verdict_from task bound log (path ∷ paths) (e ∷ rest) ≡ verdicts.Unsound path
  verdict-unsound s h = rw (s, h) refl

  pub verdict-next : same_list path e.path ≡ true → holds_up task bound log e ≡ true →
      verdict_from task bound log (path ∷ paths) (e ∷ rest) ≡ verdict_from task bound log
      (left_open task e.path e.closing ++ paths) rest
  verdict-next s h = rw (s, h) refl

-- what waits once a record is closed, as paths
pub opened-by-come : (task : Task) (log : List Entry) (waiting : List Wanted) (path : List ℕ)
    (i : ℕ) (c : Closing) → get_or (recorded log) i [] ≡ path →
    to_come log (waiting ++ opened_from task.mill task.ranked path i c) ≡ left_open task path c
    ++ to_come log waiting
opened-by-come task log waiting path i Split e =
    let n : next_new path + 1 ≡ suc (next_new path) = omega arith in
    let a : to_come log (waiting ++ opened (may_go_on task.mill task.ranked path) i
    (next_new path + 1) (next_new path + 1)) ≡ map (λ g. get_or (recorded log) i []
    ++ g ∷ []) (filter (may_go_on task.mill task.ranked path) (below (next_new path + 1)))
    ++ to_come log waiting =
    opened-come log waiting (may_go_on task.mill task.ranked path) i (next_new path + 1) in
    a ∙ ap (λ q. map (λ g. q ++ g ∷ []) (filter (may_go_on task.mill task.ranked path)
    (below (next_new path + 1))) ++ to_come log waiting) e
    ∙ ap (λ m. map (λ g. path ++ g ∷ []) (filter (may_go_on task.mill task.ranked path)
    (below m)) ++ to_come log waiting) n
opened-by-come task log waiting path i Leaf e = ap (to_come log) (append-nil waiting)
opened-by-come task log waiting path i (Priced prices) e = ap (to_come log) (append-nil waiting)
opened-by-come task log waiting path i (Dominated other) e = ap (to_come log) (append-nil waiting)

opened-within : (n : ℕ) (test : ℕ → Bool) (i top j : ℕ) → i < n →
    list_all (is_within n) (opened test i top j) ≡ true
opened-within n test i top zero h = refl
opened-within n test i top (suc j) h =
    within-both n (opened test i top j) (cond (test (top - suc j)) (Child i (top - suc j) ∷ []) [])
    (opened-within n test i top j h) (one (test (top - suc j)))
  where
    one : (b : Bool) → list_all (is_within n) (cond b (Child i (top - suc j) ∷ []) []) ≡ true
    one true = let e : ltb i n ≡ true = lt-ltb i n h in rw e refl
    one false = refl

opened-by-within : (mill : Mill) (ranked : List Order) (path : List ℕ) (n i : ℕ) (c : Closing) →
    i < n → list_all (is_within n) (opened_from mill ranked path i c) ≡ true
opened-by-within mill ranked path n i Split h =
    opened-within n (may_go_on mill ranked path) i (next_new path + 1) (next_new path + 1) h
opened-by-within mill ranked path n i Leaf h = refl
opened-by-within mill ranked path n i (Priced prices) h = refl
opened-by-within mill ranked path n i (Dominated other) h = refl

module _ (task : Task) (bound : ℕ) (log : List Entry) (i : ℕ) (e : Entry) (path : List ℕ)
    (old mid new : List Wanted) (w : Wanted) (here : i < length log) (is : e ≡ get_or log i e)
    (popped : old ≡ mid ++ w ∷ []) (named : path ≡ wanted_path log w) where
  verdict-here : verdict_from task bound log (to_come log old) (drop i log) ≡ verdict_from task
      bound log (path ∷ to_come log mid) (e ∷ drop (i + 1) log)
  verdict-here = rw (come-push log old mid w popped, rest-from log i e here is, named) refl

  pub record-unsound : same_list path e.path ≡ true → holds_up task bound log e ≡ false →
      verdict_from task bound log (to_come log old) (drop i log) ≡ verdicts.Unsound path
  record-unsound s h =
      verdict-here ∙ verdict-unsound task bound log path (to_come log mid) e (drop (i + 1) log) s h

  pub record-goes-on : same_list path e.path ≡ true → holds_up task bound log e ≡ true → new ≡ mid
      ++ opened_from task.mill task.ranked e.path i e.closing →
      verdict_from task bound log (to_come log new) (drop (i + 1) log) ≡ verdict_from task bound log
      (to_come log old) (drop i log)
  record-goes-on s h n =
      sym (verdict-here ∙ verdict-next task bound log path (to_come log mid) e (drop (i + 1) log) s
      h ∙ ap (λ ps. verdict_from task bound log ps (drop (i + 1) log)) (sym (ap (to_come log) n
      ∙ opened-by-come task log mid e.path i e.closing (recorded-at log i e here is))))

  pub record-within : list_all (is_within (length log)) old ≡ true → new ≡ mid
      ++ opened_from task.mill task.ranked e.path i e.closing →
      list_all (is_within (length log)) new ≡ true
  record-within h n =
      rw n (within-both (length log) mid (opened_from task.mill task.ranked e.path i e.closing)
      (within-left (length log) mid (w ∷ []) (rw popped at h))
      (opened-by-within task.mill task.ranked e.path (length log) i e.closing here))

-- the end of a pass
pub end-refutes : (task : Task) (bound : ℕ) (log : List Entry) (i : ℕ) (waiting : List Wanted) →
    rises (recorded log) ≡ true → verdict_from task bound log (to_come log waiting)
    (drop i log) ≡ verdict_from task bound log ([] ∷ []) log → length log ≤ i → waiting ≡ [] →
    IsVerdict task bound log verdicts.Refutes
end-refutes task bound log i waiting up j l e =
    let a : verdict_from task bound log ([] ∷ []) log ≡ verdicts.Refutes =
    sym j ∙ rw (e, drop_all i log l) refl in
    subst (λ v. IsVerdict task bound log v) a (pass-verdict task bound log up)

pub end-missing : (task : Task) (bound : ℕ) (log : List Entry) (i : ℕ) (waiting rest : List Wanted)
    (w : Wanted) → rises (recorded log) ≡ true →
    verdict_from task bound log (to_come log waiting) (drop i log) ≡ verdict_from task bound log
    ([] ∷ []) log → length log ≤ i → waiting ≡ rest ++ w ∷ [] →
    IsVerdict task bound log (verdicts.Missing (wanted_path log w))
end-missing task bound log i waiting rest w up j l e =
    let a : verdict_from task bound log ([] ∷ []) log ≡ verdicts.Missing (wanted_path log w) =
    sym j ∙ rw (come-push log waiting rest w e, drop_all i log l) refl in
    subst (λ v. IsVerdict task bound log v) a (pass-verdict task bound log up)

pub found-verdict : (task : Task) (bound : ℕ) (log : List Entry) (v : LogVerdict) →
    rises (recorded log) ≡ true → v ≡ verdict_from task bound log ([] ∷ []) log →
    IsVerdict task bound log v
found-verdict task bound log v up e =
    subst (λ v. IsVerdict task bound log v) (sym e) (pass-verdict task bound log up)
