-- What is wrong with a log, by how often a path is recorded and how often it is to be. A pass keeps
-- such counts, since a complete log is an equation of them at each path; here they become the tests
-- of a verdict, which ask only whether a path is there.
use Rattle.std.proofs.Common.{ℕ, zero, suc, ◌+◌, ◌<◌, ◌≡◌, Bool, true, false, not, ◌&&◌, ◌||◌, List}
use Rattle.std.proofs.Common.{[], ◌∷◌, refl, arith, inl, inr}
use Rattle.std.specs.List.{list_any}
use Rattle.list_laws.specs.Sets.{same_list, times}
use Rattle.mill_model.specs.Log.{Task, recorded, split_children, Refutes}
use Rattle.mill_model.specs.declared.closing.Entry.{Entry}
use Rattle.list_laws.proofs.Tests.{either}
use Rattle.refute_log.specs.Rising.{comes_before}
use Rattle.log_checker.specs.Verdict.{is_recorded, is_wanted, holds_up, fails_at, is_wrong}
use Rattle.log_checker.specs.Verdict.{IsVerdict}
use Rattle.log_checker.specs.declared.verdict.LogVerdict.{LogVerdict}
use Rattle.log_checker.specs.declared.verdict.LogVerdict.TheVariants as verdicts

-- how often a path has a record
abbrev pub records_at : List Entry → List ℕ → ℕ
records_at log path = times same_list path (recorded log)

-- how often it is to have one
abbrev pub wants_of : Task → List Entry → List ℕ → ℕ
wants_of task log path = times same_list path ([] ∷ split_children task log)

-- whether each of some records that stands at a path holds up
abbrev pub each_holds_up : Task → ℕ → List Entry → List ℕ → List Entry → Bool
each_holds_up task bound log path [] = true
each_holds_up task bound log path (entry ∷ rest) =
    (not (same_list path entry.path) || holds_up task bound log entry)
    && each_holds_up task bound log path rest

-- a path is recorded as often as it is wanted, and its records hold up
pub record IsRight (task : Task) (bound : ℕ) (log : List Entry) (path : List ℕ) : Type 0 where
  pub wanted : records_at log path ≡ wants_of task log path
  pub upheld : each_holds_up task bound log path log ≡ true

-- all is right at the paths that come before one
abbrev pub RightBefore : Task → ℕ → List Entry → List ℕ → Type 0
RightBefore task bound log path =
    (other : List ℕ) → comes_before other path ≡ true → IsRight task bound log other

pub record IsMissing (task : Task) (log : List Entry) (path : List ℕ) : Type 0 where
  pub wanted : 0 < wants_of task log path
  pub absent : records_at log path ≡ 0

pub record IsStray (task : Task) (log : List Entry) (path : List ℕ) : Type 0 where
  pub present : 0 < records_at log path
  pub unwanted : wants_of task log path ≡ 0

pub record IsUnsound (task : Task) (bound : ℕ) (log : List Entry) (path : List ℕ) : Type 0 where
  pub wanted : 0 < wants_of task log path
  pub present : 0 < records_at log path
  pub refused : each_holds_up task bound log path log ≡ false

-- what is first wrong with a log, if anything
abbrev pub IsFound : Task → ℕ → List Entry → LogVerdict → Type 0
IsFound task bound log verdicts.Refutes = Refutes task bound log
IsFound task bound log (verdicts.Missing path) =
    IsMissing task log path × RightBefore task bound log path
IsFound task bound log (verdicts.Stray path) =
    IsStray task log path × RightBefore task bound log path
IsFound task bound log (verdicts.Unsound path) =
    IsUnsound task bound log path × RightBefore task bound log path

-- what stands in a list stands there at least once
any-times : (p : List ℕ) (qs : List (List ℕ)) → 0 < times same_list p qs →
    list_any (same_list p) qs ≡ true
any-times p [] h = absurd (omega arith)
any-times p (q ∷ qs) h = elim (either (same_list p q)) [
  | inl s ↦ rw s
  | inr s ↦ (let k : 0 < 0 + times same_list p qs = rw s at h in
      rw (s, any-times p qs (omega arith)))
]

none-times : (p : List ℕ) (qs : List (List ℕ)) → times same_list p qs ≡ 0 →
    list_any (same_list p) qs ≡ false
none-times p [] h = refl
none-times p (q ∷ qs) h = elim (either (same_list p q)) [
  | inl s ↦ absurd (some (rw s at h))
  | inr s ↦ (let k : 0 + times same_list p qs ≡ 0 = rw s at h in
      rw (s, none-times p qs (omega arith)))
]
  where
    some : 1 + times same_list p qs ≡ 0 → ⊥
    some e = omega arith

both-times : (p : List ℕ) (ps qs : List (List ℕ)) → times same_list p ps ≡ times same_list p qs →
    list_any (same_list p) ps ≡ list_any (same_list p) qs
both-times p ps qs e = go (times same_list p ps) refl
  where
    go : (n : ℕ) → times same_list p ps ≡ n →
        list_any (same_list p) ps ≡ list_any (same_list p) qs
    go zero z =
        let y : times same_list p qs ≡ 0 = omega arith in
        rw (none-times p ps z, none-times p qs y)
    go (suc n) z =
        let x : 0 < times same_list p ps = omega arith in
        let y : 0 < times same_list p qs = omega arith in
        rw (any-times p ps x, any-times p qs y)

module _ (task : Task) (bound : ℕ) (log : List Entry) where
  none-fails : (p : List ℕ) (es : List Entry) → each_holds_up task bound log p es ≡ true →
      list_any (fails_at task bound log p) es ≡ false
  none-fails p [] h = refl
  none-fails p (e ∷ es) h =
      go (same_list p e.path) (holds_up task bound log e) (each_holds_up task bound log p es)
      (list_any (fails_at task bound log p) es) (none-fails p es) h
    where
      go : (s u r a : Bool) → (r ≡ true → a ≡ false) → ((not s || u) && r) ≡ true →
          ((s && not u) || a) ≡ false
      go s u r a f k = grind arith

  one-fails : (p : List ℕ) (es : List Entry) → each_holds_up task bound log p es ≡ false →
      list_any (fails_at task bound log p) es ≡ true
  one-fails p [] h = absurd (grind arith)
  one-fails p (e ∷ es) h =
      go (same_list p e.path) (holds_up task bound log e) (each_holds_up task bound log p es)
      (list_any (fails_at task bound log p) es) (one-fails p es) h
    where
      go : (s u r a : Bool) → (r ≡ false → a ≡ true) → ((not s || u) && r) ≡ false →
          ((s && not u) || a) ≡ true
      go s u r a f k = grind arith

  pub right-not_wrong : (p : List ℕ) → IsRight task bound log p → is_wrong task bound log p ≡ false
  right-not_wrong p it =
      go (is_wanted task log p) (is_recorded log p) (list_any (fails_at task bound log p) log)
      (both-times p (recorded log) ([] ∷ split_children task log) it.wanted)
      (none-fails p log it.upheld)
    where
      go : (w r f : Bool) → r ≡ w → f ≡ false →
          (w && not r || r && not w || w && r && f) ≡ false
      go w r f e n = grind arith

  -- what is found is the verdict
  pub found-is : (v : LogVerdict) → IsFound task bound log v → IsVerdict task bound log v
  found-is verdicts.Refutes h = h
  found-is (verdicts.Missing p) h =
      record {
        here =
            let w : is_wanted task log p ≡ true =
            any-times p ([] ∷ split_children task log) h.0.wanted in
            let r : is_recorded log p ≡ false = none-times p (recorded log) h.0.absent in
            rw (w, r);
        before = λ q b. right-not_wrong q (h.1 q b);
      }
  found-is (verdicts.Stray p) h =
      record {
        here =
            let r : is_recorded log p ≡ true = any-times p (recorded log) h.0.present in
            let w : is_wanted task log p ≡ false =
            none-times p ([] ∷ split_children task log) h.0.unwanted in
            rw (r, w);
        before = λ q b. right-not_wrong q (h.1 q b);
      }
  found-is (verdicts.Unsound p) h =
      record {
        here =
            let w : is_wanted task log p ≡ true =
            any-times p ([] ∷ split_children task log) h.0.wanted in
            let r : is_recorded log p ≡ true = any-times p (recorded log) h.0.present in
            rw (w, r, one-fails p log h.0.refused);
        before = λ q b. right-not_wrong q (h.1 q b);
      }
