-- A log has one verdict. A verdict names a path that is wrong, of one kind, with nothing wrong
-- before it. Of two such paths neither comes before the other, so they are one; and no path is
-- wrong in two ways. A log that refutes a loss has no wrong path.
use Rattle.std.proofs.Common.{ℕ, ◌≡◌, Bool, true, false, not, ◌&&◌, ◌||◌, List, [], ◌∷◌, refl, ap}
use Rattle.std.proofs.Common.{subst, arith, inl, inr}
use Rattle.std.specs.List.{list_any, AllByRecursion}
use Rattle.list_laws.specs.Sets.{same_list}
use Rattle.mill_model.specs.Log.{Task, sound, names_settled, Refutes}
use Rattle.mill_model.specs.declared.closing.Entry.{Entry}
use Rattle.list_laws.proofs.Times.{same_list-eq}
use Rattle.list_laws.proofs.Tests.{either, clash}
use Rattle.refute_log.specs.Rising.{comes_before}
use Rattle.refute_log.proofs.Order.{before-total}
use Rattle.log_checker.specs.Verdict.{is_recorded, is_wanted, fails_at, is_missing, is_stray}
use Rattle.log_checker.specs.Verdict.{is_unsound, is_wrong, IsFirst, IsVerdict}
use Rattle.log_checker.specs.declared.verdict.LogVerdict.{LogVerdict}
use Rattle.log_checker.specs.declared.verdict.LogVerdict.TheVariants as verdicts
use Rattle.log_checker.proofs.Counted.{each_holds_up, right-not_wrong}

-- in a log that refutes a loss each record holds up
upheld-where : (task : Task) (bound : ℕ) (log : List Entry) (p : List ℕ) (es : List Entry) →
    AllByRecursion (λ e. sound task bound e.path e.closing ≡ true) es →
    AllByRecursion (λ e. names_settled log e.closing ≡ true) es →
    each_holds_up task bound log p es ≡ true
upheld-where task bound log p [] s n = refl
upheld-where task bound log p (e ∷ es) s n =
    let ih : each_holds_up task bound log p es ≡ true =
    upheld-where task bound log p es s.1 n.1 in
    rw (s.0, n.0, ih) (or-true (not (same_list p e.path)))
  where
    or-true : (b : Bool) → ((b || true) && true) ≡ true
    or-true true = refl
    or-true false = refl

module _ (task : Task) (bound : ℕ) (log : List Entry) where
  abbrev wrong : List ℕ → Bool
  wrong = is_wrong task bound log

  refutes-right : Refutes task bound log → (p : List ℕ) → wrong p ≡ false
  refutes-right r p =
      right-not_wrong task bound log p (record {
        wanted = r.complete p;
        upheld = upheld-where task bound log p log r.each_sound r.each_named;
      })

  missing-wrong : (p : List ℕ) → is_missing task log p ≡ true → wrong p ≡ true
  missing-wrong p h = rw h

  stray-wrong : (p : List ℕ) → is_stray task log p ≡ true → wrong p ≡ true
  stray-wrong p h = go (is_missing task log p) (is_stray task log p) (is_unsound task bound log p) h
    where
      go : (a b c : Bool) → b ≡ true → (a || b || c) ≡ true
      go a b c h = grind arith

  unsound-wrong : (p : List ℕ) → is_unsound task bound log p ≡ true → wrong p ≡ true
  unsound-wrong p h =
      go (is_missing task log p) (is_stray task log p) (is_unsound task bound log p) h
    where
      go : (a b c : Bool) → c ≡ true → (a || b || c) ≡ true
      go a b c h = grind arith

  -- two paths that are first wrong are one
  same-path : (k l : List ℕ → Bool) (p q : List ℕ) → wrong p ≡ true → wrong q ≡ true →
      IsFirst k wrong p → IsFirst l wrong q → p ≡ q
  same-path k l p q a b x y = elim (either (same_list p q)) [
    | inl s ↦ same_list-eq p q s
    | inr s ↦ elim (either (comes_before p q)) [
      | inl c ↦ absurd (clash (wrong p) a (y.before p c))
      | inr c ↦ absurd (clash (wrong q) b (x.before q (before-total p q s c)))
    ]
  ]

  -- a path has one kind of what is wrong
  missing-stray : (w r : Bool) → (w && not r) ≡ true → (r && not w) ≡ true → ⊥
  missing-stray w r a b = grind arith

  missing-unsound : (w r f : Bool) → (w && not r) ≡ true → (w && r && f) ≡ true → ⊥
  missing-unsound w r f a b = grind arith

  stray-unsound : (w r f : Bool) → (r && not w) ≡ true → (w && r && f) ≡ true → ⊥
  stray-unsound w r f a b = grind arith

  pub not-missing-stray : (p q : List ℕ) → IsFirst (is_missing task log) wrong p →
      IsFirst (is_stray task log) wrong q → ⊥
  not-missing-stray p q x y =
      let e : p ≡ q =
      same-path _ _ p q (missing-wrong p x.here) (stray-wrong q y.here) x y in
      missing-stray (is_wanted task log q) (is_recorded log q)
      (subst (λ z. is_missing task log z ≡ true) e x.here) y.here

  pub not-missing-unsound : (p q : List ℕ) → IsFirst (is_missing task log) wrong p →
      IsFirst (is_unsound task bound log) wrong q → ⊥
  not-missing-unsound p q x y =
      let e : p ≡ q =
      same-path _ _ p q (missing-wrong p x.here) (unsound-wrong q y.here) x y in
      missing-unsound (is_wanted task log q) (is_recorded log q)
      (list_any (fails_at task bound log q) log)
      (subst (λ z. is_missing task log z ≡ true) e x.here) y.here

  pub not-stray-unsound : (p q : List ℕ) → IsFirst (is_stray task log) wrong p →
      IsFirst (is_unsound task bound log) wrong q → ⊥
  not-stray-unsound p q x y =
      let e : p ≡ q =
      same-path _ _ p q (stray-wrong p x.here) (unsound-wrong q y.here) x y in
      stray-unsound (is_wanted task log q) (is_recorded log q)
      (list_any (fails_at task bound log q) log)
      (subst (λ z. is_stray task log z ≡ true) e x.here) y.here

  refutes-first : (k : List ℕ → Bool) (p : List ℕ) → wrong p ≡ true → Refutes task bound log → ⊥
  refutes-first k p a r = clash (wrong p) a (refutes-right r p)

  pub verdict-unique : (v w : LogVerdict) → IsVerdict task bound log v →
      IsVerdict task bound log w → v ≡ w
  verdict-unique verdicts.Refutes verdicts.Refutes a b = refl
  verdict-unique verdicts.Refutes (verdicts.Missing q) a b =
      absurd (refutes-first (is_missing task log) q (missing-wrong q b.here) a)
  verdict-unique verdicts.Refutes (verdicts.Stray q) a b =
      absurd (refutes-first (is_stray task log) q (stray-wrong q b.here) a)
  verdict-unique verdicts.Refutes (verdicts.Unsound q) a b =
      absurd (refutes-first (is_unsound task bound log) q (unsound-wrong q b.here) a)
  verdict-unique (verdicts.Missing p) verdicts.Refutes a b =
      absurd (refutes-first (is_missing task log) p (missing-wrong p a.here) b)
  verdict-unique (verdicts.Stray p) verdicts.Refutes a b =
      absurd (refutes-first (is_stray task log) p (stray-wrong p a.here) b)
  verdict-unique (verdicts.Unsound p) verdicts.Refutes a b =
      absurd (refutes-first (is_unsound task bound log) p (unsound-wrong p a.here) b)
  verdict-unique (verdicts.Missing p) (verdicts.Missing q) a b =
      ap (λ x. verdicts.Missing x)
      (same-path _ _ p q (missing-wrong p a.here) (missing-wrong q b.here) a b)
  verdict-unique (verdicts.Stray p) (verdicts.Stray q) a b =
      ap (λ x. verdicts.Stray x)
      (same-path _ _ p q (stray-wrong p a.here) (stray-wrong q b.here) a b)
  verdict-unique (verdicts.Unsound p) (verdicts.Unsound q) a b =
      ap (λ x. verdicts.Unsound x)
      (same-path _ _ p q (unsound-wrong p a.here) (unsound-wrong q b.here) a b)
  verdict-unique (verdicts.Missing p) (verdicts.Stray q) a b = absurd (not-missing-stray p q a b)
  verdict-unique (verdicts.Missing p) (verdicts.Unsound q) a b =
      absurd (not-missing-unsound p q a b)
  verdict-unique (verdicts.Stray p) (verdicts.Missing q) a b = absurd (not-missing-stray q p b a)
  verdict-unique (verdicts.Stray p) (verdicts.Unsound q) a b = absurd (not-stray-unsound p q a b)
  verdict-unique (verdicts.Unsound p) (verdicts.Missing q) a b =
      absurd (not-missing-unsound q p b a)
  verdict-unique (verdicts.Unsound p) (verdicts.Stray q) a b = absurd (not-stray-unsound q p b a)

-- a verdict on what a rules judges by is one on the instance, and the one that holds
module _ (own task : Task) (bound : ℕ) (read log : List Entry) (same : own ≡ task)
    (all : read ≡ log) (v : LogVerdict) (is : IsVerdict own bound read v) where
  verdict-moved : IsVerdict task bound log v
  verdict-moved =
      subst (λ t. IsVerdict t bound log v) same (subst (λ l. IsVerdict own bound l v) all is)

  pub verdict-given : (w : LogVerdict) → v ≡ w → IsVerdict task bound log w
  verdict-given w e = subst (λ u. IsVerdict task bound log u) e verdict-moved

  pub verdict-only : (w : LogVerdict) → IsVerdict task bound log w → v ≡ w
  verdict-only w h = verdict-unique task bound log v w verdict-moved h
