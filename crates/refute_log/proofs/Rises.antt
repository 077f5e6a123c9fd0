-- Paths that rise, with one more path behind them.
use Rattle.std.proofs.Common.{ℕ, suc, ◌-◌, ◌<◌, ◌≡◌, Bool, true, false, ◌&&◌, List, [], ◌∷◌, ◌++◌}
use Rattle.std.proofs.Common.{length, get_or}
use Rattle.std.proofs.Common.{refl, sym, ap, ◌∙◌, inl, inr, arith}
use Rattle.std.proofs.lemmas.Bool.{cases_Bool, and_parts, and_from}
use Rattle.std.proofs.lemmas.List.Folds.{list_all-append}
use Rattle.std.specs.List.{list_all}
use Rattle.mill_model.specs.Log.{recorded}
use Rattle.mill_model.specs.declared.closing.Entry.{Entry}
use Rattle.refute_log.specs.Rising.{comes_before, rises}
use Rattle.refute_log.proofs.Order.{before-trans}

-- what a list begins with passes where all of it does
list_all-front : (test : List ℕ → Bool) (ps qs : List (List ℕ))
    → list_all test (ps ++ qs) ≡ true → list_all test ps ≡ true
list_all-front test ps qs h =
    (and_parts (list_all test ps) (list_all test qs) (sym (list_all-append test ps qs) ∙ h)).0

pub rises-front : (ps qs : List (List ℕ)) → rises (ps ++ qs) ≡ true → rises ps ≡ true
rises-front [] qs h = refl
rises-front (p ∷ ps) qs h =
    let k = and_parts (list_all (comes_before p) (ps ++ qs)) (rises (ps ++ qs)) h in
    and_from (list_all (comes_before p) ps) (rises ps)
    (list_all-front (comes_before p) ps qs k.0) (rises-front ps qs k.1)

-- paths that rise up to the last rise with one more where it comes after that
pub rises-more : (ps : List (List ℕ)) (last new : List ℕ) → rises (ps ++ last ∷ []) ≡ true
    → rises ((ps ++ last ∷ []) ++ new ∷ []) ≡ comes_before last new
rises-more [] last new h = alone (comes_before last new)
  where
    alone : (b : Bool) → ((b && true) && (true && true)) ≡ b
    alone true = refl
    alone false = refl
rises-more (p ∷ ps) last new h = elim (cases_Bool (comes_before last new)) [
  | inl k ↦ (
      let q : comes_before p new ≡ true = before-trans p last new last_before k in
      let t : list_all (comes_before p) ((ps ++ last ∷ []) ++ new ∷ []) ≡ true =
      list_all-append (comes_before p) (ps ++ last ∷ []) (new ∷ [])
      ∙ and_from (list_all (comes_before p) (ps ++ last ∷ [])) (comes_before p new && true) parts.0
      (and_from (comes_before p new) true q refl) in
      rw (t, k) (rises-more ps last new parts.1 ∙ k)
      )
  | inr k ↦ rw k (none (list_all (comes_before p) ((ps ++ last ∷ []) ++ new ∷ []))
      (rises ((ps ++ last ∷ []) ++ new ∷ [])) (rises-more ps last new parts.1 ∙ k))
]
  where
    parts : (list_all (comes_before p) (ps ++ last ∷ []) ≡ true) × (rises (ps ++ last ∷ []) ≡ true)
    parts = and_parts (list_all (comes_before p) (ps ++ last ∷ [])) (rises (ps ++ last ∷ [])) h

    last_before : comes_before p last ≡ true
    last_before =
        let k = and_parts (list_all (comes_before p) ps) (comes_before p last && true)
        (sym (list_all-append (comes_before p) ps (last ∷ [])) ∙ parts.0) in
        (and_parts (comes_before p last) true k.1).0

    none : (a b : Bool) → b ≡ false → (a && b) ≡ false
    none true b e = e
    none false b e = refl

-- the paths up to the last record's
pub last-parts : (es : List Entry) (e : Entry) → 0 < length es → e ≡ get_or es (length es - 1) e
    → (ps : List (List ℕ)) × (recorded es ≡ ps ++ e.path ∷ [])
last-parts [] e some is = absurd (omega arith)
last-parts (d ∷ []) e some is = ([], ap (λ (x : Entry). x.path ∷ []) (sym is))
last-parts (d ∷ f ∷ es) e some is =
    let a : length (d ∷ f ∷ es) - 1 ≡ suc (length (f ∷ es) - 1) = omega arith in
    longer (last-parts (f ∷ es) e (omega arith) (rw a at is))
  where
    longer : (ps : List (List ℕ)) × (recorded (f ∷ es) ≡ ps ++ e.path ∷ [])
        → (ps : List (List ℕ)) × (recorded (d ∷ f ∷ es) ≡ ps ++ e.path ∷ [])
    longer (ps, h) = (d.path ∷ ps, ap (λ qs. d.path ∷ qs) h)

-- records whose paths rise, with one more path
pub rises-behind : (es : List Entry) (e : Entry) (new : List ℕ) → 0 < length es
    → e ≡ get_or es (length es - 1) e → rises (recorded es) ≡ true
    → rises (recorded es ++ new ∷ []) ≡ comes_before e.path new
rises-behind es e new some is h =
    let r = last-parts es e some is in
    let k : rises (r.0 ++ e.path ∷ []) ≡ true = rw r.1 at h in
    ap (λ ps. rises (ps ++ new ∷ [])) r.1 ∙ rises-more r.0 e.path new k
