-- Children that are opened from the last to the first, so that the first waits last and comes next.
-- As paths that are to come they are those of the definition, in rising order.
use Rattle.std.proofs.Common.{ℕ, zero, suc, ◌+◌, ◌-◌, ◌≤◌, ◌≡◌, Bool, true, false, cond, List, []}
use Rattle.std.proofs.Common.{◌∷◌, ◌++◌, map, filter, get_or, reverse, refl, ap, ◌∙◌, arith}
use Rattle.std.proofs.Common.{append_assoc}
use Rattle.std.proofs.lemmas.List.{reverse-append, map-append}
use Rattle.list_laws.specs.Sets.{below}
use Rattle.mill_model.specs.Log.{recorded}
use Rattle.mill_model.specs.declared.closing.Entry.{Entry}
use Rattle.log_checker.specs.Agenda.{wanted_path, to_come, opened}
use Rattle.log_checker.specs.declared.agenda.Wanted.{Wanted}
use Rattle.log_checker.specs.declared.agenda.Wanted.TheVariants.{Child}

-- the numbers from a up to below a + n
abbrev pub span : ℕ → ℕ → List ℕ
span a zero = []
span a (suc n) = a ∷ span (suc a) n

span-last : (a n : ℕ) → span a (suc n) ≡ span a n ++ (a + n) ∷ []
span-last a zero = let e : a + 0 ≡ a = omega arith in rw e refl
span-last a (suc n) =
    let e : suc a + n ≡ a + suc n = omega arith in rw (← e) (ap (λ l. a ∷ l) (span-last (suc a) n))

span-below : (n : ℕ) → span 0 n ≡ below n
span-below zero = refl
span-below (suc n) = span-last 0 n ∙ (let e : 0 + n ≡ n = omega arith in rw (e, span-below n) refl)

pub opened-is : (test : ℕ → Bool) (parent top j : ℕ) → j ≤ top →
    reverse (opened test parent top j) ≡ map (λ g. Child parent g) (filter test (span (top - j) j))
opened-is test parent top zero h = refl
opened-is test parent top (suc j) h =
    let ih : reverse (opened test parent top j) ≡ map (λ g.
    Child parent g) (filter test (span (top - j) j)) =
    opened-is test parent top j (omega arith) in
    let e : suc (top - suc j) ≡ top - j = omega arith in
    rw (reverse-append, ih, e) (one-or-none (test (top - suc j)) (filter test (span (top - j) j)))
  where
    one-or-none : (b : Bool) (xs : List ℕ) → reverse (cond b (Child parent (top - suc j) ∷ []) [])
        ++ map (λ g. Child parent g) xs ≡ map (λ g. Child parent g) (cond b ((top - suc j) ∷ xs) xs)
    one-or-none true xs = refl
    one-or-none false xs = refl

children-of : (log : List Entry) (parent : ℕ) (xs : List ℕ) →
    map (wanted_path log) (map (λ g. Child parent g) xs) ≡ map (λ g. get_or (recorded log) parent []
    ++ g ∷ []) xs
children-of log parent [] = refl
children-of log parent (x ∷ xs) =
    ap (λ l. (get_or (recorded log) parent [] ++ x ∷ []) ∷ l) (children-of log parent xs)

-- what is to come once all children are opened
pub opened-come : (log : List Entry) (waiting : List Wanted) (test : ℕ → Bool) (parent top : ℕ) →
    to_come log (waiting ++ opened test parent top top) ≡ map (λ g. get_or (recorded log) parent []
    ++ g ∷ []) (filter test (below top)) ++ to_come log waiting
opened-come log waiting test parent top =
    let z : top - top ≡ 0 = omega arith in
    let a : reverse (opened test parent top top) ≡ map (λ g.
    Child parent g) (filter test (below top)) = opened-is test parent top top (omega arith)
    ∙ rw (z, span-below top) refl in
    rw (reverse-append, map-append, a, children-of log parent (filter test (below top))) refl

-- one child more
pub opened-more : (test : ℕ → Bool) (parent top size j : ℕ) (first old new : List Wanted) →
    size + 1 ≡ top → old ≡ first ++ opened test parent top j → new ≡ old
    ++ cond (test (size + 1 - (j + 1))) (Child parent (size + 1 - (j + 1)) ∷ []) [] → new ≡ first
    ++ opened test parent top (j + 1)
opened-more test parent top size j first old new e a b =
    let s : j + 1 ≡ suc j = omega arith in
    let c : new ≡ old ++ cond (test (top - suc j)) (Child parent (top - suc j) ∷ []) [] =
    rw (e, s) at b in
    let d : (first ++ opened test parent top j) ++ cond (test (top - suc j))
    (Child parent (top - suc j) ∷ []) [] ≡ first
    ++ (opened test parent top j ++ cond (test (top - suc j)) (Child parent (top - suc j) ∷ [])
    []) = append_assoc first (opened test parent top j)
    (cond (test (top - suc j)) (Child parent (top - suc j) ∷ []) []) in
    rw s (c ∙ ap (λ l. l ++ cond (test (top - suc j)) (Child parent (top - suc j) ∷ []) []) a ∙ d)
