-- Lists that go on by one thing, prefixes, and sets of marks.
use Rattle.std.proofs.Common.{ℕ, zero, suc, ◌≡◌, eqb, Bool, true, false, ◌&&◌, List, [], ◌∷◌}
use Rattle.std.proofs.Common.{◌++◌, map, length, drop, replicate, refl, sym, ap, ap₂, ◌∙◌, arith}
use Rattle.std.proofs.Common.{eqb-true, eq-eqb, length-append}
use Rattle.list_laws.specs.Sets.{holds, below, chosen}
use Rattle.list_laws.proofs.Tests.{or-left, or-right, and-left, and-right}

pub length-push : (path : List ℕ) (g : ℕ) → length (path ++ g ∷ []) ≡ suc (length path)
length-push [] g = refl
length-push (x ∷ path) g = ap suc (length-push path g)

pub drop-step : {X : Type 0} (k : ℕ) (xs : List X) (o : X) (rest : List X) →
    drop k xs ≡ o ∷ rest → drop (suc k) xs ≡ rest
drop-step zero [] o rest e = absurd (cc)
drop-step zero (x ∷ xs) o rest e = cc
drop-step (suc k) [] o rest e = absurd (cc)
drop-step (suc k) (x ∷ xs) o rest e = drop-step k xs o rest e

pub map-same : (f : ℕ → ℕ) (xs : List ℕ) → ((x : ℕ) → holds x xs ≡ true → f x ≡ x) → map f xs ≡ xs
map-same f [] h = refl
map-same f (x ∷ xs) h =
    ap₂ (λ a b. a ∷ b) (h x (or-left (eqb x x) _ (eq-eqb x x refl)))
    (map-same f xs (λ y i. h y (or-right (eqb y x) _ i)))

pub length-below : (n : ℕ) → length (below n) ≡ n
length-below zero = refl
length-below (suc n) =
    let ih : length (below n) ≡ n =
    length-below n in length-append (below n) (n ∷ []) ∙ (omega arith)

-- Prefixes.

abbrev pub is_prefix : List ℕ → List ℕ → Bool
is_prefix [] ys = true
is_prefix (x ∷ xs) [] = false
is_prefix (x ∷ xs) (y ∷ ys) = eqb x y && is_prefix xs ys

pub prefix-append : (xs ys : List ℕ) → is_prefix xs (xs ++ ys) ≡ true
prefix-append [] ys = refl
prefix-append (x ∷ xs) ys = rw (eq-eqb x x refl) (prefix-append xs ys)

pub prefix-rest : (xs ys : List ℕ) → is_prefix xs ys ≡ true → (more : List ℕ) × (ys ≡ xs ++ more)
prefix-rest [] ys h = (ys, refl)
prefix-rest (x ∷ xs) [] h = absurd (cc)
prefix-rest (x ∷ xs) (y ∷ ys) h =
    let r = prefix-rest xs ys (and-right (eqb x y) (is_prefix xs ys) h) in
    (r.0, ap₂ (λ a b. a ∷ b) (sym (eqb-true x y (and-left (eqb x y) (is_prefix xs ys) h))) r.1)

-- Marks.

pub chosen-append : {X : Type 0} (ms ns : List Bool) (xs : List X) →
    chosen (ms ++ ns) xs ≡ chosen ms xs ++ chosen ns (drop (length ms) xs)
chosen-append [] ns xs = refl
chosen-append (m ∷ ms) [] [] = refl
chosen-append (m ∷ ms) (n ∷ ns) [] = refl
chosen-append (true ∷ ms) ns (x ∷ xs) = ap (λ l. x ∷ l) (chosen-append ms ns xs)
chosen-append (false ∷ ms) ns (x ∷ xs) = chosen-append ms ns xs

unfoldable pub nothing : ℕ → List Bool
nothing n = replicate n false

pub nothing-chosen : {X : Type 0} (n : ℕ) (xs : List X) → chosen (nothing n) xs ≡ []
unfolding nothing
nothing-chosen zero xs = refl
nothing-chosen (suc n) [] = refl
nothing-chosen (suc n) (x ∷ xs) = nothing-chosen n xs

pub nothing-length : (n : ℕ) → length (nothing n) ≡ n
unfolding nothing
nothing-length zero = refl
nothing-length (suc n) = ap suc (nothing-length n)
