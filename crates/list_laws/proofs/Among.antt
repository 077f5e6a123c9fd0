-- What stands among the things of a list.
use Rattle.std.proofs.Common.{ℕ, zero, suc, ◌<◌, ◌≡◌, ◌⊎◌, Bool, true, false, cond, ◌||◌, List}
use Rattle.std.proofs.Common.{[], ◌∷◌, ◌++◌, map, filter, length, set, refl, sym, ap, arith, inl}
use Rattle.std.proofs.Common.{inr, subst, flat_map}
use Rattle.std.specs.List.{list_all, list_any, AllByRecursion}
use Rattle.list_laws.specs.Sets.{below, chosen, sets}
use Rattle.list_laws.proofs.Tests.{and-left, and-right, last-or-below}
use Rattle.std.proofs.Common.{◌∙◌}

abbrev pub Among : {X : Type 0} → X → List X → Type 0
Among x [] = ⊥
Among x (y ∷ ys) = (x ≡ y) ⊎ Among x ys

pub Among-append_left : {X : Type 0} (x : X) (xs ys : List X) → Among x xs → Among x (xs ++ ys)
Among-append_left x [] ys h = absurd h
Among-append_left x (z ∷ xs) ys (inl e) = inl e
Among-append_left x (z ∷ xs) ys (inr h) = inr (Among-append_left x xs ys h)

pub Among-append_right : {X : Type 0} (x : X) (xs ys : List X) → Among x ys → Among x (xs ++ ys)
Among-append_right x [] ys h = h
Among-append_right x (z ∷ xs) ys h = inr (Among-append_right x xs ys h)

pub Among-unappend : {X : Type 0} (x : X) (xs ys : List X) → Among x (xs ++ ys) →
    Among x xs ⊎ Among x ys
Among-unappend x [] ys h = inr h
Among-unappend x (y ∷ xs) ys (inl e) = inl (inl e)
Among-unappend x (y ∷ xs) ys (inr h) =
    elim (Among-unappend x xs ys h) [ inl a ↦ inl (inr a) | inr b ↦ inr b ]

pub Among-map : {X Y : Type 0} (f : X → Y) (x : X) (xs : List X) → Among x xs →
    Among (f x) (map f xs)
Among-map f x [] h = absurd h
Among-map f x (z ∷ xs) (inl e) = inl (ap f e)
Among-map f x (z ∷ xs) (inr h) = inr (Among-map f x xs h)

pub Among-unmap : {X Y : Type 0} (f : X → Y) (y : Y) (xs : List X) → Among y (map f xs) →
    (x : X) × Among x xs × (y ≡ f x)
Among-unmap f y [] h = absurd h
Among-unmap f y (x ∷ xs) (inl e) = (x, inl refl, e)
Among-unmap f y (x ∷ xs) (inr h) = let r = Among-unmap f y xs h in (r.0, inr r.1, r.2)

pub Among-filter : {X : Type 0} (p : X → Bool) (x : X) (xs : List X) → p x ≡ true → Among x xs →
    Among x (filter p xs)
Among-filter p x [] px h = absurd h
Among-filter p x (z ∷ xs) px (inl e) = rw (subst (λ w. p w ≡ true) e px) (inl e)
Among-filter p x (z ∷ xs) px (inr h) = later (p z) (Among-filter p x xs px h)
  where
    later : (b : Bool) → Among x (filter p xs) → Among x (cond b (z ∷ filter p xs) (filter p xs))
    later true i = inr i
    later false i = i

pub Among-unfilter : {X : Type 0} (p : X → Bool) (x : X) (xs : List X) → Among x (filter p xs) →
    Among x xs × (p x ≡ true)
Among-unfilter p x [] h = absurd h
Among-unfilter p x (y ∷ xs) h = cases (p y) refl (Among-unfilter p x xs) h
  where
    cases : (b : Bool) → p y ≡ b → (Among x (filter p xs) → Among x xs × (p x ≡ true)) →
        Among x (cond b (y ∷ filter p xs) (filter p xs)) → Among x (y ∷ xs) × (p x ≡ true)
    cases true e ih (inl q) = (inl q, rw q e)
    cases true e ih (inr i) = let r = ih i in (inr r.0, r.1)
    cases false e ih i = let r = ih i in (inr r.0, r.1)

pub flat-among : {Y : Type 0} (f : ℕ → List Y) (y : Y) (g : ℕ) (gs : List ℕ) → Among g gs →
    Among y (f g) → Among y (flat_map f gs)
flat-among f y g [] h k = absurd h
flat-among f y g (x ∷ gs) (inl e) k = Among-append_left y (f x) (flat_map f gs) (rw (← e) k)
flat-among f y g (x ∷ gs) (inr h) k =
    Among-append_right y (f x) (flat_map f gs) (flat-among f y g gs h k)

pub flat-unamong : {Y : Type 0} (f : ℕ → List Y) (y : Y) (gs : List ℕ) → Among y (flat_map f gs) →
    (g : ℕ) × Among g gs × Among y (f g)
flat-unamong f y [] h = absurd h
flat-unamong f y (x ∷ gs) h = elim (Among-unappend y (f x) (flat_map f gs) h) [
  | inl a ↦ (x, inl refl, a)
  | inr b ↦ (let r = flat-unamong f y gs b in (r.0, inr r.1, r.2))
]

pub map-among : {X Y : Type 0} (f g : X → Y) (x : X) (xs : List X) → map f xs ≡ map g xs →
    Among x xs → f x ≡ g x
map-among f g x [] e h = absurd h
map-among f g x (y ∷ xs) e (inl i) = let head : f y ≡ g y = cc in rw i head
map-among f g x (y ∷ xs) e (inr h) =
    let tail : map f xs ≡ map g xs = cc in map-among f g x xs tail h

-- What passes for all of them, and for some.

pub all-among : {X : Type 0} (p : X → Bool) (x : X) (xs : List X) → list_all p xs ≡ true →
    Among x xs → p x ≡ true
all-among p x [] h a = absurd a
all-among p x (z ∷ xs) h (inl e) = rw e (and-left (p z) (list_all p xs) h)
all-among p x (z ∷ xs) h (inr a) = all-among p x xs (and-right (p z) (list_all p xs) h) a

pub all-from : {X : Type 0} (p : X → Bool) (xs : List X) → ((x : X) → Among x xs → p x ≡ true) →
    list_all p xs ≡ true
all-from p [] h = refl
all-from p (x ∷ xs) h = rw (h x (inl refl)) (all-from p xs (λ y i. h y (inr i)))

pub all-map : {X : Type 0} (test : ℕ → Bool) (f : X → ℕ) (xs : List X) →
    ((x : X) → test (f x) ≡ true) → list_all test (map f xs) ≡ true
all-map test f [] h = refl
all-map test f (x ∷ xs) h = rw (h x) (all-map test f xs h)

pub each-at : {X : Type 0} (P : X → Type 0) (x : X) (xs : List X) → AllByRecursion P xs →
    Among x xs → P x
each-at P x [] h i = absurd i
each-at P x (y ∷ xs) h (inl e) = subst P (sym e) h.0
each-at P x (y ∷ xs) h (inr i) = each-at P x xs h.1 i

pub each-weaker : {X : Type 0} (P Q : X → Type 0) (xs : List X) → ((x : X) → P x → Q x) →
    AllByRecursion P xs → AllByRecursion Q xs
each-weaker P Q [] f h = h
each-weaker P Q (x ∷ xs) f h = (f x h.0, each-weaker P Q xs f h.1)

pub each-append : {X : Type 0} (P : X → Type 0) (xs ys : List X) → AllByRecursion P xs →
    AllByRecursion P ys → AllByRecursion P (xs ++ ys)
each-append P [] ys h k = k
each-append P (x ∷ xs) ys h k = (h.0, each-append P xs ys h.1 k)

pub any-among : {X : Type 0} (p : X → Bool) (x : X) (xs : List X) → p x ≡ true → Among x xs →
    list_any p xs ≡ true
any-among p x [] e h = absurd h
any-among p x (y ∷ xs) e (inl i) = rw (← i, e) refl
any-among p x (y ∷ xs) e (inr h) = grind (arith, any-among p x xs e h)

pub any-from : {X : Type 0} (p : X → Bool) (xs : List X) → list_any p xs ≡ true →
    (x : X) × Among x xs × (p x ≡ true)
any-from p [] h = absurd (grind arith)
any-from {X = X} p (x ∷ xs) h = cases (p x) refl (any-from p xs) h
  where
    cases : (b : Bool) → p x ≡ b → (list_any p xs ≡ true → (y : X) × Among y xs × (p y ≡ true)) →
        (b || list_any p xs) ≡ true → (y : X) × Among y (x ∷ xs) × (p y ≡ true)
    cases true e ih k = (x, inl refl, e)
    cases false e ih k = let r = ih k in (r.0, inr r.1, r.2)

-- The numbers below n, and the sets of n things.

pub among-below : (x n : ℕ) → x < n → Among x (below n)
among-below x zero h = absurd (omega arith)
among-below x (suc n) h = elim (last-or-below x n h) [
  | inl e ↦ Among-append_right x (below n) (n ∷ []) (inl e)
  | inr l ↦ Among-append_left x (below n) (n ∷ []) (among-below x n l)
]

pub below-lt : (x n : ℕ) → Among x (below n) → x < n
below-lt x zero h = absurd h
below-lt x (suc n) h = elim (Among-unappend x (below n) (n ∷ []) h) [
  | inl a ↦ omega (arith, below-lt x n a)
  | inr b ↦ last b
]
  where
    last : (x ≡ n) ⊎ ⊥ → x < suc n
    last (inl e) = omega arith
    last (inr f) = absurd f

-- each set of n marks is one of all sets of n things
pub among-sets : (set : List Bool) → Among set (sets (length set))
among-sets [] = inl refl
among-sets (false ∷ set) =
    Among-append_left _ (map (λ s. false ∷ s) (sets (length set))) _
    (Among-map (λ s. false ∷ s) set (sets (length set)) (among-sets set))
among-sets (true ∷ set) =
    Among-append_right _ (map (λ s. false ∷ s) (sets (length set))) _
    (Among-map (λ s. true ∷ s) set (sets (length set)) (among-sets set))

-- and each of these has n marks
pub sets-length : (n : ℕ) (set : List Bool) → Among set (sets n) → length set ≡ n
sets-length zero set (inl e) = ap length e
sets-length zero set (inr none) = absurd none
sets-length (suc n) set a =
    elim (Among-unappend set (map (λ s. false ∷ s) (sets n)) (map (λ s. true ∷ s) (sets n)) a) [
      | inl b ↦ (let u = Among-unmap (λ s. false ∷ s) set (sets n) b in
          ap length u.2 ∙ ap suc (sets-length n u.0 u.1))
      | inr b ↦ (let u = Among-unmap (λ s. true ∷ s) set (sets n) b in
          ap length u.2 ∙ ap suc (sets-length n u.0 u.1))
    ]

pub chosen-among : {X : Type 0} (x : X) (marks : List Bool) (xs : List X) →
    Among x (chosen marks xs) → Among x xs
chosen-among x [] xs h = absurd h
chosen-among x (m ∷ marks) [] h = absurd h
chosen-among x (true ∷ marks) (y ∷ xs) (inl e) = inl e
chosen-among x (true ∷ marks) (y ∷ xs) (inr h) = inr (chosen-among x marks xs h)
chosen-among x (false ∷ marks) (y ∷ xs) h = inr (chosen-among x marks xs h)
