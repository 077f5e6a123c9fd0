-- The last of a list, and a push of it.
use Rattle.std.proofs.Common.{◌≡◌, ℕ, List, [], ◌∷◌, ◌++◌, Some, refl, sym, ap, ◌∙◌, subst}
use Rattle.search_step.specs.Parts.{Parts}
use Rattle.search_step.specs.Moves.{last_of, front, pushed}
use Rattle.search_step.specs.Steps.{Pushes}
use Rattle.search_step.specs.declared.event.Event.{Event}
use Rattle.search_step.specs.declared.event.Event.TheVariants.{Pushed, Refused}
use Rattle.search_step.specs.declared.parts.Turn.TheVariants.{Moved, OutOfMemory}

pub last-more : (x : List ℕ) (xs : List (List ℕ)) (y : List ℕ) →
    last_of (x ∷ (xs ++ y ∷ [])) ≡ last_of (xs ++ y ∷ [])
last-more x [] y = refl
last-more x (z ∷ xs) y = refl

pub last-snoc : (xs : List (List ℕ)) (y : List ℕ) → last_of (xs ++ y ∷ []) ≡ Some y
last-snoc [] y = refl
last-snoc (x ∷ xs) y = last-more x xs y ∙ last-snoc xs y

pub front-more : (x : List ℕ) (xs : List (List ℕ)) (y : List ℕ) →
    front (x ∷ (xs ++ y ∷ [])) ≡ x ∷ front (xs ++ y ∷ [])
front-more x [] y = refl
front-more x (z ∷ xs) y = refl

pub front-snoc : (xs : List (List ℕ)) (y : List ℕ) → front (xs ++ y ∷ []) ≡ xs
front-snoc [] y = refl
front-snoc (x ∷ xs) y = front-more x xs y ∙ ap (λ l. x ∷ l) (front-snoc xs y)

pub last-or-none : (xs : List (List ℕ)) → (x : List ℕ) (ys : List (List ℕ)) → xs ≡ x ∷ ys →
    (z : List ℕ) × (last_of xs ≡ Some z) × (xs ≡ front xs ++ z ∷ [])
last-or-none xs x [] e = (x, ap last_of e, e ∙ ap (λ l. front l ++ x ∷ []) (sym e))
last-or-none xs x (y ∷ ys) e =
    let r = last-or-none (y ∷ ys) y ys refl in
    (r.0, ap last_of e ∙ r.1, e ∙ ap (λ l. x ∷ l) r.2 ∙ ap (λ l. front l ++ r.0 ∷ []) (sym e))

module _ {H : Type 0} (did : H → Event → H → Type 0) (w w' : Parts) (h h' : H) (ys : List (List ℕ))
    (x : List ℕ) (is : w.waiting ≡ ys ++ x ∷ []) where
  pub pushes-ok : did h (Pushed x) h' → w' ≡ (pushed w ys).0 →
      Pushes did (last_of w.waiting) w h Moved w' h'
  pushes-ok d e = subst (λ r. Pushes did r w h Moved w' h') (sym (ap last_of is ∙ last-snoc ys x))
      (d, (e ∙ ap (λ l. (pushed w l).0) (sym (ap front is ∙ front-snoc ys x)), refl))

  pub pushes-refused : did h (Refused x) h' → w' ≡ w →
      Pushes did (last_of w.waiting) w h OutOfMemory w' h'
  pushes-refused d e = subst (λ r. Pushes did r w h OutOfMemory w' h')
      (sym (ap last_of is ∙ last-snoc ys x)) (d, e)
