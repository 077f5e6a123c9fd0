-- The best of a plan and those that workers keep: its loss is the least of theirs, and it is one of
-- them.
use Rattle.std.proofs.Common.{ℕ, zero, suc, ◌<◌, ◌≤◌, ◌≡◌, ◌⊎◌, inl, inr, Bool, true, false, cond}
use Rattle.std.proofs.Common.{ltb}
use Rattle.std.proofs.Common.{List, [], ◌∷◌, length, get_or, Option, Some, None, refl, sym, ap}
use Rattle.std.proofs.Common.{◌∙◌, subst, arith, ltb-true, ltb-false}
use Rattle.std.specs.List.{AllByRecursion}
use Rattle.list_laws.proofs.Tests.{either}
use Rattle.mill_model.specs.declared.plan.Start.{Start}
use Rattle.search_step.specs.Leaving.{better_of}
use Rattle.search_step.specs.Parts.{Parts}
use Rattle.core_machine.specs.Core.{no_worker}
use Rattle.core_machine.specs.Kept.{best_of}

module _ (P : Start → Type 0) where
  better-one : (start : Start) (found : Option Start) → P start →
      ((kept : Start) → found ≡ Some kept → P kept) → P (better_of start found)
  better-one start None p q = p
  better-one start (Some kept) p q = go (ltb kept.loss start.loss)
    where
      go : (b : Bool) → P (cond b kept start)
      go true = q kept refl
      go false = p

  -- what is so of the plan and of each kept one
  pub best-one : (start : Start) (ws : List Parts) → P start →
      AllByRecursion (λ w. (kept : Start) → w.best ≡ Some kept → P kept) ws →
      P (best_of start ws)
  best-one start [] p q = p
  best-one start (w ∷ ws) p q =
      best-one (better_of start w.best) ws (better-one start w.best p q.0) q.1

better-at-most : (start : Start) (found : Option Start) → (better_of start found).loss ≤ start.loss
better-at-most start None = omega arith
better-at-most start (Some kept) = go (either (ltb kept.loss start.loss))
  where
    go : (ltb kept.loss start.loss ≡ true) ⊎ (ltb kept.loss start.loss ≡ false) →
        (better_of start (Some kept)).loss ≤ start.loss
    go (inl e) = let l : kept.loss < start.loss = ltb-true _ _ e in rw e (omega (arith, l))
    go (inr e) = rw e (omega arith)

better-at-most-kept : (start : Start) (found : Option Start) (kept : Start) → found ≡ Some kept →
    (better_of start found).loss ≤ kept.loss
better-at-most-kept start found kept e =
    subst (λ (o : Option Start). (better_of start o).loss ≤ kept.loss) (sym e)
    (go (either (ltb kept.loss start.loss)))
  where
    go : (ltb kept.loss start.loss ≡ true) ⊎ (ltb kept.loss start.loss ≡ false) →
        (better_of start (Some kept)).loss ≤ kept.loss
    go (inl f) = rw f (omega arith)
    go (inr f) =
        let l : start.loss ≤ kept.loss = ltb-false _ _ f in rw f l

pub best-at-most : (start : Start) (ws : List Parts) → (best_of start ws).loss ≤ start.loss
best-at-most start [] = omega arith
best-at-most start (w ∷ ws) =
    omega (arith, best-at-most (better_of start w.best) ws, better-at-most start w.best)

pub best-at-most-kept : (start : Start) (ws : List Parts) (i : ℕ) (kept : Start) → i < length ws →
    (get_or ws i no_worker).best ≡ Some kept → (best_of start ws).loss ≤ kept.loss
best-at-most-kept start [] i kept l e = absurd (omega arith)
best-at-most-kept start (w ∷ ws) zero kept l e =
    omega (arith, best-at-most (better_of start w.best) ws, better-at-most-kept start w.best kept e)
best-at-most-kept start (w ∷ ws) (suc i) kept l e =
    best-at-most-kept (better_of start w.best) ws i kept (omega arith) e

-- the plan itself, or the one that some worker keeps
better-among : (start : Start) (found : Option Start) →
    (better_of start found ≡ start) ⊎ (found ≡ Some (better_of start found))
better-among start None = inl refl
better-among start (Some kept) = go (ltb kept.loss start.loss)
  where
    go : (b : Bool) → (cond b kept start ≡ start) ⊎ (Some kept ≡ Some (cond b kept start))
    go true = inr refl
    go false = inl refl

pub best-among : (start : Start) (ws : List Parts) →
    (best_of start ws ≡ start)
    ⊎ ((i : ℕ) × (i < length ws) × ((get_or ws i no_worker).best ≡ Some (best_of start ws)))
best-among start [] = inl refl
best-among start (w ∷ ws) = elim (best-among (better_of start w.best) ws) [
  | inr (i, l, keeps) ↦ inr (suc i, omega (arith, l), keeps)
  | inl same ↦ elim (better-among start w.best) [
    | inl stays ↦ inl (same ∙ stays)
    | inr kept ↦ inr (zero, omega arith, kept ∙ ap (λ (s : Start). Some s) (sym same))
  ]
]
