-- At the end of a machine's run a path is left only where tickets wanted: either more are drawn
-- than there are, or no deque, no held path and no waiting path is left.
use Rattle.std.proofs.Common.{ℕ, ◌<◌, ◌≡◌, ◌≢◌, inl, inr, Bool, true, false, not, ◌&&◌, ◌||◌, List}
use Rattle.std.proofs.Common.{[], ◌∷◌, ◌++◌, flat_map, Option, Some, None, option_to_list, refl, ap}
use Rattle.std.proofs.Common.{◌∙◌}
use Rattle.std.specs.List.{list_all}
use Rattle.list_laws.proofs.Tests.{and-left, and-right, clash}
use Rattle.search_step.specs.Parts.{Parts}
use Rattle.core_machine.specs.Core.{Core, any_busy, is_busy, is_empty, unclosed_by, unclosed_of}
use Rattle.core_machine.specs.Ends.{IsAtEnd, is_drained}

none-queued : (deques : List (List (List ℕ))) → list_all is_empty deques ≡ true →
    flat_map (λ paths. paths) deques ≡ []
none-queued [] h = refl
none-queued ([] ∷ deques) h = none-queued deques h
none-queued ((path ∷ paths) ∷ deques) h = absurd (clash false h refl)

none-held : (held : Option (List ℕ)) (waiting : List (List ℕ)) →
    not (is_empty (option_to_list held) && is_empty waiting) ≡ false →
    option_to_list held ++ waiting ≡ []
none-held None [] h = refl
none-held None (path ∷ waiting) h = absurd (clash true refl h)
none-held (Some path) waiting h = absurd (clash true refl h)

none-busy : (ws : List Parts) → any_busy ws ≡ false → flat_map unclosed_by ws ≡ []
none-busy [] h = refl
none-busy (w ∷ ws) h =
    let both = neither (is_busy w) (any_busy ws) h in
    ap (λ l. l ++ flat_map unclosed_by ws) (none-held w.held w.waiting both.0)
    ∙ none-busy ws both.1
  where
    neither : (a b : Bool) → (a || b) ≡ false → (a ≡ false) × (b ≡ false)
    neither true b h = absurd (clash true refl h)
    neither false b h = (refl, h)

-- where no deque, no held path and no waiting path is left, nothing is unclosed
drained-closed : (c : Core) → is_drained c ≡ true → unclosed_of c ≡ []
drained-closed c h =
    ap (λ l. l ++ flat_map (λ (paths : List (List ℕ)). paths) c.shared.deques)
    (none-busy c.workers (idle (any_busy c.workers)
    (and-right (list_all is_empty c.shared.deques) (not (any_busy c.workers)) h)))
    ∙ none-queued c.shared.deques
    (and-left (list_all is_empty c.shared.deques) (not (any_busy c.workers)) h)
  where
    idle : (b : Bool) → not b ≡ true → b ≡ false
    idle true e = absurd (clash false e refl)
    idle false e = refl

pub left-where-spent : (budget : ℕ) (c : Core) → IsAtEnd budget c → unclosed_of c ≢ [] →
    budget < c.shared.drawn
left-where-spent budget c ends left = elim ends.over [
  | inl more ↦ more
  | inr drained ↦ absurd (left (drained-closed c drained))
]
