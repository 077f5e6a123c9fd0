use Rattle.std.proofs.Common.{◌≡◌, ℕ, zero, suc, ◌∙◌, get_or, replicate, ap, refl, rules}
use Rattle.log_checker.proofs.from_instance.last_ranks.Goals as goal

zeros : (z n i : ℕ) → get_or (replicate n z) i z ≡ z
zeros z zero i = refl
zeros z (suc n) zero = refl
zeros z (suc n) (suc i) = zeros z n i

pub fill_last-requires-clause-empty : goal.fill_last-requires-clause-empty
fill_last-requires-clause-empty c colour =
    let e : c.in_ok-last.last.items ≡ replicate 4097 0 = search rules in
    ap (λ xs. get_or xs colour 0) c.deref_mut.ensures.value
    ∙ ap (λ xs. get_or xs colour 0) e ∙ zeros 0 4097 colour
