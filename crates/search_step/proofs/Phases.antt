-- Phases, each by itself.
use Rattle.std.proofs.Common.{◌≡◌, ◌≢◌, ◌⊎◌, inl, inr, refl}
use Rattle.search_step.specs.declared.parts.Phase.{Phase}
use Rattle.search_step.specs.declared.parts.Phase.TheVariants.{Resting, Taking, Stealing, Holding}
use Rattle.search_step.specs.declared.parts.Phase.TheVariants.{Halting, Ended, Bounding}
use Rattle.search_step.specs.declared.parts.Phase.TheVariants.{Closing as ClosingNow, Publishing}
use Rattle.search_step.specs.declared.parts.Phase.TheVariants.{Pushing}

-- whether a worker is to publish
pub is-publishing : (phase : Phase) → (phase ≡ Publishing) ⊎ (phase ≢ Publishing)
is-publishing Publishing = inl refl
is-publishing Resting = inr (λ q. absurd (cc))
is-publishing Taking = inr (λ q. absurd (cc))
is-publishing Stealing = inr (λ q. absurd (cc))
is-publishing Holding = inr (λ q. absurd (cc))
is-publishing Halting = inr (λ q. absurd (cc))
is-publishing Ended = inr (λ q. absurd (cc))
is-publishing Bounding = inr (λ q. absurd (cc))
is-publishing ClosingNow = inr (λ q. absurd (cc))
is-publishing Pushing = inr (λ q. absurd (cc))
