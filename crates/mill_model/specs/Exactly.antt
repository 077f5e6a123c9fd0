-- What a call answers exactly, but for want of memory.
use Rattle.std.specs.Prelude.{◌≡◌, ◌⊎◌, Result, Err}

-- A call answers so exactly where a fact holds. Where it wants memory it may answer that instead.
pub record ComesExactly {A E : Type 0} (want : E) (result answer : Result A E) (fact : Type 0)
    : Type 0 where
  pub only : result ≡ answer → fact
  pub always : fact → (result ≡ answer) ⊎ (result ≡ Err want)
