-- The rule of the least loss: what holds of its one word and of what the seats know, between any
-- two steps.
use Rattle.std.specs.Prelude.{◌≡◌, ℕ, ◌+◌, ◌-◌, ◌≤◌, ◌<◌, ◌⊎◌, List, [], ◌∷◌, ◌++◌, min}
use Rattle.std.specs.Prelude.{All, Contains, sum_by}
use Rattle.atomic_table.specs.Table.{State, Me, Step}
use Rattle.shared_words.specs.declared.best_rule.BestView.{BestView}
use Rattle.shared_words.specs.declared.best_rule.BestKey.{BestKey}
use Rattle.shared_words.specs.Views.{EachView, SomeView}

abbrev pub best_view : ℕ → ℕ → ℕ → List ℕ → BestView
best_view start shares seen mine =
    record { start = start; shares = shares; seen = seen; mine = mine }

-- the first seat has all shares, has seen the start, and has published nothing
abbrev pub first_view : BestKey → BestView
first_view key = best_view key.start key.shares key.start []

-- a seat that was joined into another
abbrev pub spent_view : BestView
spent_view = best_view 0 0 0 []

-- a share is handed over, with what was seen
abbrev pub kept_view : BestView → BestView
kept_view v = best_view v.start (v.shares - 1) v.seen v.mine

abbrev pub given_view : BestView → BestView
given_view v = best_view v.start 1 v.seen []

abbrev pub both_views : BestView → BestView → BestView
both_views v w = best_view v.start (v.shares + w.shares) (min v.seen w.seen) (v.mine ++ w.mine)

abbrev pub view_after_look : BestView → ℕ → BestView
view_after_look v found = best_view v.start v.shares found v.mine

abbrev pub view_after_publish : BestView → ℕ → ℕ → BestView
view_after_publish v loss found =
    best_view v.start v.shares (min loss found) (v.mine ++ loss ∷ [])

abbrev pub shares_of : BestView → ℕ
shares_of v = v.shares

-- the word is at most all that a seat saw or published, and what it saw is at most the start; a
-- seat without shares has published nothing, and what it saw says nothing
pub record Fits (start word : ℕ) (v : BestView) : Type 0 where
  pub published : All (λ loss. word ≤ loss) v.mine
  pub seen : 0 < v.shares → (word ≤ v.seen) × (v.seen ≤ start)
  pub spent : v.shares ≡ 0 → v.mine ≡ []

-- the word is the start, or some seat published it
abbrev pub Stems : ℕ → ℕ → List BestView → Type 0
Stems start word views = (word ≡ start) ⊎ SomeView (λ v. Contains v.mine word) views

pub record LeastIs (key : BestKey) (word : ℕ) (views : List BestView) : Type 0 where
  pub shares : sum_by shares_of views ≡ key.shares
  pub each : EachView (λ _. Fits key.start word) views
  pub stems : Stems key.start word views

pub record Least (key : BestKey) (s : State ℕ BestView) : Type 0 where
  pub word : ℕ
  pub words : s.words ≡ word ∷ []
  pub rule : LeastIs key word s.views

-- what each step tells its seat: the word found is at most all that the seat knew
abbrev pub Told : BestView → ℕ → Type 0
Told v found = (found ≤ v.seen) × All (λ loss. found ≤ loss) v.mine

abbrev pub Looked : Step ℕ → Me ℕ BestView → ℕ → Me ℕ BestView → Type 0
Looked step old found new = Told old.0 found × (new ≡ (view_after_look old.0 found, old.1))

abbrev pub Published : Step ℕ → Me ℕ BestView → ℕ → Me ℕ BestView → Type 0
Published step old found new =
    Told old.0 found × (new ≡ (view_after_publish old.0 step.first found, old.1))
