-- What a call of a worker makes of what workers share, on one thread.
use Rattle.std.specs.Prelude.{ℕ, ◌≡◌, Bool}
use Rattle.search_step.specs.Moves.{last_of}
use Rattle.search_step.specs.Serving.{draw_at}
use Rattle.search_step.specs.declared.event.Event.{Event}
use Rattle.search_step.specs.declared.event.Event.TheVariants.{Took, Stole, Pushed, Refused}
use Rattle.search_step.specs.declared.event.Event.TheVariants.{Drew as DrewEvent, Looked, Published}
use Rattle.search_step.specs.declared.event.Event.TheVariants.{Stopping, Stood}
use Rattle.core_machine.specs.Core.{Shared, deque, first_of, standing, with_taken, with_stolen}
use Rattle.core_machine.specs.Core.{with_pushed, with_least, with_draw, with_halt}

-- for the worker of a number, with so many tickets, where some worker is busy or none
module _ (budget number : ℕ) (busy : Bool) where
  abbrev pub called : Shared → Event → Shared → Type 0
  called s (Took path) s' = (path ≡ last_of (deque s number)) × (s' ≡ with_taken s number)
  called s (Stole victim path) s' =
      (path ≡ first_of (deque s victim)) × (s' ≡ with_stolen s victim)
  called s (Pushed path) s' = s' ≡ with_pushed s number path
  called s (Refused path) s' = s' ≡ s
  called s (DrewEvent draw) s' = (draw ≡ draw_at budget s.drawn) × (s' ≡ with_draw s)
  called s (Looked least) s' = (least ≡ s.least) × (s' ≡ s)
  called s (Published loss before) s' = (before ≡ s.least) × (s' ≡ with_least s loss)
  called s Stopping s' = s' ≡ with_halt s
  called s (Stood stands) s' = (stands ≡ standing busy s) × (s' ≡ s)
