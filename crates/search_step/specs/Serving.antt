-- What a hand serves.
use Rattle.std.specs.Prelude.{ℕ, ◌≡◌, true, cond, ltb, List, Result, Ok, Err}
use Rattle.mill_model.specs.Tree.{in_tree}
use Rattle.mill_model.specs.declared.limits.Draw.{Draw}
use Rattle.mill_model.specs.declared.limits.Draw.TheVariants.{Ticket, Spent}
use Rattle.order_symmetry.specs.Ranked.{RankedOrders, orders_of}
use Rattle.search_step.specs.declared.event.Event.{Event}
use Rattle.search_step.specs.declared.event.Event.TheVariants.{Pushed, Refused}

-- the ranked orders, a worker's number among so many workers, and how many tickets there are
pub record Serving : Type 0 where
  pub ranked : RankedOrders
  pub number : ℕ
  pub workers : ℕ
  pub budget : ℕ

-- a path of the tree of ranked orders
pub record IsPathOf (ranked : RankedOrders) (path : List ℕ) : Type 0 where
  pub is : in_tree ranked.mill (orders_of ranked) path ≡ true

-- the event of a push that was taken, or that gave the path back
abbrev pub push_event : List ℕ → Result (Unit {0}) (List ℕ) → Event
push_event path (Ok x) = Pushed path
push_event path (Err same) = Refused same

-- the number of a ticket
abbrev pub number_of : Draw → ℕ
number_of (Ticket t) = t
number_of (Spent t) = t

-- what the draw of a number gives within a budget
abbrev pub draw_at : ℕ → ℕ → Draw
draw_at budget t = cond (ltb t budget) (Ticket t) (Spent t)

-- the hand serves this worker of this run
pub record Serves (serving : Serving) (ranked : RankedOrders) (workers number : ℕ) : Type 0 where
  pub orders : serving.ranked ≡ ranked
  pub among : serving.workers ≡ workers
  pub who : serving.number ≡ number
