-- What a worker's records, notes and kept plan say.
use Rattle.std.specs.Prelude.{ℕ, ◌≡◌, ◌≤◌, Bool, true, false, ◌&&◌, ◌||◌, leb, List, [], ◌∷◌}
use Rattle.std.specs.Prelude.{length}
use Rattle.std.specs.Prelude.{Some, ◌<◌, ◌⊎◌}
use Rattle.std.specs.List.{AllByRecursion, AllPairs, list_any}
use Rattle.list_laws.specs.Sets.{same_list}
use Rattle.mill_model.specs.Charges.{ChargeTable, charge_of}
use Rattle.mill_model.specs.LiveKey.{same_live_key}
use Rattle.mill_model.specs.Log.{Task, sound}
use Rattle.mill_model.specs.Plan.{IsPlanWithLoss}
use Rattle.mill_model.specs.Rank.{rank}
use Rattle.mill_model.specs.Thrift.{AreThrifty}
use Rattle.mill_model.specs.declared.closing.Entry.{Entry}
use Rattle.mill_model.specs.declared.closing.Closing.{Closing}
use Rattle.mill_model.specs.declared.closing.Closing.TheVariants.{Split, Leaf, Priced, Dominated}
use Rattle.mill_model.specs.declared.order.Order.{Order}
use Rattle.mill_model.specs.declared.plan.Start.{Start}
use Rattle.order_symmetry.specs.Ranked.{RankedOrders}
use Rattle.nogood_store.specs.declared.store.Entry.{Entry as Noted}
use Rattle.search_step.specs.Parts.{Parts}
use Rattle.search_step.specs.Moves.{starts, dead_loss_at}
use Rattle.search_step.specs.Steps.{task_at}
use Rattle.search_step.specs.declared.parts.Phase.TheVariants.{Publishing}

-- whether a record splits its path
abbrev pub is_split : Closing → Bool
is_split Split = true
is_split Leaf = false
is_split (Priced prices) = false
is_split (Dominated other) = false

-- whether a path is recorded as split
abbrev pub has_split : List Entry → List ℕ → Bool
has_split [] path = false
has_split (entry ∷ piece) path =
    (same_list path entry.path && is_split entry.closing) || has_split piece path

-- whether what a record names is recorded as split
abbrev pub names_split : List Entry → Closing → Bool
names_split piece Split = true
names_split piece Leaf = true
names_split piece (Priced prices) = true
names_split piece (Dominated other) = has_split piece other

-- a kept plan, which is in the file's order, is legal and loses its loss
pub record IsKept (ranked : RankedOrders) (charges : ChargeTable) (kept : Start) : Type 0 where
  pub plan :
      (orders : List Order) → ranked.placed ≡ rank orders →
      IsPlanWithLoss ranked.mill (charge_of charges) orders kept.plan kept.loss

-- whether a path at the start of a class has the live key of another path, and a dead loss that is
-- at least the other's: then the other path stands for it
abbrev pub stands_for : Task → List ℕ → List ℕ → Bool
stands_for task other path =
    starts task path
    && (same_live_key task.mill task.ranked path other
    && leb (dead_loss_at task other) (dead_loss_at task path))

-- the later of two records splits no path for which a path that the earlier one splits stands
pub record SplitsAnew (task : Task) (earlier later : Entry) : Type 0 where
  pub anew :
      is_split earlier.closing ≡ true → is_split later.closing ≡ true →
      stands_for task earlier.path later.path ≡ false

-- a split path that ends at the start of a class is noted
pub record IsNotedIn (task : Task) (notes : List Noted) (entry : Entry) : Type 0 where
  pub noted :
      is_split entry.closing ≡ true → starts task entry.path ≡ true →
      list_any (λ note. same_list entry.path note.path) notes ≡ true

-- For the loss that the worker was made with: its records are sound for the least loss that it
-- knows, what they name is split among them, they are thrifty for the loss at the start, and as
-- long as the store has room they split no path for which a path stands that they split before.
-- Noted paths are split. The kept plan is legal and loses at least the known loss.
pub record IsHonest (ranked : RankedOrders) (charges : ChargeTable) (start : ℕ) (w : Parts)
    : Type 0 where
  pub at_most : w.known ≤ start
  pub records :
      AllByRecursion (λ entry. sound (task_at ranked charges) w.known entry.path entry.closing
      ≡ true) w.piece
  pub named : AllByRecursion (λ entry. names_split w.piece entry.closing ≡ true) w.piece
  pub split : AllByRecursion (λ note. has_split w.piece note.path ≡ true) w.store.entries
  pub kept : (best : Start) → w.best ≡ Some best → IsKept ranked charges best
  pub above : (best : Start) → w.best ≡ Some best → w.known ≤ best.loss
  pub thrifty : AreThrifty (task_at ranked charges) start w.piece
  pub anew : length w.piece ≤ 65536 → AllPairs (SplitsAnew (task_at ranked charges)) w.piece
  pub noted :
      length w.piece ≤ 65536 →
      AllByRecursion (IsNotedIn (task_at ranked charges) w.store.entries) w.piece
  pub notes : length w.store.entries ≤ length w.piece

-- a step keeps a plan that loses less than was known before: its loss is now known, and the next
-- step publishes it
pub record KeepsPlan (w w' : Parts) (best : Start) : Type 0 where
  pub kept : w'.best ≡ Some best
  pub less : best.loss < w.known
  pub known : w'.known ≡ best.loss
  pub next : w'.phase ≡ Publishing

-- A step keeps this for each loss at the start, and the known loss never rises. Either the plan
-- stays, or a better one is kept, and only then the next step publishes.
pub record KeepsHonest (ranked : RankedOrders) (charges : ChargeTable) (w w' : Parts)
    : Type 0 where
  pub falls : w'.known ≤ w.known
  pub keeps : (start : ℕ) → IsHonest ranked charges start w → IsHonest ranked charges start w'
  pub plan : (w'.best ≡ w.best) ⊎ ((best : Start) × KeepsPlan w w' best)
  pub publishes : w'.phase ≡ Publishing → (best : Start) × KeepsPlan w w' best
