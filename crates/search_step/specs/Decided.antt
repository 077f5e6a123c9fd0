-- What is decided of a path, part by part.
use Rattle.std.specs.Prelude.{ℕ, ◌≡◌, true, false, List}
use Rattle.mill_model.specs.Charges.{ChargeTable}
use Rattle.order_symmetry.specs.Ranked.{RankedOrders}
use Rattle.split_tree.specs.Keys.{Key, IsLiveKey}
use Rattle.nogood_store.specs.Entries.{Stored}
use Rattle.search_step.specs.Moves.{verdict, verdict_leaf, verdict_inner, verdict_open, found_at}
use Rattle.search_step.specs.Moves.{closes, starts, lowers}
use Rattle.search_step.specs.Steps.{AreOf, IsPlanAt, task_at}
use Rattle.search_step.specs.declared.parts.Verdict.{Verdict}

-- of a leaf, with its plan where it loses less
pub record DecidesLeaf (ranked : RankedOrders) (charges : ChargeTable) (known : ℕ) (path : List ℕ)
    (v : Verdict) : Type 0 where
  pub plan : List ℕ
  pub of_path : lowers (task_at ranked charges) known path ≡ true → IsPlanAt ranked path plan
  pub is : v ≡ verdict_leaf (task_at ranked charges) known plan path

-- of a path that prices don't close, with its live key where it ends at the start of a class
pub record DecidesOpen (ranked : RankedOrders) (charges : ChargeTable) (store : Stored)
    (path : List ℕ) (v : Verdict) : Type 0 where
  pub key : Key
  pub of_path :
      starts (task_at ranked charges) path ≡ true →
      IsLiveKey (record { ranked = ranked; path = path }) key
  pub is :
      v ≡ verdict_open (task_at ranked charges) key path
      (found_at (task_at ranked charges) store key path)

-- of a path that is no leaf
pub record DecidesInner (ranked : RankedOrders) (charges : ChargeTable) (known : ℕ)
    (store : Stored) (path : List ℕ) (v : Verdict) : Type 0 where
  pub key : Key
  pub of_path :
      closes (task_at ranked charges) known path ≡ false →
      starts (task_at ranked charges) path ≡ true →
      IsLiveKey (record { ranked = ranked; path = path }) key
  pub is : v ≡ verdict_inner (task_at ranked charges) known store key path

-- of any path
pub record Decides (ranked : RankedOrders) (charges : ChargeTable) (known : ℕ) (store : Stored)
    (path : List ℕ) (v : Verdict) : Type 0 where
  pub key : Key
  pub plan : List ℕ
  pub are : AreOf ranked charges known path key plan
  pub is : v ≡ verdict (task_at ranked charges) known store key plan path
