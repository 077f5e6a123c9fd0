-- The rule of a deque: what holds of its paths and of what its owner and its thieves know, between
-- any two steps.
use Rattle.std.specs.Prelude.{◌≡◌, ℕ, ◌+◌, ◌≤◌, ◌<◌, ◌⊎◌, true, false, List, [], ◌∷◌, length, All}
use Rattle.std.specs.Prelude.{sum_by}
use mathlib.Core.Option.{some}
use lib.ListN.{get_elem?}
use Rattle.mill_model.specs.Tree.{in_tree}
use Rattle.order_symmetry.specs.Ranked.{RankedOrders, orders_of}
use Rattle.shared_words.specs.Views.{EachView}
use Rattle.steal_deques.specs.declared.rule.DequeView.{DequeView}
use Rattle.steal_deques.specs.Views.{unopened_view}

-- the path is in the tree of these orders
pub record IsInTree (ranked : RankedOrders) (path : List ℕ) : Type 0 where
  pub is : in_tree ranked.mill (orders_of ranked) path ≡ true

abbrev pub shares_of : DequeView → ℕ
shares_of v = v.shares

-- what an end has stolen weighs, where each path weighs what h says
abbrev pub stolen_by : (List ℕ → ℕ) → DequeView → ℕ
stolen_by h v = sum_by h v.stolen

-- there is one owner; a thief with a share has the owner's orders, and one without has stolen
-- nothing
pub record Fits (home : ℕ) (orders : RankedOrders) (place : ℕ) (v : DequeView) : Type 0 where
  pub opened : v.opened ≡ true
  pub owner : v.owns ≡ true → place ≡ home
  pub ranked : v.owns ≡ false → 0 < v.shares → v.ranked ≡ orders
  pub spent : v.owns ≡ false → v.shares ≡ 0 → v.stolen ≡ []

-- with the owner at this place: what it pushed is what it popped, what it and all thieves stole,
-- and what the deque holds, each path as often, so whatever each path weighs
pub record OpenedBy (place : ℕ) (own : DequeView) (paths : List (List ℕ)) (views : List DequeView) :
    Type 0 where
  pub here : get_elem? views place ≡ some own
  pub owns : own.owns ≡ true
  pub shares : sum_by shares_of views ≡ own.all
  pub each : EachView (Fits place own.ranked) views
  pub balance : (h : List ℕ → ℕ) →
      sum_by h own.pushed ≡ sum_by h own.popped + sum_by (stolen_by h) views + sum_by h paths
  pub tree : All (IsInTree own.ranked) paths

abbrev pub Opened : List (List ℕ) → List DequeView → Type 0
Opened paths views = (place : ℕ) × (own : DequeView) × OpenedBy place own paths views

abbrev pub Kept : List (List ℕ) → List DequeView → Type 0
Kept paths views = ((views ≡ unopened_view ∷ []) × (paths ≡ [])) ⊎ Opened paths views

-- at one moment the deque held these paths, the rule held, and this was one of the views
pub record Held (v : DequeView) (paths : List (List ℕ)) : Type 0 where
  pub views : List DequeView
  pub place : ℕ
  pub here : get_elem? views place ≡ some v
  pub rule : Opened paths views

abbrev pub ViewWasEmpty : DequeView → Type 0
ViewWasEmpty v = Held v []

abbrev pub ViewHadFew : DequeView → Type 0
ViewHadFew v = (paths : List (List ℕ)) × (length paths ≤ 1) × Held v paths
