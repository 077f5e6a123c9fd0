-- A deque of paths, as its owner and its thieves see it.
use Rattle.std.specs.Prelude.{◌≡◌, ◌+◌, ℕ, List, sum_by}
use Rattle.std.specs.declared.alloc.Global.{Global}
use Rattle.atomic_blocks.specs.Lent.{RowsId}
use Rattle.order_symmetry.specs.Ranked.{RankedOrders}
use Rattle.steal_deques.specs.Rule.{ViewWasEmpty, ViewHadFew}
use Rattle.steal_deques.specs.Views.{owner_view, thief_view}

-- the owner: which deque it is, the orders that it is for, all shares and those that aren't lent,
-- and the paths that were pushed, popped and stolen, as far as the thieves were taken back
pub record DequeOwner : Type 0 where
  pub deque : RowsId × Global
  pub ranked : RankedOrders
  pub all : ℕ
  pub shares : ℕ
  pub pushed : List (List ℕ)
  pub popped : List (List ℕ)
  pub stolen : List (List ℕ)

-- a thief, which has one share: what it stole, and a number that never falls
pub record DequeThief : Type 0 where
  pub deque : RowsId × Global
  pub ranked : RankedOrders
  pub stolen : List (List ℕ)
  pub passed : ℕ

-- the thief is one of this owner's deque
abbrev pub IsThiefOf : DequeOwner → DequeThief → Type 0
IsThiefOf own thief = (thief.deque ≡ own.deque) × (thief.ranked ≡ own.ranked)

-- what was pushed is what was popped, stolen and left, each path as often: whatever each path
-- weighs, the weights agree
abbrev pub Balances : List (List ℕ) → List (List ℕ) → List (List ℕ) → List (List ℕ) → Type 0
Balances pushed popped stolen left = (h : List ℕ → ℕ) →
    sum_by h pushed ≡ sum_by h popped + sum_by h stolen + sum_by h left

-- at one moment the deque was empty, and the owner was as it is here
abbrev pub WasEmpty : DequeOwner → Type 0
WasEmpty own =
    ViewWasEmpty (owner_view own.ranked own.all own.shares own.pushed own.popped own.stolen)

-- at one moment the deque held one path at most, and the thief was as it is here
abbrev pub HadFew : DequeThief → Type 0
HadFew thief = ViewHadFew (thief_view thief.ranked thief.stolen)
