-- The deques of a round: who owns one, who has a thief of one, and what they took.
use Rattle.std.specs.Prelude.{◌≡◌, ◌≢◌, ◌<◌, ◌≤◌, ◌+◌, ◌-◌, ℕ, zero, suc, List, [], ◌∷◌, ◌++◌, All}
use Rattle.std.specs.Prelude.{cond}
use Rattle.std.specs.Prelude.{get_or, length, ltb, map}
use Rattle.std.specs.declared.alloc.Global.{Global}
use Rattle.std.specs.declared.vec.Vec.{Vec}
use Rattle.atomic_blocks.specs.Lent.{RowsId}
use Rattle.list_laws.specs.Sets.{times, same_list}
use Rattle.order_symmetry.specs.Ranked.{RankedOrders}
use Rattle.core_machine.specs.Counts.{sum_of}
use Rattle.steal_deques.specs.Deque.{DequeOwner, DequeThief}
use Rattle.running_worker.specs.Worked.{stolen_count}
use Rattle.steal_workers.specs.declared.lending.Dealt.{Dealt}

-- a list without what stands at a place
abbrev pub all_but : {X : Type 0} → ℕ → List X → List X
all_but place [] = []
all_but zero (x ∷ xs) = xs
all_but (suc place) (x ∷ xs) = x ∷ all_but place xs

-- the thieves of each worker
abbrev pub AllThieves : Type 0
AllThieves = List (List DequeThief)

abbrev pub thieves_in : List (Vec DequeThief Global) → AllThieves
thieves_in = map (λ thieves. thieves.items)

abbrev pub thieves_of : AllThieves → ℕ → List DequeThief
thieves_of all_thieves number = get_or all_thieves number []

-- a thief that was just lent
abbrev pub new_thief : DequeOwner → DequeThief
new_thief own =
    record { deque = own.deque; ranked = own.ranked; stolen = []; passed = 0 }

-- a new deque that so many workers are to share, of which nothing is lent
pub record IsUnlent (workers : ℕ) (own : DequeOwner) : Type 0 where
  pub all : own.all ≡ workers
  pub shares : own.shares ≡ workers

-- a deque of which all shares but the owner's are lent, and which is still empty
pub record IsNewOwner (ranked : RankedOrders) (workers : ℕ) (own : DequeOwner) : Type 0 where
  pub orders : own.ranked ≡ ranked
  pub all : own.all ≡ workers
  pub shares : own.shares ≡ 1
  pub pushed : own.pushed ≡ []
  pub popped : own.popped ≡ []
  pub stolen : own.stolen ≡ []

-- of the workers below a number, how many aren't the owner
abbrev pub others_below : ℕ → ℕ → ℕ
others_below number below = cond (ltb number below) (below - 1) below

-- of the workers below a number, each but the owner gets one further thief
pub record DealsOne (number below : ℕ) (thief : DequeThief) (before after : AllThieves)
    : Type 0 where
  pub count : length after ≡ length before
  pub others : (i : ℕ) → i < below → i ≢ number →
      thieves_of after i ≡ thieves_of before i ++ thief ∷ []
  pub later : (i : ℕ) → below ≤ i → thieves_of after i ≡ thieves_of before i
  pub own : thieves_of after number ≡ thieves_of before number

-- each worker has a new thief of every deque but its own
abbrev pub HasNewThieves : List DequeOwner → AllThieves → Type 0
HasNewThieves owns all_thieves =
    (i : ℕ) → i < length all_thieves → thieves_of all_thieves i ≡ all_but i (map new_thief owns)

pub record AreDealt (ranked : RankedOrders) (workers : ℕ) (dealt : Dealt) : Type 0 where
  pub owners : length dealt.owns.items ≡ workers
  pub new : All (IsNewOwner ranked workers) dealt.owns.items
  pub takers : length (thieves_in dealt.all_thieves.items) ≡ workers
  pub thieves : HasNewThieves dealt.owns.items (thieves_in dealt.all_thieves.items)

-- Which deque an end is of, and for which orders.
abbrev pub Home : Type 0
Home = (RowsId × Global) × RankedOrders

abbrev pub home_of : DequeOwner → Home
home_of own = (own.deque, own.ranked)

abbrev pub homes_of : List DequeThief → List Home
homes_of = map (λ thief. (thief.deque, thief.ranked))

-- a deque that so many workers share, of which all shares but the owner's are lent, and no thief
-- came back yet
pub record IsLent (workers : ℕ) (own : DequeOwner) : Type 0 where
  pub all : own.all ≡ workers
  pub shares : own.shares ≡ 1
  pub stolen : own.stolen ≡ []

-- each worker has a thief of every deque but its own, in order
abbrev pub AreOfAll : List DequeOwner → AllThieves → Type 0
AreOfAll owns all_thieves =
    (i : ℕ) → i < length all_thieves →
    homes_of (thieves_of all_thieves i) ≡ all_but i (map home_of owns)

-- each worker but the owner has a thief of the deque, which is its last one
pub record IsLastOfAll (number : ℕ) (own : DequeOwner) (all_thieves : AllThieves) : Type 0 where
  pub others : (i : ℕ) → i < length all_thieves → i ≢ number →
      (homes : List Home) × (homes_of (thieves_of all_thieves i) ≡ homes ++ home_of own ∷ [])

-- how often a path stands among those that thieves stole, that owners pushed, and that they popped
abbrev pub all_stolen : List ℕ → AllThieves → ℕ
all_stolen path = sum_of (stolen_count path)

abbrev pub all_pushed : List ℕ → List DequeOwner → ℕ
all_pushed path = sum_of (λ own. times same_list path own.pushed)

abbrev pub all_popped : List ℕ → List DequeOwner → ℕ
all_popped path = sum_of (λ own. times same_list path own.popped)

-- of the workers below a number, each but the owner gave back its last thief
pub record GivesOne (number below : ℕ) (before after : AllThieves) : Type 0 where
  pub count : length after ≡ length before
  pub others : (i : ℕ) → i < below → i ≢ number →
      (thief : DequeThief) × (thieves_of before i ≡ thieves_of after i ++ thief ∷ [])
  pub later : (i : ℕ) → below ≤ i → thieves_of after i ≡ thieves_of before i
  pub own : thieves_of after number ≡ thieves_of before number

-- the owner of a deque has the shares of these thieves again, and what they stole
pub record AreBack (own own' : DequeOwner) (number below : ℕ) (before after : AllThieves)
    : Type 0 where
  pub same : own' ≡ record own { shares = own'.shares; stolen = own'.stolen }
  pub shares : own'.shares ≡ 1 + others_below number below
  pub given : GivesOne number below before after
  pub stolen : (x : List ℕ) →
      times same_list x own'.stolen + all_stolen x after ≡ all_stolen x before

-- a deque has ended, and what it still held is appended to some paths
pub record EndsOne (own : DequeOwner) (number : ℕ) (before after : AllThieves)
    (left left' : List (List ℕ)) : Type 0 where
  pub given : GivesOne number (length before) before after
  pub paths : (x : List ℕ) →
      times same_list x left + times same_list x own.pushed + all_stolen x after
      ≡ times same_list x left' + times same_list x own.popped + all_stolen x before
