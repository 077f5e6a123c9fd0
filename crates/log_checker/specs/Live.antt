-- Live groups by what is seen of them.
use Rattle.std.specs.Prelude.{ℕ, ◌≡◌, ◌≤◌, Bool, true, false, ◌&&◌, List, map, filter, length, eqb}
use Rattle.std.specs.Prelude.{get_or}
use Rattle.std.specs.List.{All, Contains, list_any, list_all}
use Rattle.list_laws.specs.Sets.{holds, below, times}
use Rattle.mill_model.specs.Slab.{Mill}
use Rattle.mill_model.specs.LiveKey.{same_marks}
use Rattle.mill_model.specs.declared.order.Order.{Order}
use Rattle.log_checker.specs.Groups.{Seen, joined, may_be, nothing_seen}

abbrev pub lives : Mill → List Order → Seen → Bool
lives mill rest seen = list_any (λ order. may_be mill (joined seen order)) rest

-- whether an order of a colour may join a group
abbrev pub takes_of : Mill → List Order → Seen → ℕ → Bool
takes_of mill rest seen colour =
    list_any (λ order. eqb colour order.colour && may_be mill (joined seen order)) rest

abbrev pub marks : List Order → Seen → List Bool
marks rest seen = map (λ order. holds order.colour seen.colours) rest

abbrev pub same_seen : List Order → Seen → Seen → Bool
same_seen rest a b =
    eqb a.load b.load && eqb (length a.colours) (length b.colours)
    && same_marks (marks rest a) (marks rest b)

-- the groups of some numbers
abbrev pub picked : List Seen → List ℕ → List Seen
picked groups numbers = map (λ g. get_or groups g nothing_seen) numbers

-- the numbers of the live groups
abbrev pub live_of : Mill → List Order → List Seen → List ℕ
live_of mill rest groups =
    filter (λ g. lives mill rest (get_or groups g nothing_seen)) (below (length groups))

-- whether each of some groups is as often among one list as among another
abbrev pub each_as_often : List Order → List Seen → List Seen → List Seen → Bool
each_as_often rest some xs ys =
    list_all (λ x. eqb (times (same_seen rest) x xs) (times (same_seen rest) x ys)) some

-- whether the live groups are the same, each as often
abbrev pub same_live_seen : Mill → List Order → List Seen → List Seen → Bool
same_live_seen mill rest first second =
    each_as_often rest (picked first (live_of mill rest first))
    (picked first (live_of mill rest first)) (picked second (live_of mill rest second))
    && each_as_often rest (picked second (live_of mill rest second))
    (picked first (live_of mill rest first)) (picked second (live_of mill rest second))

-- the lightest of the orders that pass a test
pub record IsLightest (test : Order → Bool) (orders : List Order) (order : Order) : Type 0 where
  pub passes : test order ≡ true
  pub there : Contains orders order
  pub least : All (λ other. test other ≡ true → order.weight ≤ other.weight) orders

-- no order passes a test
abbrev pub AreNone : (Order → Bool) → List Order → Type 0
AreNone test orders = All (λ order. test order ≡ false) orders
