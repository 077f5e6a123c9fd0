-- Scans of pairs of slabs, one after the other, by so many tries.
use Rattle.std.specs.Prelude.{ℕ, ◌+◌, ◌-◌, ◌<◌, ◌≤◌, ◌≡◌, Bool, true, ◌&&◌, List, ◌++◌, length}
use Rattle.std.specs.Prelude.{leb}
use Rattle.list_laws.specs.Sets.{holds}
use Rattle.mill_model.specs.Pairs.{all_closed, closed_pair, pairs_of, first_closed, sure_tries}
use Rattle.large_moves.specs.Laid.{Laid, laid_loss}
use Rattle.large_moves.specs.Times.{Times, needs_none}
use Rattle.large_moves.specs.declared.closed.Closed.{Closed}
use Rattle.large_moves.specs.declared.closed.Closed.TheVariants.{Yes}
use Rattle.large_moves.specs.declared.closed.Closed.TheVariants.{Spent as MovesSpent}
use Rattle.large_moves.specs.declared.scan.Scan.{Scan}
use Rattle.large_moves.specs.declared.scan.Scan.TheVariants.{Done, Spent, Changed}

-- whether two slabs of a plan are a pair
abbrev pub is_pair : List ℕ → ℕ → ℕ → Bool
is_pair plan a b = leb a b && (holds a plan && holds b plan)

-- whether some pairs of laid orders are closed
abbrev pub AreClosed : (ℕ → ℕ) → Laid → List (ℕ × ℕ) → Type 0
AreClosed charge laid pairs = all_closed laid.mill charge laid.orders laid.plan pairs ≡ true

-- at least as many of the first pairs are closed as there were tries, and there are more pairs
pub record IsSpent (charge : ℕ → ℕ) (laid : Laid) (pairs : List (ℕ × ℕ)) (before : ℕ) : Type 0
  where
    pub front : List (ℕ × ℕ)
    pub rest : List (ℕ × ℕ)
    pub is : pairs ≡ front ++ rest
    pub closed : AreClosed charge laid front
    pub tries : before ≤ length front
    pub more : 1 ≤ length rest

-- What a scan of some pairs comes to, by the tries before and after: all are closed; or the tries
-- were spent on pairs that are; or a pair was not closed, and its orders lie anew. Each pair takes
-- at most one try.
abbrev pub IsScan : (ℕ → ℕ) → Laid → Laid → List (ℕ × ℕ) → ℕ → ℕ → Scan → Type 0
IsScan charge old new pairs before after Done =
    (new ≡ old) × AreClosed charge old pairs × (before ≤ after + length pairs)
IsScan charge old new pairs before after Spent = (new ≡ old) × IsSpent charge old pairs before
IsScan charge old new pairs before after Changed =
    (laid_loss charge new < laid_loss charge old) × (before ≤ after + length pairs)

-- the times of the slabs of laid orders: each of their pairs that needs no try is closed
pub record AreTimesOf (charge : ℕ → ℕ) (laid : Laid) (times : Times) : Type 0 where
  pub slabs : length times.changed ≡ length laid.orders
  pub closed : (a b : ℕ) → b < length laid.orders → is_pair laid.plan a b ≡ true →
      needs_none times a b ≡ true →
      closed_pair laid.mill charge laid.orders laid.plan a b ≡ true

-- how many moves are sure to be left for the pairs of laid orders that come of others
abbrev pub tries_left : (ℕ → ℕ) → Laid → Laid → ℕ → ℕ
tries_left charge old new moves =
    sure_tries moves (laid_loss charge old - laid_loss charge new) (length new.orders)

-- laid orders that lose no more, or are the same, with as many of their first pairs closed as moves
-- are left; all are closed, or there are more of them
pub record ClosesPairs (charge : ℕ → ℕ) (old new : Laid) (moves : ℕ) (closed : Closed) : Type 0
  where
    pub no_more : laid_loss charge new ≤ laid_loss charge old
    pub kept : laid_loss charge new ≡ laid_loss charge old → new ≡ old
    pub first : first_closed new.mill charge new.orders new.plan (tries_left charge old new moves)
        ≡ true
    pub all : closed ≡ Yes → AreClosed charge new (pairs_of new.plan)
    pub spent : closed ≡ MovesSpent →
        tries_left charge old new moves < length (pairs_of new.plan)
