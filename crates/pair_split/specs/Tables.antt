-- Tables of the states that some orders' splits reach. A table has a row of bits for each number
-- of colours on both slabs and each two flags; bit l of a row stands for the load l. Bits of loads
-- past the largest size, and rows of too many colours, say nothing.
use Rattle.std.specs.Prelude.{ℕ, ◌+◌, ◌-◌, ◌*◌, ◌/◌, ◌%◌, ◌≤◌, ◌≡◌, ◌⊎◌, Bool, List, slice_index}
use Rattle.std.specs.Int.{bit_at}
use Rattle.mill_model.specs.Slab.{Mill}
use Rattle.mill_model.specs.declared.order.Order.{Order}
use Rattle.pair_split.specs.States.{state_of, with_order, IsWithin, IsPart, row, loaded}
use Rattle.pair_split.specs.declared.layout.Layout.{Layout}
use Rattle.pair_split.specs.declared.state.State.{State}

abbrev pub mill_in : Layout → Mill
mill_in layout = record { largest = layout.largest; most_colours = layout.p }

-- how many words a table has
abbrev pub table_size : Layout → ℕ
table_size layout = 36 * (layout.p + 1) * layout.words

-- bit l of a row, where a row has `words` words
unfoldable pub row_bit : ℕ → List ℕ → ℕ → ℕ → ℕ
row_bit words table r l = bit_at (slice_index table (r * words + l / 64)) (l % 64)

abbrev pub Marked : ℕ → List ℕ → State → Type 0
Marked words table s = row_bit words table (row s) s.load ≡ 1

-- the states within the bounds that are marked are exactly those of the parts
pub record IsTable (mill : Mill) (words : ℕ) (rest : List Order) (table : List ℕ) : Type 0 where
  pub found : (s : State) → IsWithin mill s → Marked words table s →
      (marks : List Bool) × IsPart mill rest marks × (state_of rest marks ≡ s)
  pub every : (marks : List Bool) → IsPart mill rest marks →
      Marked words table (state_of rest marks)

-- the marks of the row of `from` in the old table are set besides in the row of `to`, by the load
-- of `to` higher
pub record Pushes (mill : Mill) (words : ℕ) (old before after : List ℕ) (from to : State) : Type 0
  where
    pub kept : (s : State) → IsWithin mill s → Marked words before s → Marked words after s
    pub here : (l : ℕ) → IsWithin mill (loaded to (to.load + l)) →
        Marked words old (loaded from l) →
        Marked words after (loaded to (to.load + l))
    pub only : (t : State) → IsWithin mill t → Marked words after t → Marked words before t
        ⊎ ((to.load ≤ t.load) × Marked words old (loaded from (t.load - to.load))
        × (t ≡ loaded to t.load))

-- a state to which one more order leads from a marked one
pub record Comes (mill : Mill) (words weight : ℕ) (same : Bool) (old : List ℕ) (t : State) : Type 0
  where
    pub mark : Bool
    pub state : State
    pub within : IsWithin mill state
    pub marked : Marked words old state
    pub to : with_order mark weight same state ≡ t

-- where one more order leads from the states `of` the old table is marked besides
pub record Spreads (mill : Mill) (words weight : ℕ) (same : Bool) (old before after : List ℕ)
    (of : State → Type 0) : Type 0 where
  pub kept : (s : State) → IsWithin mill s → Marked words before s → Marked words after s
  pub here : (s : State) → of s → IsWithin mill s → Marked words old s → (mark : Bool) →
      IsWithin mill (with_order mark weight same s) →
      Marked words after (with_order mark weight same s)
  pub only : (t : State) → IsWithin mill t → Marked words after t →
      Marked words before t ⊎ Comes mill words weight same old t
