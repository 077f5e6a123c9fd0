-- The loads of a table's marked states, and the cheapest of them.
use Rattle.std.specs.Prelude.{ℕ, ◌+◌, ◌-◌, ◌*◌, ◌<◌, ◌≤◌, ◌≡◌, ◌⊎◌, List, Option, Some, None}
use Rattle.mill_model.specs.Slab.{Mill}
use Rattle.pair_split.specs.States.{IsWithin}
use Rattle.pair_split.specs.Tables.{row_bit, Marked}
use Rattle.pair_split.specs.Words.{bit}
use Rattle.pair_split.specs.declared.state.State.{State}

-- the bits of the rows `of` are set besides
pub record Gathers (words : ℕ) (table before after : List ℕ) (of : ℕ → Type 0) : Type 0 where
  pub kept : (l : ℕ) → l < 64 * words → bit before l ≡ 1 → bit after l ≡ 1
  pub here : (r l : ℕ) → of r → l < 64 * words → row_bit words table r l ≡ 1 → bit after l ≡ 1
  pub only : (l : ℕ) → l < 64 * words → bit after l ≡ 1 → (bit before l ≡ 1)
      ⊎ ((r : ℕ) × of r × (row_bit words table r l ≡ 1))

-- the loads of the marked states
pub record IsLoads (mill : Mill) (words : ℕ) (table loads : List ℕ) : Type 0 where
  pub found : (l : ℕ) → l ≤ mill.largest → bit loads l ≡ 1 →
      (s : State) × IsWithin mill s × Marked words table s × (s.load ≡ l)
  pub every : (s : State) → IsWithin mill s → Marked words table s → bit loads s.load ≡ 1

-- what a split with this load on the first slab loses, where all orders weigh `whole`
abbrev pub loss_of_load : (ℕ → ℕ) → ℕ → ℕ → ℕ
loss_of_load charge whole l = charge l + charge (whole - l)

-- of the loads below n that are set, and leave the second slab light enough, one that loses least,
-- with its loss, if there is one
pub record IsCheapest (charge : ℕ → ℕ) (whole largest n : ℕ) (loads : List ℕ)
    (best : Option (ℕ × ℕ)) : Type 0 where
  pub none : best ≡ None → (l : ℕ) → l < n → bit loads l ≡ 1 → l + largest < whole
  pub marked : (b : ℕ × ℕ) → best ≡ Some b → (bit loads b.0 ≡ 1) × (b.0 < n)
      × (whole ≤ b.0 + largest) × (b.1 ≡ loss_of_load charge whole b.0)
  pub least : (b : ℕ × ℕ) → best ≡ Some b → (l : ℕ) → l < n → bit loads l ≡ 1 →
      whole ≤ l + largest → b.1 ≤ loss_of_load charge whole l
