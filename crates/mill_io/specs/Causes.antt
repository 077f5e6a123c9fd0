-- The faults of a source or a sink, which it counts up to the greatest u64.
use Rattle.std.specs.Prelude.{◌≡◌, ◌+◌, ◌-◌, ◌^◌, ◌≤◌, ℕ, min, Result, Ok, Err, OnOk, OnErr}

-- the count after one more, which stands still at the greatest u64
abbrev pub one_more : ℕ → ℕ
one_more count = min (count + 1) (2 ^ 64 - 1)

-- the count is greater than before, or stands at the greatest u64
abbrev pub Rose : ℕ → ℕ → Type 0
Rose before now = one_more before ≤ now

-- the count never falls; it has risen where the call failed, and else it is the same
pub record HasCause {T E : Type 0} (before now : ℕ) (result : Result T E) : Type 0 where
  pub later : before ≤ now
  pub failed : OnErr result (Rose before now)
  pub kept : OnOk result (now ≡ before)

-- the count after a call: one more where it failed
abbrev pub count_after : {T E : Type 0} → ℕ → Result T E → ℕ
count_after before (Ok _) = before
count_after before (Err _) = one_more before
