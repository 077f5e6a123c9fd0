-- The numbers that are drawn from a seed, each from the state of a generator.
use Rattle.std.specs.Prelude.{ℕ, zero, suc, ◌+◌, ◌*◌, ◌/◌, ◌%◌, ◌^◌}

-- the state behind another one: each is below 2^31
abbrev pub next_state : ℕ → ℕ
next_state state = (1103515245 * state + 12345) % 2 ^ 31

-- the state of a seed's generator after so many draws
abbrev pub state_after : ℕ → ℕ → ℕ
state_after seed zero = seed % 2 ^ 31
state_after seed (suc draws) = next_state (state_after seed draws)

-- what is drawn where a state was reached: that state without its 16 lowest bits
abbrev pub draw_of : ℕ → ℕ
draw_of state = state / 65536

-- what is drawn from a seed, by its place among the draws, counted from 0
abbrev pub draw : ℕ → ℕ → ℕ
draw seed place = draw_of (state_after seed (suc place))
