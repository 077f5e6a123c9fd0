-- The rule of the meter: what holds of its word of tickets, its word of the halt, and what the
-- seats know, between any two steps.
use Rattle.std.specs.Prelude.{◌≡◌, ℕ, ◌+◌, ◌-◌, ◌^◌, ◌≤◌, ◌<◌, ◌==◌, Bool, true, false, ◌||◌}
use Rattle.std.specs.Prelude.{if◌then◌else◌, nat_eq, nat_lt, List, [], ◌∷◌, ◌++◌, sum_by, count_by}
use Rattle.atomic_table.specs.Table.{State, Me, Step}
use Rattle.shared_words.specs.declared.meter_rule.MeterView.{MeterView}
use Rattle.shared_words.specs.declared.meter_rule.MeterKey.{MeterKey}
use Rattle.shared_words.specs.Meter.{once_below}
use Rattle.shared_words.specs.Views.{EachView, SomeView}

abbrev pub meter_view : ℕ → ℕ → ℕ → List ℕ → Bool → Bool → MeterView
meter_view nodes shares spends tickets mark heard = record {
  nodes = nodes;
  shares = shares;
  spends = spends;
  tickets = tickets;
  mark = mark;
  heard = heard;
}

-- the first seat has all shares, and may draw once past the budget for each
abbrev pub first_view : MeterKey → MeterView
first_view key = meter_view key.nodes key.shares key.shares [] false false

-- a seat that was joined into another
abbrev pub spent_view : MeterView
spent_view = meter_view 0 0 0 [] false false

-- a share is handed over, with one draw past the budget
abbrev pub kept_view : MeterView → MeterView
kept_view v = meter_view v.nodes (v.shares - 1) (v.spends - 1) v.tickets v.mark v.heard

abbrev pub given_view : MeterView → MeterView
given_view v = meter_view v.nodes 1 1 [] false false

abbrev pub both_views : MeterView → MeterView → MeterView
both_views v w = meter_view v.nodes (v.shares + w.shares) (v.spends + w.spends)
    (v.tickets ++ w.tickets) (v.mark || w.mark) (v.heard || w.heard)

-- what the draw of a number takes of a seat's draws past the budget
abbrev pub spend_at : ℕ → ℕ → ℕ
spend_at nodes number = if nat_lt number nodes then 0 else 1

abbrev pub view_after_draw : MeterView → ℕ → MeterView
view_after_draw v number = meter_view v.nodes v.shares (v.spends - spend_at v.nodes number)
    (v.tickets ++ number ∷ []) v.mark v.heard

abbrev pub view_after_halt : MeterView → MeterView
view_after_halt v = meter_view v.nodes v.shares v.spends v.tickets true v.heard

abbrev pub view_after_hearing : MeterView → ℕ → MeterView
view_after_hearing v halt =
    meter_view v.nodes v.shares v.spends v.tickets v.mark (v.heard || (halt == 1))

abbrev pub shares_of : MeterView → ℕ
shares_of v = v.shares

abbrev pub spends_of : MeterView → ℕ
spends_of v = v.spends

-- how often the number stands among a seat's tickets
abbrev pub times_of : ℕ → MeterView → ℕ
times_of x v = count_by (nat_eq x) v.tickets

abbrev pub HasHalted : MeterView → Type 0
HasHalted v = v.mark ≡ true

pub record IsSpent (v : MeterView) : Type 0 where
  pub spends : v.spends ≡ 0
  pub tickets : v.tickets ≡ []
  pub mark : v.mark ≡ false
  pub heard : v.heard ≡ false

-- a seat with shares knows the budget; the halt word is 1 where a seat halted or heard of a halt; a
-- seat without shares has nothing
pub record Fits (nodes halt : ℕ) (v : MeterView) : Type 0 where
  pub budget : 0 < v.shares → v.nodes ≡ nodes
  pub halted : v.mark ≡ true → halt ≡ 1
  pub heard : v.heard ≡ true → halt ≡ 1
  pub spent : v.shares ≡ 0 → IsSpent v

-- the tickets of all seats are the numbers below the ticket word, each once; their draws past the
-- budget, those made and those to come, are as many as there are shares, so the word can't wrap;
-- the halt word is 1 exactly where some seat halted
pub record CountedAt (key : MeterKey) (ticket halt : ℕ) (views : List MeterView) : Type 0 where
  pub bound : key.nodes + key.shares < 2 ^ 63
  pub shares : sum_by shares_of views ≡ key.shares
  pub spends : sum_by spends_of views + (ticket - key.nodes) ≡ key.shares
  pub tickets : (x : ℕ) → sum_by (times_of x) views ≡ once_below x ticket
  pub flag : halt ≤ 1
  pub each : EachView (λ _. Fits key.nodes halt) views
  pub halted : halt ≡ 1 → SomeView HasHalted views

pub record Counted (key : MeterKey) (s : State ℕ MeterView) : Type 0 where
  pub ticket : ℕ
  pub halt : ℕ
  pub words : s.words ≡ ticket ∷ halt ∷ []
  pub rule : CountedAt key ticket halt s.views

-- what each step tells its seat
abbrev pub Drew : Step ℕ → Me ℕ MeterView → ℕ → Me ℕ MeterView → Type 0
Drew step old found new = new ≡ (view_after_draw old.0 found, old.1)

abbrev pub Halted : Step ℕ → Me ℕ MeterView → ℕ → Me ℕ MeterView → Type 0
Halted step old found new = new ≡ (view_after_halt old.0, old.1)

abbrev pub Heard : Step ℕ → Me ℕ MeterView → ℕ → Me ℕ MeterView → Type 0
Heard step old found new =
    (new ≡ (view_after_hearing old.0 found, old.1))
    × (found ≤ 1)
    × (old.0.mark ≡ true → found ≡ 1)
    × (old.0.heard ≡ true → found ≡ 1)
