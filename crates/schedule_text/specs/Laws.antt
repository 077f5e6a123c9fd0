-- What a text is: one schedule, or wrong at one token, and never both.
use Rattle.std.specs.Prelude.{ℕ, ◌≡◌, ◌<◌, List}
use Rattle.std.specs.List.{AllByRecursion}
use Rattle.schedule_text.specs.Text.{IsScheduleText, IsWrongToken}

-- A text stands for at most one schedule,
abbrev pub OneSchedule : Type 0
OneSchedule =
    (workers : ℕ) (text first second : List ℕ) →
    IsScheduleText workers text first → IsScheduleText workers text second → first ≡ second

-- in which each number is that of a worker.
abbrev pub EachIsAWorker : Type 0
EachIsAWorker =
    (workers : ℕ) (text schedule : List ℕ) →
    IsScheduleText workers text schedule → AllByRecursion (λ worker. worker < workers) schedule

-- At most one of its tokens is the first that is wrong,
abbrev pub OneWrongToken : Type 0
OneWrongToken =
    (workers : ℕ) (text : List ℕ) (first second : ℕ) →
    IsWrongToken workers text first → IsWrongToken workers text second → first ≡ second

-- and none is where it stands for a schedule.
abbrev pub NeverBoth : Type 0
NeverBoth =
    (workers : ℕ) (text schedule : List ℕ) (token : ℕ) →
    IsScheduleText workers text schedule → IsWrongToken workers text token → ⊥
