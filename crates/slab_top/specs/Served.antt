-- What is right for the words and the bytes that a run is given.
use Rattle.std.specs.Prelude.{◌≡◌, ℕ, List, Option, None, IfSome}
use Rattle.refute_log.specs.declared.piece.Run.{Run}
use Rattle.job_words.specs.declared.command.Command.{Command}
use Rattle.job_words.specs.declared.command.Command.TheVariants as command
use Rattle.job_words.specs.declared.job.Job.{Job}
use Rattle.job_words.specs.Usage.{usage_line}
use Rattle.job_words.specs.Words.{AskFor}
use Rattle.reply_text.specs.declared.status.TheConstants.{WRONG_WORDS}
use Rattle.reply_text.specs.declared.outcome.Outcome.{Outcome}
use Rattle.reply_text.specs.Outcome as told
use Rattle.slab_top.specs.Input.{whole_input}
use Rattle.slab_top.specs.Reply.{Replies}
use Rattle.slab_top.specs.Solve.{Solves}
use Rattle.slab_top.specs.Prove.{Proves}
use Rattle.slab_top.specs.Replay.{Replays}
use Rattle.slab_top.specs.Check.{Checks}
use Rattle.slab_top.specs.Verify.{Verifies}
use Rattle.slab_top.specs.Drill.{Drills}

-- each command's relation, from a job and the bytes that it reads to what is answered
abbrev pub Serves : Command → Job → List ℕ → Outcome → Type 0
Serves command.Solve = Solves
Serves command.Prove = Proves
Serves command.Check = Checks
Serves command.Verify = Verifies
Serves command.Replay = Replays
Serves command.Drill = λ job bytes. Drills job

-- what a job answers to an input, first of all to its length
abbrev pub IsAnswer : Job → List ℕ → Outcome → Type 0
IsAnswer job input = Replies (whole_input job input) (Serves job.command job)

-- what a job answers to the bytes to come: where they aren't told, it answers some input
pub record IsServed (job : Job) (left : Option (List ℕ)) (outcome : Outcome) : Type 0 where
  pub input : List ℕ
  pub given : IfSome left (λ told. told ≡ input)
  pub answer : IsAnswer job input outcome

-- what a run writes: the usage line, or what a job answers
pub data Output : Type 0 where
  WrongWords : Output
  Answered : Outcome → Output

abbrev pub status_of : Output → ℕ
status_of WrongWords = WRONG_WORDS
status_of (Answered outcome) = told.status_of outcome

abbrev pub text_of : Output → List ℕ
text_of WrongWords = usage_line
text_of (Answered outcome) = told.text_of outcome

-- the run that is handed out with it
abbrev pub run_of : Output → Option Run
run_of WrongWords = None
run_of (Answered outcome) = told.run_of outcome

-- what is right for words and the bytes to come
abbrev pub IsRight : List (List ℕ) → Option (List ℕ) → Output → Type 0
IsRight words left WrongWords = (job : Job) → AskFor words job → ⊥
IsRight words left (Answered outcome) = (job : Job) × AskFor words job × IsServed job left outcome
