-- What a run ends with: its status, and what it has read.
use Rattle.std.specs.Prelude.{◌≡◌, ◌≢◌, ℕ, ◌≤◌, List, [], ◌∷◌, None, IsTrue}
use Rattle.list_laws.specs.Sets.{holds}
use Rattle.mill_model.specs.Instance.{Problem, mill_of, loss_charge}
use Rattle.mill_model.specs.Pairs.{IsStartBound}
use Rattle.mill_model.specs.Size.{thrifty_size}
use Rattle.mill_model.specs.declared.limits.Limits.{Limits}
use Rattle.instance_text.specs.Text.{Begins}
use Rattle.job_words.specs.declared.command.Command.{Command}
use Rattle.job_words.specs.declared.command.Command.TheVariants.{Drill}
use Rattle.job_words.specs.declared.job.Job.{Job}
use Rattle.job_words.specs.Words.{AskFor, limit_of}
use Rattle.reply_text.specs.declared.status.TheConstants.{OPTIMAL, INFEASIBLE, WRONG_WORDS, REFUSED}
use Rattle.reply_text.specs.declared.status.TheConstants.{FEASIBLE, READ_FAULT, WRITE_FAULT}
use Rattle.reply_text.specs.declared.status.TheConstants.{OUT_OF_MEMORY, REJECTED}
use Rattle.solve_answer.specs.Searched.{loss_task}
use Rattle.slab_top.specs.Drill.{made_by}
use Rattle.slab_top.specs.Input.{ReadsWhole}

-- the statuses that a run ends with
abbrev pub IsStatus : ℕ → Type 0
IsStatus status =
    IsTrue (holds status (OPTIMAL ∷ INFEASIBLE ∷ WRONG_WORDS ∷ REFUSED ∷ FEASIBLE ∷ READ_FAULT
    ∷ WRITE_FAULT ∷ OUT_OF_MEMORY ∷ REJECTED ∷ []))

-- the status tells of no failure
pub record IsAnswered (status : ℕ) : Type 0 where
  pub read : status ≢ READ_FAULT
  pub written : status ≢ WRITE_FAULT
  pub memory : status ≢ OUT_OF_MEMORY

-- the status is one that a run ends with, and tells of no failure
pub record IsOwnStatus (status : ℕ) : Type 0 where
  pub known : IsStatus status
  pub answered : IsAnswered status

-- the words ask for a job that reads its input, which is within the limit
pub record IsToBeRead (words : List (List ℕ)) (input : List ℕ) : Type 0 where
  pub job : Job
  pub asked : AskFor words job
  pub within : ReadsWhole (limit_of job.command) input

-- a budget is enough for a problem: it is at least as many paths as the thrifty tree of the start
-- bound has
abbrev pub IsEnoughFor : Limits → Problem → Type 0
IsEnoughFor limits problem =
    (bound : ℕ) →
    IsStartBound (mill_of problem) (loss_charge problem.sizes) problem.orders limits.moves bound →
    thrifty_size (loss_task problem) bound ≤ limits.nodes

-- the words ask for no job that reads
abbrev pub AskForNoInput : List (List ℕ) → Type 0
AskForNoInput words = (job : Job) → AskFor words job → limit_of job.command ≡ None

-- an instance stands in front of an input, and a slab may carry p colours
pub record IsInFront (p : ℕ) (input : List ℕ) (problem : Problem) : Type 0 where
  pub colours : problem.p ≡ p
  pub end : ℕ
  pub begins : Begins input problem end

-- the instance that a job is about: the one that it makes, or the one in front of its input
abbrev pub IsAbout : Command → Job → List ℕ → Problem → Type 0
IsAbout Drill job input problem = problem ≡ made_by job
IsAbout command job input problem = IsInFront job.p input problem

-- the words ask for a job with a budget that is enough for the instance that it is about
pub record HasEnough (words : List (List ℕ)) (input : List ℕ) : Type 0 where
  pub job : Job
  pub asked : AskFor words job
  pub problem : Problem
  pub about : IsAbout job.command job input problem
  pub budget : IsEnoughFor job.limits problem
