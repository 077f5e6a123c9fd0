-- What a job reads by the limit of its command: all of an input within it, or nothing where there
-- is no limit.
use Rattle.std.specs.Prelude.{Option, Some, None}
use Rattle.std.proofs.Common.{◌≡◌, ℕ, ◌<◌, ◌≤◌, List, [], length, refl, sym, subst}
use Rattle.job_words.specs.declared.command.Command.{Command}
use Rattle.job_words.specs.declared.command.Command.TheVariants.{Solve, Prove, Check, Verify}
use Rattle.job_words.specs.declared.command.Command.TheVariants.{Replay, Drill}
use Rattle.job_words.specs.declared.job.Job.{Job}
use Rattle.job_words.specs.Words.{limit_of}
use Rattle.reply_text.specs.declared.refusal.Refusal.TheVariants.{TooLong}
use Rattle.slab_top.specs.Input.{input_within, whole_input, ReadsWhole}

-- what is to be read whole is read
pub whole-reads : (most : Option ℕ) (input : List ℕ) → ReadsWhole most input →
    (input_within most input).Reads input
whole-reads None input whole = absurd whole
whole-reads (Some limit) input whole = (refl, whole)

-- ---- a command with a limit
module _ (job : Job) (input : List ℕ) (limit : ℕ)
    (limited : limit_of job.command ≡ Some limit) where
  pub reads-all : length input ≤ limit → (whole_input job input).Reads input
  reads-all within =
      subst (λ most. (input_within most input).Reads input) (sym limited) (refl, within)

  pub refuses-long : limit < length input → (whole_input job input).Refuses (TooLong limit)
  refuses-long long =
      subst (λ most. (input_within most input).Refuses (TooLong limit)) (sym limited) (refl, long)

  pub is-within : ReadsWhole (limit_of job.command) input → length input ≤ limit
  is-within whole = subst (λ most. ReadsWhole most input) limited whole

-- ---- a command without one
module _ (job : Job) (input : List ℕ) (unlimited : limit_of job.command ≡ None) where
  pub reads-nothing : (whole_input job input).Reads []
  reads-nothing = subst (λ most. (input_within most input).Reads []) (sym unlimited) refl

  pub not-whole : ReadsWhole (limit_of job.command) input → ⊥
  not-whole whole = subst (λ most. ReadsWhole most input) unlimited whole

-- ---- an input, and what is read of it

same-both : (P : List ℕ → Type 0) (input bytes : List ℕ) → bytes ≡ input →
    (P input → P bytes) × (P bytes → P input)
same-both P input bytes same = (subst P (sym same), subst P same)

-- what is so of one is so of the other, if for the command that reads nothing it goes by neither
pub as-read : (P : Command → List ℕ → Type 0) →
    ((input bytes : List ℕ) → P Drill input → P Drill bytes) → (command : Command)
    (input bytes : List ℕ) → (input_within (limit_of command) input).Reads bytes →
    (P command input → P command bytes) × (P command bytes → P command input)
as-read P unread Solve input bytes reads = same-both (P Solve) input bytes reads.0
as-read P unread Prove input bytes reads = same-both (P Prove) input bytes reads.0
as-read P unread Check input bytes reads = same-both (P Check) input bytes reads.0
as-read P unread Verify input bytes reads = same-both (P Verify) input bytes reads.0
as-read P unread Replay input bytes reads = same-both (P Replay) input bytes reads.0
as-read P unread Drill input bytes reads = (unread input bytes, unread bytes input)
