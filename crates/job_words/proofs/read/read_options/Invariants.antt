use Rattle.std.proofs.Common.{◌-◌, ◌≤◌, length, take}
use Rattle.job_words.specs.Words.{texts}
use Rattle.job_words.specs.Reading.{HasRead}
use Rattle.job_words.proofs.read.read_options.Given as goal

abbrev pub invariant-loop-place : goal.invariant-loop-place
invariant-loop-place l = record {
  within : l.place ≤ length l.words;
  read : HasRead l.command (take l.place (texts l.words)) l.numbers;
}

abbrev pub decreases-loop-place : goal.decreases-loop-place
decreases-loop-place l = length l.words - l.place
