use Rattle.std.proofs.Common.{map}
use Rattle.shared_trials.proofs.together.eight_threads_do_all.Given as goal

-- the deques that were just made
abbrev pub ghosts-all_play : goal.ghosts-all_play
ghosts-all_play g a = record {
  deques = map (λ own. own.deque) a.owns.items;
  ranked = a.ranked.now;
}
