use Rattle.replay_trials.proofs.replays.replayed.Goals as goal

pub refutes-requires : goal.refutes-requires
refutes-requires c = record {
  start = _;
  nodes = c.args.nodes;
  few = c.requires.nodes;
  is = c.in_ok-run.ensures.run;
}
