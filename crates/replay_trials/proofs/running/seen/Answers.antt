use Rattle.replay_trials.proofs.running.seen.Goals as goal

pub refutes-requires : goal.refutes-requires
refutes-requires g c = record {
  start = _;
  nodes = c.args.nodes;
  few = c.requires;
  is = c.in_ok-run.ensures.run;
}
