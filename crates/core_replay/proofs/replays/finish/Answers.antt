use Rattle.std.proofs.Common.{arith}
use Rattle.core_replay.proofs.replays.finish.Goals as goal

pub resume-requires : goal.resume-requires
resume-requires c = record {
  light = c.requires.light;
  reach = c.requires.reach;
  some = omega arith;
  few = omega arith;
  within = c.requires.nodes;
  drawn = c.if-run-limits.false;
  resumable = c.requires.resumable;
  numbers = tt;
}
