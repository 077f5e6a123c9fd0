use Rattle.std.proofs.Common.{◌≡◌, replicate, []}
use Rattle.core_replay.specs.Lists.{lists_of}
use Rattle.core_replay.proofs.deques.Deques.new.Given as goal

abbrev pub invariant-loop : goal.invariant-loop
invariant-loop l = lists_of l.deques.items ≡ replicate l.counter []
