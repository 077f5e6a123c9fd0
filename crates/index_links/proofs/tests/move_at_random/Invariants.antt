use Rattle.std.proofs.Common.{◌≡◌, length}
use Rattle.index_links.proofs.tests.move_at_random.Given as goal

abbrev pub invariant-loop-time : goal.invariant-loop-time
invariant-loop-time l = length l.links ≡ 40
