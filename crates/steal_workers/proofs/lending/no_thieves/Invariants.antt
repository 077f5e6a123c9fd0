use Rattle.std.proofs.Common.{◌≡◌, replicate, []}
use Rattle.steal_workers.specs.Deques.{thieves_in}
use Rattle.steal_workers.proofs.lending.no_thieves.Given as goal

abbrev pub invariant-loop : goal.invariant-loop
invariant-loop l = thieves_in l.all_thieves.items ≡ replicate l.counter []
