use Rattle.std.proofs.Common.{◌≡◌, All, length}
use Rattle.steal_workers.specs.Deques.{HasNewThieves, IsNewOwner, thieves_in}
use Rattle.steal_workers.proofs.lending.deal.Given as goal

abbrev pub invariant-loop-number : goal.invariant-loop-number
invariant-loop-number l = record {
  owners : length l.owns.items ≡ l.number;
  new : All (IsNewOwner l.ranked l.workers) l.owns.items;
  takers : length (thieves_in l.all_thieves.items) ≡ l.workers;
  thieves : HasNewThieves l.owns.items (thieves_in l.all_thieves.items);
}
