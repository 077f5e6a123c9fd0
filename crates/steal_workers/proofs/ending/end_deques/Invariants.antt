use Rattle.std.proofs.Common.{◌≡◌, ◌≤◌, ◌+◌, ℕ, List, All, length}
use Rattle.list_laws.specs.Sets.{times, same_list}
use Rattle.steal_workers.specs.Deques.{AreOfAll, IsLent, all_popped, all_pushed, all_stolen}
use Rattle.steal_workers.specs.Deques.{thieves_in}
use Rattle.steal_workers.proofs.ending.end_deques.Given as goal

abbrev pub invariant-loop-own : goal.invariant-loop-own
invariant-loop-own l = record {
  workers : length (thieves_in l.all_thieves.items) ≡ length l.fn.owns.items;
  few : length l.owns.items ≤ length l.fn.owns.items;
  lent : All (IsLent (length l.fn.owns.items)) l.owns.items;
  thieves : AreOfAll l.owns.items (thieves_in l.all_thieves.items);
  paths : (x : List ℕ) →
      all_pushed x l.fn.owns.items + all_popped x l.owns.items
      + all_stolen x (thieves_in l.all_thieves.items)
      ≡ times same_list x l.left.items + all_pushed x l.owns.items
      + all_popped x l.fn.owns.items + all_stolen x (thieves_in l.fn.all_thieves.items);
}

abbrev pub decreases-loop-own : goal.decreases-loop-own
decreases-loop-own l = length l.owns.items
