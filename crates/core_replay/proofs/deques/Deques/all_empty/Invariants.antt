use Rattle.std.proofs.Common.{◌≡◌, drop}
use Rattle.std.specs.List.{list_all}
use Rattle.core_machine.specs.Core.{is_empty}
use Rattle.core_replay.specs.Lists.{lists_of}
use Rattle.core_replay.proofs.deques.Deques.all_empty.Given as goal

abbrev pub invariant-loop-deque : goal.invariant-loop-deque
invariant-loop-deque l =
    list_all is_empty l.self.lists ≡ list_all is_empty (lists_of (drop l.deque-index l.deque-items))
