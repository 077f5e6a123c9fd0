use Rattle.std.proofs.Common.{◌≡◌, take, length}
use Rattle.large_moves.specs.Moves.{orders_at}
use Rattle.large_moves.proofs.pair.gather.Given as goal

abbrev pub invariant-loop-i : goal.invariant-loop-i
invariant-loop-i l = record {
  gathered : take l.i l.items ≡ orders_at l.orders (take l.i l.places);
  room : length l.items ≡ length l.fn.items;
}
