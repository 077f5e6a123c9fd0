use Rattle.std.proofs.Common.{◌≡◌, filter, length, take}
use Rattle.list_laws.specs.Sets.{holds}
use Rattle.split_tree.specs.Keys.{padded}
use Rattle.split_tree.proofs.live_key.coming_among.Given as goal

abbrev pub invariant-loop-i : goal.invariant-loop-i
invariant-loop-i l = record {
  count : l.count ≡ length (filter (λ c. holds c l.colours) (take l.i l.coming));
  among : l.among ≡ padded (filter (λ c. holds c l.colours) (take l.i l.coming));
}
