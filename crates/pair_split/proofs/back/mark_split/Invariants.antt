use Rattle.std.proofs.Common.{◌≡◌, Bool, List, ◌++◌, drop, take, length}
use Rattle.pair_split.specs.States.{IsPart, state_of}
use Rattle.pair_split.specs.Tables.{mill_in, table_size}
use Rattle.pair_split.proofs.back.mark_split.Given as goal

abbrev pub invariant-loop-i : goal.invariant-loop-i
invariant-loop-i l = record {
  reached : (set : List Bool) × IsPart (mill_in l.layout) (drop l.i l.orders) set
      × (state_of (drop l.i l.orders) set ≡ l.at);
  leads : (set : List Bool) → IsPart (mill_in l.layout) (drop l.i l.orders) set →
      state_of (drop l.i l.orders) set ≡ l.at →
      IsPart (mill_in l.layout) l.orders (take l.i l.marks ++ set)
      × (state_of l.orders (take l.i l.marks ++ set) ≡ l.fn.target);
  size : length l.table ≡ table_size l.layout;
  spare : length l.spare ≡ table_size l.layout;
  marks : length l.marks ≡ length l.orders;
}
