use Rattle.std.proofs.Common.{◌≡◌, ◌≤◌, ◌+◌, ◌-◌, ◌++◌, take, length}
use Rattle.std.specs.List.{slice_get}
use Rattle.index_links.specs.Lists.{AreSlabLists, list_at}
use Rattle.index_links.proofs.slab_links.SlabLinks.write_list.Given as goal

abbrev pub invariant-loop-next : goal.invariant-loop-next
invariant-loop-next l = record {
  next : l.next ≡ slice_get (list_at l.self l.slab) (l.end - l.from);
  begun : l.from ≤ l.end;
  within : l.end ≤ l.from + length (list_at l.self l.slab);
  written : take l.end l.places
      ≡ take l.from l.fn.places ++ take (l.end - l.from) (list_at l.self l.slab);
  kept : AreSlabLists l.self;
}

abbrev pub decreases-loop-next : goal.decreases-loop-next
decreases-loop-next l = l.from + length (list_at l.self l.slab) - l.end
