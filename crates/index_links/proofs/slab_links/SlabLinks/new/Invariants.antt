use Rattle.index_links.proofs.Made.{AreMade}
use Rattle.index_links.proofs.slab_links.SlabLinks.new.Given as goal

abbrev pub invariant-loop-order : goal.invariant-loop-order
invariant-loop-order l =
    AreMade l.slabs.items l.order l.chains.firsts.items l.chains.nexts.items
    l.chains.previous.items
