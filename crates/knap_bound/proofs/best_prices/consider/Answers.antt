use Rattle.std.proofs.Common.{◌≡◌, ◌+◌, ◌&&◌, true, false, length, sym, ◌∙◌}
use Rattle.list_laws.specs.Sets.{holds}
use Rattle.list_laws.proofs.Tests.{and-left, and-right}
use Rattle.set_minima.specs.Packs.{colour_at}
use Rattle.set_minima.specs.Joins.{all_but}
use Rattle.set_minima.specs.Cells.{cell}
use Rattle.set_minima.proofs.WholeTables.{table-allowed}
use Rattle.knap_bound.specs.Items.{item_at}
use Rattle.knap_bound.specs.Packing.{joined_to}
use Rattle.knap_bound.proofs.ItemsLetIn.{next-joined, unwanted-joined}
use Rattle.knap_bound.proofs.best_prices.consider.Goals as goal

pub returns-then-is_wanted-clause-best : goal.returns-then-is_wanted-clause-best
returns-then-is_wanted-clause-best c k p =
    let j = (item_at c.args.packing.now.items.now c.args.t).place in
    let e = c.requires.packing.sorted.coloured c.args.t c.requires.here in
    let h : (all_but c.args.packing.now.skip j
    && holds (colour_at c.args.packing.now.rest.now j) c.args.out.now) ≡ true =
    rw e at (sym c.is_wanted.ensures ∙ c.if-is_wanted.true) in
    let kept : all_but c.args.packing.now.skip j ≡ true = and-left _ _ h in
    let its : holds (colour_at c.args.packing.now.rest.now j) c.args.out.now ≡ true =
    and-right (all_but c.args.packing.now.skip j) _ h in
    c.add_item.ensures.best (joined_to c.args.packing.now c.args.out.now c.args.t)
    (joined_to c.args.packing.now c.args.out.now (c.args.t + 1)) c.args.out.now k
    (next-joined c.args.packing.now.rest.now c.args.packing.now.items.now c.requires.packing.sorted
    c.args.out.now c.args.packing.now.skip c.args.t c.requires.here its kept) its p

pub returns-else-is_wanted-clause-best : goal.returns-else-is_wanted-clause-best
returns-else-is_wanted-clause-best c k p =
    let j = (item_at c.args.packing.now.items.now c.args.t).place in
    let e = c.requires.packing.sorted.coloured c.args.t c.requires.here in
    let h : (all_but c.args.packing.now.skip j
    && holds (colour_at c.args.packing.now.rest.now j) c.args.out.now) ≡ false =
    rw e at (sym c.is_wanted.ensures ∙ c.if-is_wanted.false) in
    table-allowed c.args.packing.now.rest.now c.args.packing.now.prices.now
    (joined_to c.args.packing.now c.args.out.now c.args.t)
    (joined_to c.args.packing.now c.args.out.now (c.args.t + 1)) c.args.out.now k
    (length c.args.table.now) (cell c.args.table.now)
    (λ i b. unwanted-joined c.args.packing.now.rest.now c.args.packing.now.items.now
    c.requires.packing.sorted c.args.out.now c.args.packing.now.skip c.args.t c.requires.here h
    i) p
