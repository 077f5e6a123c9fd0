-- One group more: the choice among the groups above it is kept where the slab of this group
-- doesn't stay legal or adds more charge, and else this group is taken, as the lower one.
use Rattle.std.proofs.Common.{ℕ, ◌≡◌, ◌<ℤ◌, ◌≤ℤ◌, ◌∙◌, true, false, sym, subst, ℤ, w64}
use Rattle.std.proofs.Common.{to_z, of_z, rules}
use Rattle.mill_model.specs.Charges.{charge_of}
use Rattle.order_symmetry.specs.Ranked.{orders_of}
use Rattle.split_tree.specs.Node.{Node}
use Rattle.split_tree.proofs.Losses.{group-at}
use Rattle.greedy_start.proofs.Choices.{fits-stays, added-by_slab, best-kept, best-taken}
use Rattle.list_laws.proofs.Tests.{clash}
use Rattle.greedy_start.proofs.open_path.OpenPath.better.Goals as goal

pub returns-then-not-fits : goal.returns-then-not-fits
returns-then-not-fits c =
    let node : Node = record {
      ranked = c.args.self.now.ranked.now;
      path = c.args.self.now.numbers.items;
    } in
    let slab = group-at node c.args.self.now.groups.items c.args.self.now.are_groups c.args.group
    c.index-slab.result.now c.requires.group c.index-slab.ensures in
    let stays = fits-stays node c.args.order c.requires.next c.args.group c.index-slab.result.now
    c.fits.result slab c.fits.ensures.legal in
    let full : c.fits.result ≡ false = search rules in
    best-kept node.ranked.mill (charge_of c.args.charges.now)
    (orders_of node.ranked) node.path c.args.group c.args.best c.requires.best
    (λ t. absurd (clash c.fits.result (stays ∙ t) full))

pub added_charge-added-requires-clause-reach : goal.added_charge-added-requires-clause-reach
added_charge-added-requires-clause-reach c =
    let node : Node = record {
      ranked = c.args.self.now.ranked.now;
      path = c.args.self.now.numbers.items;
    } in
    let slab = group-at node c.args.self.now.groups.items c.args.self.now.are_groups c.args.group
    c.index-slab.result.now c.requires.group c.index-slab.ensures in
    rw slab.mill c.requires.reach

pub returns-then-best-added : goal.returns-then-best-added
returns-then-best-added c =
    let node : Node = record {
      ranked = c.args.self.now.ranked.now;
      path = c.args.self.now.numbers.items;
    } in
    let charge : ℕ → ℕ = charge_of c.args.charges.now in
    let slab = group-at node c.args.self.now.groups.items c.args.self.now.are_groups c.args.group
    c.index-slab.result.now c.requires.group c.index-slab.ensures in
    let adds = added-by_slab node c.args.order c.requires.next charge c.args.group
    c.index-slab.result.now slab.carries in
    let more : c.args.best.added <ℤ c.added_charge-added.result = search rules in
    best-kept node.ranked.mill charge (orders_of node.ranked) node.path c.args.group c.args.best
    c.requires.best
    (λ t. subst (λ (a : ℤ). c.args.best.added <ℤ a) (c.added_charge-added.ensures ∙ adds) more)

pub returns : goal.returns
returns c =
    let node : Node = record {
      ranked = c.args.self.now.ranked.now;
      path = c.args.self.now.numbers.items;
    } in
    let charge : ℕ → ℕ = charge_of c.args.charges.now in
    let slab = group-at node c.args.self.now.groups.items c.args.self.now.are_groups c.args.group
    c.index-slab.result.now c.requires.group c.index-slab.ensures in
    let stays = fits-stays node c.args.order c.requires.next c.args.group c.index-slab.result.now
    c.fits.result slab c.fits.ensures.legal in
    let adds = added-by_slab node c.args.order c.requires.next charge c.args.group
    c.index-slab.result.now slab.carries in
    let fits : c.fits.result ≡ true = search rules in
    let same : to_z w64 (of_z w64 c.added_charge-added.result) ≡ c.added_charge-added.result =
    search rules in
    let less : c.added_charge-added.result ≤ℤ c.args.best.added = search rules in
    rw same
    (best-taken node.ranked.mill charge (orders_of node.ranked) node.path c.args.group c.args.best
    c.added_charge-added.result c.requires.best (sym stays ∙ fits)
    (c.added_charge-added.ensures ∙ adds) less)
