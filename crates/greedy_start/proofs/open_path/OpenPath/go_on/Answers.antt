-- The group stays legal with the order, so its slab takes the order, and a new group begins with
-- an empty slab. The slabs are then those of the groups of the longer path.
use Rattle.std.proofs.Common.{◌≡◌, ◌≤◌, ◌+◌, ◌∷◌, [], length, arith, ap, ◌∙◌}
use Rattle.std.proofs.lemmas.List.{length-append, length-map}
use Rattle.std.proofs.lemmas.Option.{slice_get_within}
use Rattle.mill_model.specs.Tree.{next_new}
use Rattle.order_symmetry.specs.Ranked.{orders_of}
use Rattle.slab_rules.specs.OpenSlab.{IsOpenSlab}
use Rattle.split_tree.specs.Node.{Node}
use Rattle.split_tree.specs.Groups.{with_order}
use Rattle.split_tree.proofs.Joins.{length-with_order}
use Rattle.split_tree.proofs.Grown.{empty-is, IsOpenSlab-empty, fits-legal, groups-grown}
use Rattle.greedy_start.proofs.open_path.OpenPath.go_on.Goals as goal

pub join_group-requires-clause-fits : goal.join_group-requires-clause-fits
join_group-requires-clause-fits c =
    let node : Node = record {
      ranked = c.args.self.ranked.now;
      path = c.args.self.numbers.items;
    } in
    let low : c.args.group ≤ length c.args.self.groups.items =
    omega (arith, c.requires.number, c.args.self.are_groups.count) in
    let start = empty-is node.ranked.mill c.largest.result c.p.result c.empty-empty.result
    c.largest.ensures.is c.p.ensures.is c.empty-empty.ensures.is in
    let open_slab : IsOpenSlab c.empty-empty.result =
    rw start
    (IsOpenSlab-empty node.ranked.mill (rw c.largest.ensures.is at c.largest.ensures.high)
    (rw c.p.ensures.is at c.p.ensures.low) (rw c.p.ensures.is at c.p.ensures.high)) in
    (fits-legal node c.args.group c.args.order c.requires.next c.args.self.groups.items
    c.args.self.are_groups low c.empty-empty.result start open_slab).1 c.requires.fits

pub invariant_of-result : goal.invariant_of-result
invariant_of-result c =
    let node : Node = record {
      ranked = c.args.self.ranked.now;
      path = c.args.self.numbers.items;
    } in
    let count : length c.args.self.groups.items ≡ next_new node.path =
    c.args.self.are_groups.count in
    let low : c.args.group ≤ length c.args.self.groups.items =
    omega (arith, c.requires.number, count) in
    let start = empty-is node.ranked.mill c.largest.result c.p.result c.empty-empty.result
    c.largest.ensures.is c.p.ensures.is c.empty-empty.ensures.is in
    let open_slab : IsOpenSlab c.empty-empty.result =
    rw start
    (IsOpenSlab-empty node.ranked.mill (rw c.largest.ensures.is at c.largest.ensures.high)
    (rw c.p.ensures.is at c.p.ensures.low) (rw c.p.ensures.is at c.p.ensures.high)) in
    let law = fits-legal node c.args.group c.args.order c.requires.next c.args.self.groups.items
    c.args.self.are_groups low c.empty-empty.result start open_slab in
    let grown = groups-grown node c.args.group c.args.order c.requires.next
    c.args.self.groups.items c.args.self.are_groups low c.empty-empty.result start open_slab
    (law.1 c.requires.fits) in
    let long : length c.push.new.self.items ≡ length c.args.self.numbers.items + 1 =
    ap length c.in_ok-push.ensures.items
    ∙ length-append c.args.self.numbers.items (c.args.group ∷ []) in
    let many : length c.join_group.new.groups.items
    ≡ length (with_order c.empty-empty.result c.args.self.groups.items c.args.group c.args.order) =
    ap length c.in_ok-join_group.ensures.joined in
    let more = length-with_order c.empty-empty.result c.args.self.groups.items c.args.group
    c.args.order low in
    record {
      are_groups = rw (c.in_ok-push.ensures.items, c.in_ok-join_group.ensures.joined) grown;
      few_groups = omega (arith, long, many, more, low, c.args.self.few_groups);
      within = omega (
        arith,
        long,
        slice_get_within (orders_of node.ranked) (length node.path)
            c.args.order c.requires.next,
        length-map node.ranked.placed (λ p. p.order),
      );
      few_orders = c.args.self.few_orders;
      some_colour = c.args.self.some_colour;
    }
