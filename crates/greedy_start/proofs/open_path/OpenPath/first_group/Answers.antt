-- The slabs are tried from the lowest group on: those before don't stay legal. So the first that
-- fits is the group of first fit, and where none fits, the new slab is.
use Rattle.std.proofs.Common.{◌≡◌, ◌<◌, ◌≤◌, length, sym, ◌∙◌, arith, inl, inr, subst, rules, true}
use Rattle.std.proofs.Common.{false, ℕ}
use Rattle.mill_model.specs.Starts.{stays_legal}
use Rattle.mill_model.specs.Tree.{next_new}
use Rattle.list_laws.proofs.Tests.{last-or-below}
use Rattle.order_symmetry.specs.Ranked.{orders_of}
use Rattle.split_tree.specs.Node.{Node}
use Rattle.split_tree.proofs.Losses.{group-at}
use Rattle.greedy_start.proofs.Choices.{fits-stays, first_group-found, first_group-new, new-stays}
use Rattle.greedy_start.proofs.open_path.OpenPath.first_group.Goals as goal

pub returns-then-fits : goal.returns-then-fits
returns-then-fits c =
    let node : Node = record {
      ranked = c.args.self.now.ranked.now;
      path = c.args.self.now.numbers.items;
    } in
    let value = c.deref-slab-items.ensures.value in
    let l : c.loop-group.group < length c.args.self.now.groups.items =
    rw value at c.loop-group-test.true in
    let group = group-at node c.args.self.now.groups.items c.args.self.now.are_groups
    c.loop-group.group c.slab-item.result l (rw value at c.slab-item.is) in
    let stays = fits-stays node c.args.order c.requires.next c.loop-group.group c.slab-item.result
    c.fits.result group c.fits.ensures.legal in
    let count : length c.args.self.now.groups.items ≡ next_new node.path =
    c.args.self.now.are_groups.count in
    record {
      is = first_group-found node.ranked.mill (orders_of node.ranked) node.path c.loop-group.group
          (omega arith) (sym stays ∙ c.if-fits.true) c.loop-group.invariant;
      number = omega arith;
      stays = sym stays ∙ c.if-fits.true;
    }

pub loop-group-preserved : goal.loop-group-preserved
loop-group-preserved c =
    let node : Node = record {
      ranked = c.args.self.now.ranked.now;
      path = c.args.self.now.numbers.items;
    } in
    let value = c.deref-slab-items.ensures.value in
    let l : c.loop-group.group < length c.args.self.now.groups.items =
    rw value at c.loop-group-test.true in
    let group = group-at node c.args.self.now.groups.items c.args.self.now.are_groups
    c.loop-group.group c.slab-item.result l (rw value at c.slab-item.is) in
    let stays = fits-stays node c.args.order c.requires.next c.loop-group.group c.slab-item.result
    c.fits.result group c.fits.ensures.legal in
    λ g b. elim (last-or-below g c.loop-group.group (omega arith)) [
      | inl e ↦ subst (λ (k : ℕ). stays_legal node.ranked.mill (orders_of node.ranked) node.path k
          ≡ false) (sym e) (sym stays ∙ c.if-fits.false)
      | inr lower ↦ c.loop-group.invariant g lower
    ]

pub returns : goal.returns
returns c =
    let node : Node = record {
      ranked = c.args.self.now.ranked.now;
      path = c.args.self.now.numbers.items;
    } in
    let count : length c.args.self.now.groups.items ≡ next_new node.path =
    c.args.self.now.are_groups.count in
    let all : c.len.result ≡ length c.args.self.now.groups.items = search rules in
    let last : length c.args.self.now.groups.items ≤ c.loop-group.group =
    rw c.deref-slab-items.ensures.value at c.loop-group-test.false in
    record {
      is = first_group-new node.ranked.mill (orders_of node.ranked) node.path c.len.result
          (omega arith) (λ g b. c.loop-group.invariant g (omega arith));
      number = omega arith;
      stays = subst (λ (g : ℕ). stays_legal node.ranked.mill (orders_of node.ranked) node.path g
          ≡ true) (sym (all ∙ count)) (new-stays node c.args.order c.requires.next c.requires.light
          c.args.self.now.some_colour);
    }
