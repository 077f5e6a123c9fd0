-- Child by child: all that were passed have lesser labels, and labels rise.
use Rattle.std.proofs.Common.{◌<◌, ◌∙◌, ◌++◌, ◌∷◌, [], sym}
use Rattle.std.proofs.Common.{subst, arith}
use Rattle.index_links.specs.Forest.{label_of}
use Rattle.index_links.proofs.Walked.{HasPassed, at-child, child-there, labels-fall, passed-more}
use Rattle.index_links.proofs.Walked.{push-each}
use Rattle.piece_merge.proofs.ChildWith.{none-at-all, none-here}
use Rattle.piece_merge.proofs.tree_walk.child_with.Goals as goal

pub label-other-requires : goal.label-other-requires
label-other-requires c =
    let inv = c.loop-next.invariant in
    let at = at-child c.args.links.now c.args.parent inv.passed inv.rest c.loop-next.next
    c.in-Some.child inv.walked c.in-Some.is in
    (child-there c.args.links.now inv.kept c.args.parent inv.there inv.passed at.0
    c.in-Some.child at.1).0

pub next_sibling-next-requires : goal.next_sibling-next-requires
next_sibling-next-requires c =
    let inv = c.loop-next.invariant in
    let at = at-child c.args.links.now c.args.parent inv.passed inv.rest c.loop-next.next
    c.in-Some.child inv.walked c.in-Some.is in
    (child-there c.args.links.now inv.kept c.args.parent inv.there inv.passed at.0
    c.in-Some.child at.1).0

pub returns-then-other-label-2 : goal.returns-then-other-label-2
returns-then-other-label-2 c =
    let inv = c.loop-next.invariant in
    let at = at-child c.args.links.now c.args.parent inv.passed inv.rest c.loop-next.next
    c.in-Some.child inv.walked c.in-Some.is in
    let child = child-there c.args.links.now inv.kept c.args.parent inv.there inv.passed at.0
    c.in-Some.child at.1 in
    (child.0, child.1, sym c.label-other.ensures.is ∙ c.if-other-label-2.true)

pub returns-else-other-label-2 : goal.returns-else-other-label-2
returns-else-other-label-2 c =
    let inv = c.loop-next.invariant in
    let at = at-child c.args.links.now c.args.parent inv.passed inv.rest c.loop-next.next
    c.in-Some.child inv.walked c.in-Some.is in
    none-here c.args.links.now inv.kept c.args.parent inv.there inv.passed at.0
    c.in-Some.child at.1 c.args.label inv.lesser
    (omega (arith, c.label-other.ensures.is, c.if-other-label.true))
    (λ e. c.if-other-label-2.false (c.label-other.ensures.is ∙ e))

pub loop-next-smaller : goal.loop-next-smaller
loop-next-smaller c =
    let inv = c.loop-next.invariant in
    let at = at-child c.args.links.now c.args.parent inv.passed inv.rest c.loop-next.next
    c.in-Some.child inv.walked c.in-Some.is in
    rw (c.next_sibling-next.ensures.is, c.in-Some.is)
    (labels-fall c.args.links.now inv.kept c.args.parent inv.there inv.passed at.0
    c.in-Some.child at.1
    (omega (arith, c.label-other.ensures.is, c.if-other-label.false, c.ranges.label.fits)))

pub loop-next-preserved : goal.loop-next-preserved
loop-next-preserved c =
    let inv = c.loop-next.invariant in
    let at = at-child c.args.links.now c.args.parent inv.passed inv.rest c.loop-next.next
    c.in-Some.child inv.walked c.in-Some.is in
    record {
      kept = inv.kept;
      there = inv.there;
      passed = inv.passed ++ c.in-Some.child ∷ [];
      rest = at.0;
      walked = subst (HasPassed c.args.links.now c.args.parent
          (inv.passed ++ c.in-Some.child ∷ []) at.0) (sym c.next_sibling-next.ensures.is)
          (passed-more c.args.links.now inv.kept c.args.parent inv.there inv.passed at.0
          c.in-Some.child at.1);
      lesser = push-each (λ x. label_of c.args.links.now x < c.args.label) inv.passed
          c.in-Some.child inv.lesser
          (omega (arith, c.label-other.ensures.is, c.if-other-label.false));
    }

pub returns : goal.returns
returns c =
    let inv = c.loop-next.invariant in
    none-at-all c.args.links.now c.args.parent inv.passed inv.rest c.loop-next.next inv.walked
    c.in_default.is c.args.label inv.lesser
