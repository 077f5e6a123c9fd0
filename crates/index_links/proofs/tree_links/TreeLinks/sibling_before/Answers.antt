-- Child by child: those that were passed have lesser labels, and the last of them is the answer.
use Rattle.std.proofs.Common.{◌<◌, ◌≤◌, ◌≡◌, ◌∙◌, ◌++◌, ◌∷◌, [], None, sym}
use Rattle.std.proofs.Common.{subst, ap, arith, append-nil}
use Rattle.index_links.specs.Forest.{label_of, lesser, nodes_before}
use Rattle.index_links.specs.Nodes.{last_of}
use Rattle.index_links.proofs.Inserted.{lesser-front}
use Rattle.index_links.proofs.Walked.{HasPassed, at-child, child-there, labels-fall, last-push}
use Rattle.index_links.proofs.Walked.{passed-all, passed-more, push-each}
use Rattle.index_links.proofs.tree_links.TreeLinks.sibling_before.Goals as goal

pub label-requires : goal.label-requires
label-requires c =
    let inv = c.loop-next.invariant in
    let at = at-child c.args.self.now c.in-Some.parent inv.passed inv.rest c.loop-next.next
    c.in-Some-next.child inv.walked c.in-Some-next.is in
    (child-there c.args.self.now inv.kept c.in-Some.parent inv.there inv.passed at.0
    c.in-Some-next.child at.1).0

pub next_sibling-next-requires : goal.next_sibling-next-requires
next_sibling-next-requires c =
    let inv = c.loop-next.invariant in
    let at = at-child c.args.self.now c.in-Some.parent inv.passed inv.rest c.loop-next.next
    c.in-Some-next.child inv.walked c.in-Some-next.is in
    (child-there c.args.self.now inv.kept c.in-Some.parent inv.there inv.passed at.0
    c.in-Some-next.child at.1).0

pub loop-next-smaller : goal.loop-next-smaller
loop-next-smaller c =
    let inv = c.loop-next.invariant in
    let at = at-child c.args.self.now c.in-Some.parent inv.passed inv.rest c.loop-next.next
    c.in-Some-next.child inv.walked c.in-Some-next.is in
    rw (c.next_sibling-next.ensures.is, c.in-Some-next.is)
    (labels-fall c.args.self.now inv.kept c.in-Some.parent inv.there inv.passed at.0
    c.in-Some-next.child at.1
    (omega (arith, c.label.ensures.is, c.if-label.false, c.ranges.label.fits)))

pub loop-next-preserved : goal.loop-next-preserved
loop-next-preserved c =
    let inv = c.loop-next.invariant in
    let at = at-child c.args.self.now c.in-Some.parent inv.passed inv.rest c.loop-next.next
    c.in-Some-next.child inv.walked c.in-Some-next.is in
    record {
      kept = inv.kept;
      there = inv.there;
      passed = inv.passed ++ c.in-Some-next.child ∷ [];
      rest = at.0;
      walked = subst (HasPassed c.args.self.now c.in-Some.parent
          (inv.passed ++ c.in-Some-next.child ∷ []) at.0) (sym c.next_sibling-next.ensures.is)
          (passed-more c.args.self.now inv.kept c.in-Some.parent inv.there inv.passed at.0
          c.in-Some-next.child at.1);
      before = sym (last-push None inv.passed c.in-Some-next.child);
      lesser = push-each (λ x. label_of c.args.self.now x < c.args.label) inv.passed
          c.in-Some-next.child inv.lesser
          (omega (arith, c.label.ensures.is, c.if-label.false));
    }

pub returns-then-label : goal.returns-then-label
returns-then-label c =
    let f = c.args.self.now in
    let inv = c.loop-next.invariant in
    let at = at-child f c.in-Some.parent inv.passed inv.rest c.loop-next.next
    c.in-Some-next.child inv.walked c.in-Some-next.is in
    let high : c.args.label ≤ label_of f c.in-Some-next.child =
    omega (arith, c.label.ensures.is, c.if-label.true) in
    let front = lesser-front f c.args.label inv.passed (c.in-Some-next.child ∷ at.0) inv.lesser
    (λ y e. subst (λ z. c.args.label ≤ label_of f z)
    (let same : c.in-Some-next.child ≡ y = cc in same) high) in
    inv.before ∙ ap last_of (sym front)
    ∙ ap (λ xs. last_of (lesser f.labels c.args.label xs)) (sym at.1.are)
    ∙ ap (λ o. last_of (nodes_before f o c.args.label)) (sym c.in-Some.is)

pub returns-in_default-next : goal.returns-in_default-next
returns-in_default-next c =
    let f = c.args.self.now in
    let inv = c.loop-next.invariant in
    let all = passed-all f c.in-Some.parent inv.passed inv.rest c.loop-next.next inv.walked
    c.in_default-next.is in
    let front = lesser-front f c.args.label inv.passed [] inv.lesser (λ y e. absurd (cc)) in
    inv.before ∙ ap last_of (sym front)
    ∙ ap (λ xs. last_of (lesser f.labels c.args.label xs)) (append-nil inv.passed ∙ sym all)
    ∙ ap (λ o. last_of (nodes_before f o c.args.label)) (sym c.in-Some.is)
