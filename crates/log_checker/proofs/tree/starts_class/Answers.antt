use Rattle.std.proofs.Common.{◌≤◌, length, suc, ◌-◌, ◌≡◌, not, sym, arith, get_or, refl}
use Rattle.mill_model.specs.Rank.{starts_class_in, same_order}
use Rattle.log_checker.specs.Groups.{no_order}
use Rattle.log_checker.proofs.PathsGoOn.{starts-past, starts-inside}
use Rattle.log_checker.proofs.tree.starts_class.Goals as goal
use Rattle.log_checker.proofs.tree.starts_class.Goals.{then-k-eq0-via-then-k-eq0}
use Rattle.log_checker.proofs.tree.starts_class.Goals.{then-k-eq0-via-else-k-eq0+then-len-k}

pub returns-then-k-eq0 : goal.returns-then-k-eq0
returns-then-k-eq0 c = elim c.then-k-eq0.branch [
  | then-k-eq0-via-then-k-eq0 w ↦ (let e : c.args.k ≡ 0 = w.if-k-eq0.true in rw e refl)
  | then-k-eq0-via-else-k-eq0+then-len-k w ↦
      (let h : length c.args.rules.now.ranked.items ≤ c.args.k = omega (arith, w.if-len-k.true) in
      sym (starts-past c.args.k c.args.rules.now.ranked.items h))
]

pub returns : goal.returns
returns c =
    let e : suc (c.args.k - 1) ≡ c.args.k = omega (arith, c.if-k-eq0.false) in
    let a : starts_class_in (suc (c.args.k - 1)) c.args.rules.now.ranked.items ≡ not
    (same_order (get_or c.args.rules.now.ranked.items (c.args.k - 1) no_order)
    (get_or c.args.rules.now.ranked.items (suc (c.args.k - 1)) no_order)) =
    starts-inside (c.args.k - 1) c.args.rules.now.ranked.items no_order (omega (
      arith,
      c.if-len-k.false,
    )) in
    let b = rw e at a in
    rw (c.same_order.ensures, c.order.ensures.is, c.order-2.ensures.is) (sym b)
