use Rattle.std.proofs.Common.{◌≡◌, ap, rules, true}
use Rattle.refute_log.specs.Rising.{comes_before, path_order}
use Rattle.refute_log.proofs.Order.{order-same, order-before, order-after, before-differs}
use Rattle.refute_log.proofs.Order.{after-differs, before-not}
use Rattle.std.specs.declared.cmp.Ordering.TheVariants as order
use Rattle.log_checker.specs.Agenda.{wanted_path}
use Rattle.log_checker.specs.declared.verdict.LogVerdict.TheVariants as verdicts
use Rattle.log_checker.proofs.check.misplaced.Goals as goal

pub returns-in_ok-verdict-in-Less-clause-apart : goal.returns-in_ok-verdict-in-Less-clause-apart
returns-in_ok-verdict-in-Less-clause-apart c =
    let wanted = wanted_path c.args.log.now c.args.wanted in
    let path = c.args.entry.now.path in
    let o : path_order wanted path ≡ order.Less = search rules in
    let b : comes_before wanted path ≡ true = order-before wanted path o in
    let v : c.in_ok-verdict-in-Less.verdict ≡ verdicts.Missing wanted = search rules in
    (before-differs wanted path b, rw b v)

pub returns-in_ok-copy-in-Greater-clause-apart : goal.returns-in_ok-copy-in-Greater-clause-apart
returns-in_ok-copy-in-Greater-clause-apart c =
    let wanted = wanted_path c.args.log.now c.args.wanted in
    let path = c.args.entry.now.path in
    let o : path_order wanted path ≡ order.Greater = search rules in
    let b : comes_before path wanted ≡ true = order-after wanted path o in
    let v : c.in_ok-copy-in-Greater.field-0 ≡ path = search rules in
    (after-differs path wanted b, rw (before-not path wanted b) (ap (λ x. verdicts.Stray x) v))

pub returns-in-Equal-clause-same : goal.returns-in-Equal-clause-same
returns-in-Equal-clause-same c =
    let wanted = wanted_path c.args.log.now c.args.wanted in
    let o : path_order wanted c.args.entry.now.path ≡ order.Equal = search rules in
    order-same wanted c.args.entry.now.path o
