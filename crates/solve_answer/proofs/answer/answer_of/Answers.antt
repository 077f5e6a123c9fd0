-- What the run of the search is, is what is answered.
use Rattle.std.proofs.Common.{◌≡◌, ◌<◌, All, true, length, rules, ap, sym, subst, ◌∙◌}
use Rattle.std.specs.Prelude.{None, Some}
use Rattle.solve_answer.proofs.LossLimit.{numbers-told}
use Rattle.solve_answer.proofs.Answered.{stopped-told, best-told, log-refutes}
use Rattle.solve_answer.proofs.Answered.{told-fits, records-fit}
use Rattle.solve_answer.proofs.Answered.{none-by-length, some-by-length}
use Rattle.solve_answer.proofs.answer.answer_of.Goals as goal

-- the plan that was found has numbers below its length

pub tidy-requires : goal.tidy-requires
tidy-requires c =
    let plan = c.args.run.plan in
    let told = numbers-told c.args.instance.now plan c.requires.searched.1.plan.legal in
    subst (λ n. All (λ s. s < n) plan) (sym told.0) told.1

-- a path is left

pub returns-then-not-is_empty-clause-is : goal.returns-then-not-is_empty-clause-is
returns-then-not-is_empty-clause-is c =
    let run = c.args.run in
    let some : 0 < length run.unclosed.items = search rules in
    λ course has. rw c.in_ok-plan.ensures (stopped-told c.args.limits course c.args.instance.now
    run has (some-by-length run.unclosed.items some) c.requires.instance c.requires.light
    c.requires.nodes)

pub returns-then-not-is_empty-clause-told : goal.returns-then-not-is_empty-clause-told
returns-then-not-is_empty-clause-told c =
    let searched = c.requires.searched in
    told-fits c.args.limits searched.0 c.args.instance.now _ c.requires.instance
    (returns-then-not-is_empty-clause-is c searched.0 searched.1)

-- no path is left, and no log is asked for

pub returns-then-not-with_log-clause-is : goal.returns-then-not-with_log-clause-is
returns-then-not-with_log-clause-is c =
    let run = c.args.run in
    let none : length run.unclosed.items ≡ 0 = search rules in
    λ course has. rw (c.optimal.ensures, c.in_ok-plan.ensures) (best-told c.args.limits course
    c.args.instance.now run has (none-by-length run.unclosed.items none) c.requires.instance
    c.requires.light None tt tt)

pub returns-then-not-with_log-clause-told : goal.returns-then-not-with_log-clause-told
returns-then-not-with_log-clause-told c =
    let searched = c.requires.searched in
    told-fits c.args.limits searched.0 c.args.instance.now _ c.requires.instance
    (returns-then-not-with_log-clause-is c searched.0 searched.1)

-- no path is left, and the records become a log

pub merge-requires-clause-fit : goal.merge-requires-clause-fit
merge-requires-clause-fit c =
    let searched = c.requires.searched in
    rw c.orders.ensures.is (records-fit c.args.limits searched.0 c.args.instance.now
    c.args.run searched.1)

pub returns-clause-is : goal.returns-clause-is
returns-clause-is c =
    let run = c.args.run in
    let none : length run.unclosed.items ≡ 0 = search rules in
    λ course has. rw (c.optimal-2.ensures, c.in_ok-plan.ensures) (best-told c.args.limits course
    c.args.instance.now run has (none-by-length run.unclosed.items none)
    c.requires.instance c.requires.light (Some c.in_ok-log.log)
    (c.in_ok-log.ensures.orders ∙ ap length c.orders.ensures.is) c.in_ok-log.ensures.log)

pub returns-clause-log : goal.returns-clause-log
returns-clause-log c =
    let run = c.args.run in
    let log = c.in_ok-log.log in
    let none : length run.unclosed.items ≡ 0 = search rules in
    let asked : c.args.with_log ≡ true = search rules in
    λ course has. rw (asked, c.optimal-2.ensures) (log-refutes c.args.limits course
    c.args.instance.now run has (none-by-length run.unclosed.items none) log.entries
    c.in_ok-log.ensures.records c.in_ok-log.ensures.complete c.in_ok-log.ensures.named)

pub returns-clause-told : goal.returns-clause-told
returns-clause-told c =
    let searched = c.requires.searched in
    told-fits c.args.limits searched.0 c.args.instance.now _ c.requires.instance
    (returns-clause-is c searched.0 searched.1)
