use Rattle.std.proofs.Common.{rules, ◌≡◌, subst, sym, true, false, List, ℤ}
use Rattle.std.proofs.lemmas.Result.{IfOk-weaker}
use Rattle.search_step.specs.Decided.{DecidesInner, DecidesOpen}
use Rattle.search_step.specs.Moves.{exceeds, first_prices, second_prices}
use Rattle.search_step.specs.Steps.{task_at}
use Rattle.search_step.specs.declared.parts.Verdict.TheVariants.{ByPrices}
use Rattle.search_step.proofs.Deciding.{inner-first, inner-second, inner-open}
use Rattle.search_step.proofs.decide.decide_inner.Goals as goal

pub returns-then-exceeds : goal.returns-then-exceeds
returns-then-exceeds c =
    let node = c.args.node.now in
    let charges = c.args.charges.now in
    let first : List ℤ = first_prices (task_at node.ranked charges) node.path in
    let prices : c.into_prices.result ≡ first = search rules in
    let more : exceeds (task_at node.ranked charges) c.args.known node.path first ≡ true =
    search rules in
    subst (λ (p : List ℤ). DecidesInner node.ranked charges c.args.known c.args.store.now node.path
    (ByPrices p)) (sym prices)
    (inner-first node.ranked charges node.path c.args.store.now c.args.known more)

pub returns-then-exceeds-2 : goal.returns-then-exceeds-2
returns-then-exceeds-2 c =
    let node = c.args.node.now in
    let charges = c.args.charges.now in
    let first : List ℤ = first_prices (task_at node.ranked charges) node.path in
    let second : List ℤ = second_prices (task_at node.ranked charges) node.path in
    let prices : c.into_prices-then-exceeds-2.result ≡ second = search rules in
    let less : exceeds (task_at node.ranked charges) c.args.known node.path first ≡ false =
    search rules in
    let more : exceeds (task_at node.ranked charges) c.args.known node.path second ≡ true =
    search rules in
    subst (λ (p : List ℤ). DecidesInner node.ranked charges c.args.known c.args.store.now node.path
    (ByPrices p)) (sym prices)
    (inner-second node.ranked charges node.path c.args.store.now c.args.known less more)

pub returns : goal.returns
returns c =
    let node = c.args.node.now in
    let charges = c.args.charges.now in
    let first : List ℤ = first_prices (task_at node.ranked charges) node.path in
    let second : List ℤ = second_prices (task_at node.ranked charges) node.path in
    let less : exceeds (task_at node.ranked charges) c.args.known node.path first ≡ false =
    search rules in
    let lesser : exceeds (task_at node.ranked charges) c.args.known node.path second ≡ false =
    search rules in
    IfOk-weaker c.decide_open.result (DecidesOpen node.ranked charges c.args.store.now node.path)
    (DecidesInner node.ranked charges c.args.known c.args.store.now node.path)
    (inner-open node.ranked charges node.path c.args.store.now c.args.known less lesser)
    c.decide_open.ensures
