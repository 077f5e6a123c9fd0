use Rattle.std.proofs.Common.{List, ◌≡◌, ◌+◌, ◌∷◌, [], ◌++◌, length, sym, subst, ap, ◌∙◌}
use Rattle.std.specs.List.{All}
use Rattle.std.proofs.lemmas.List.{length-append}
use Rattle.std.proofs.lemmas.List.Elements.{All-push}
use Rattle.mill_model.specs.Instance.{IsOrder}
use Rattle.mill_model.specs.declared.order.Order.{Order}
use Rattle.greedy_start.proofs.tests.orders_from.Goals as goal

pub loop-weight-preserved : goal.loop-weight-preserved
loop-weight-preserved c =
    let order : Order = c.order_of.result in
    let more : c.push.new.self.items ≡ c.loop-weight.list.items ++ order ∷ [] =
    c.in_ok-push.ensures.items in (
      subst (λ (xs : List Order). All IsOrder xs) (sym more)
          (All-push IsOrder c.loop-weight.list.items order c.loop-weight.invariant.0
          c.order_of.ensures),
      ap length more ∙ length-append c.loop-weight.list.items (order ∷ [])
          ∙ ap (λ n. n + 1) c.loop-weight.invariant.1,
    )
