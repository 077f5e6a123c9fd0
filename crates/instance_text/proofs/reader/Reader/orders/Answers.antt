use Rattle.std.proofs.Common.{◌≡◌, ◌+◌, ◌-◌, [], ◌∷◌, arith}
use Rattle.std.proofs.lemmas.Result.{err_from_is_err_and}
use Rattle.instance_text.specs.declared.field.Field.TheVariants.{Weight, Colour}
use Rattle.instance_text.specs.Fields.{order_fields}
use Rattle.instance_text.proofs.FieldsInTurn.{fails_on, took_on}
use Rattle.instance_text.proofs.Repeats.{orders_more, orders_split, length-order_fields}
use Rattle.instance_text.proofs.Repeats.{took_no_order, took_tokens, numbers_of_orders_push}
use Rattle.instance_text.proofs.reader.Reader.orders.Goals as goal

pub loop-init : goal.loop-init
loop-init c = rw c.in_ok-orders.ensures.items (took_no_order c.args.self.now)

pub order-requires : goal.order-requires
order-requires c =
    let tokens = took_tokens _ _ _ _ c.loop.invariant in
    omega (arith, tokens, length-order_fields c.loop.counter)

pub returns-in_err-order-clause-refused : goal.returns-in_err-order-clause-refused
returns-in_err-order-clause-refused c =
    let p = err_from_is_err_and c.from_residual-in_err-order.result
    c.from_residual-in_err-order.ensures.1 in
    rw (p.1, p.2) (fails_on (order_fields c.loop.counter) (Weight ∷ Colour ∷ [])
    (order_fields (c.args.count - (c.loop.counter + 1))) (order_fields c.args.count) _
    c.args.self.now c.loop.self _ (orders_split c.args.count c.loop.counter c.loop-test.true)
    c.loop.invariant c.in_err-order.ensures.refused)

pub loop-preserved : goal.loop-preserved
loop-preserved c =
    rw (
      c.in_ok-push.ensures.items,
      ← numbers_of_orders_push c.loop.orders.items
          c.in_ok-order.order,
    )
    (took_on (order_fields c.loop.counter) (Weight ∷ Colour ∷ []) _ _ _ c.args.self.now
    c.loop.self c.order.new.self (orders_more c.loop.counter) c.loop.invariant
    c.in_ok-order.ensures.taken)

pub returns-clause-taken : goal.returns-clause-taken
returns-clause-taken c =
    let all : c.loop.counter ≡ c.args.count = omega arith in
    rw (← all) c.loop.invariant
